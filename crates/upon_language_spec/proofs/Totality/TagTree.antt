-- A row of fine tokens that leads from a tag's start to its end is a whole tag.
use Rattle.std.proofs.Common.{◌≡◌, ℕ, List, [], ◌∷◌, ◌++◌, Bool, true, false, Option, Some, None, refl, sym, ap, ◌∙◌, subst}
use Rattle.std.proofs.lemmas.Bool.{false_from_ne_true}
use Rattle.upon_types.specs.declared.types.token.Token.{Token}
use Rattle.upon_types.specs.declared.types.token.Token.TheVariants.{Raw, BeginExpr, EndExpr, BeginBlock, EndBlock, BeginComment, EndComment, OpenBracket, CloseBracket, OpenBrace, CloseBrace, OpenParen, CloseParen, Dot, QuestionDot, Pipe, Comma, Colon, Plus, Minus, Whitespace, Keyword, Ident, Index, Number, String}
use Rattle.upon_types.specs.Span.{slice}
use Rattle.upon_language_spec.specs.Cut.{Lexeme}
use Rattle.upon_language_spec.specs.Literal.{IsInteger}
use Rattle.upon_language_spec.specs.LaterFaults.{minus_before}
use Rattle.upon_language_spec.specs.Tags.{IsTag, symbol_of, symbols_of, word_of}
use Rattle.upon_language_spec.specs.Keys.{Key, keyword_of}
use Rattle.upon_language_spec.specs.Parts.{Part, a_base, after_name, a_magnitude, list_start, call_start, tag_start, condition, is_optional, goes, left_of, after, after_symbol, Path}
use Rattle.upon_language_spec.specs.InTags.{StandsFor, EachStands}
use Rattle.upon_language_spec.proofs.Wanted.LeadingBegins.{known}
use Rattle.upon_language_spec.proofs.Totality.Means.{Means, Reads}
use Rattle.upon_language_spec.proofs.Totality.ExpressionTree.{is_magnitude, first_is_magnitude, Value, NumberBehind, reads_on}

-- after a minus its number is to come
minus_goes_on : (p : Part) (k : Key) (first : List Part) → goes p Minus k ≡ Some first → (others : List Part) → first_is_magnitude (first ++ others) ≡ true
minus_goes_on a_base k [] e others = absurd cc
minus_goes_on a_base k (q ∷ first) e others = let same : a_magnitude ≡ q = cc in ap is_magnitude (sym same)
minus_goes_on after_name k first e others = absurd cc
minus_goes_on list_start k [] e others = absurd cc
minus_goes_on list_start k (q ∷ first) e others = let same : a_magnitude ≡ q = cc in ap is_magnitude (sym same)
minus_goes_on call_start k [] e others = absurd cc
minus_goes_on call_start k (q ∷ first) e others = let same : a_magnitude ≡ q = cc in ap is_magnitude (sym same)
minus_goes_on condition k [] e others = absurd cc
minus_goes_on condition k (q ∷ first) e others = let same : a_magnitude ≡ q = cc in ap is_magnitude (sym same)
minus_goes_on p k first e others = absurd cc

minus_by : (p : Part) (k : Key) (took : Option (List Part)) (optional : Bool) (ps next : List Part) → goes p Minus k ≡ took → left_of took optional ps (after ps Minus k) ≡ Some next → ((o : List Part) → after ps Minus k ≡ Some o → first_is_magnitude o ≡ true) → first_is_magnitude next ≡ true
minus_by p k (Some first) optional ps next e h others = let same : first ++ ps ≡ next = cc in ap first_is_magnitude (sym same) ∙ minus_goes_on p k first e ps
minus_by p k None true ps next e h others = others next h
minus_by p k None false ps next e h others = absurd cc

pub minus_goes : (ps next : List Part) (k : Key) → after ps Minus k ≡ Some next → first_is_magnitude next ≡ true
minus_goes [] next k h = absurd cc
minus_goes (p ∷ ps) next k h = minus_by p k (goes p Minus k) (is_optional p) ps next refl h (λ o e. minus_goes ps o k e)

is_minus : (b : Bool) (t : Token) → elim t [ Minus ↦ true | _ ↦ false ] ≡ true → t ≡ Minus
is_minus b Minus h = refl
is_minus b t h = absurd cc

-- after a minus nothing else may be to come than its number
abbrev pub Signed : Option Lexeme → List Part → Type 0
Signed before ps = minus_before before ≡ true → first_is_magnitude ps ≡ true

module _ (s : List ℕ) where
  unsigned : (before : Option Lexeme) (ps : List Part) → Signed before ps → first_is_magnitude ps ≡ false → minus_before before ≡ false
  unsigned before ps h e = false_from_ne_true (minus_before before) (λ m. let x = h m in cc)

  pub signed_on : (l : Lexeme) (ps next : List Part) → after_symbol ps (symbol_of s l) ≡ Some next → Signed (Some l) next
  signed_on l ps next h minus =
      let same = is_minus true l.token minus in
      let F : Token → Type 0 = λ t. after_symbol ps (record { token = t; word = word_of s t l.span }) ≡ Some next in
      minus_goes ps next (keyword_of []) (subst F same h)

  value_of : (before : Option Lexeme) (ps : List Part) (t : Token) (l : Lexeme) → StandsFor s before t l → Signed before ps → first_is_magnitude ps ≡ false → Value s t (keyword_of (word_of s t l.span)) l
  value_of before ps Keyword l h signed e = λ k. sym (known (slice s l.span) k)
  value_of before ps Number l h signed e = let F : Bool → Type 0 = λ b. IsInteger b (slice s l.span) h.0 in (h.0, subst F (unsigned before ps signed e) h.1)
  value_of before ps Index l h signed e = h
  value_of before ps String l h signed e = h
  value_of before ps Raw l h signed e = tt
  value_of before ps BeginExpr l h signed e = tt
  value_of before ps EndExpr l h signed e = tt
  value_of before ps BeginBlock l h signed e = tt
  value_of before ps EndBlock l h signed e = tt
  value_of before ps BeginComment l h signed e = tt
  value_of before ps EndComment l h signed e = tt
  value_of before ps OpenBracket l h signed e = tt
  value_of before ps CloseBracket l h signed e = tt
  value_of before ps OpenBrace l h signed e = tt
  value_of before ps CloseBrace l h signed e = tt
  value_of before ps OpenParen l h signed e = tt
  value_of before ps CloseParen l h signed e = tt
  value_of before ps Dot l h signed e = tt
  value_of before ps QuestionDot l h signed e = tt
  value_of before ps Pipe l h signed e = tt
  value_of before ps Comma l h signed e = tt
  value_of before ps Colon l h signed e = tt
  value_of before ps Plus l h signed e = tt
  value_of before ps Minus l h signed e = tt
  value_of before ps Whitespace l h signed e = tt
  value_of before ps Ident l h signed e = tt

  number_behind : (l : Lexeme) (ls : List Lexeme) → EachStands s (Some l) ls → NumberBehind s l ls
  number_behind l [] each number rest e is = absurd cc
  number_behind l (k ∷ ks) each number rest e is =
      let same : k ≡ number = cc in
      let F : Lexeme → Type 0 = λ x. StandsFor s (Some l) x.token x in
      let G : Token → Type 0 = λ t. StandsFor s (Some l) t number in
      subst G is (subst F same each.0)

  -- what leads to nothing more is read whole
  pub read_all : (ts : List Lexeme) (ps : List Part) (before : Option Lexeme) → Path ps (symbols_of s ts) [] → EachStands s before ts → Signed before ps → Means s ps ts
  read_all [] ps before e each signed = let F : List Part → Type 0 = λ x. Means s x [] in subst F (sym e) refl
  read_all (l ∷ ts) ps before (next, goes, path) each signed =
      let F : Option (List Part) → Type 0 = λ x. Reads s x ts in
      reads_on s ps l.token (keyword_of (word_of s l.token l.span)) l ts (number_behind l ts each.1) refl (value_of before ps l.token l each.0 signed) (subst F (sym goes) (read_all ts next (Some l) path each.1 (signed_on l ps next goes)))

  -- a whole tag
  pub whole_tag : (ts : List Lexeme) → Path (tag_start ∷ []) (symbols_of s ts) [] → EachStands s None ts → IsTag s ts []
  whole_tag ts path each =
      let (rest, tag, none) = read_all ts (tag_start ∷ []) None path each (λ e. absurd cc) in
      let F : List Lexeme → Type 0 = λ x. IsTag s ts x in
      subst F none tag

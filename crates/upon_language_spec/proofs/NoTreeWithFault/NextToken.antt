-- The token after an open tag, where the text has a tree: the tag's row goes on with it, and it ends the tag or is fine.
use Rattle.std.proofs.Common.{◌≡◌, ◌⊎◌, inl, inr, ℕ, List, [], ◌∷◌, ◌++◌, length, Bool, true, false, Option, None, refl, sym, ap, ◌∙◌, subst, arith, if◌then◌else◌, ◌&&◌}
use Rattle.upon_types.specs.declared.types.token.Token.{Token}
use Rattle.upon_types.specs.declared.types.token.Token.TheVariants.{EndExpr, EndBlock, Whitespace}
use Rattle.upon_types.specs.Tree.{Statements}
use Rattle.upon_language_spec.specs.Search.{DelimiterText, HasTexts}
use Rattle.upon_language_spec.specs.Delimiters.{Sort, expression, block, comment, begin_token}
use Rattle.upon_language_spec.specs.Cut.{Lexeme, outside, in_tag, Cut, IsToken}
use Rattle.upon_language_spec.specs.Shown.{shown_lexemes, begin_trims, is_end}
use Rattle.upon_language_spec.specs.Tokens.{is_space, begins_comment, is_raw, without_spaces, without_comments, comment_from, significant}
use Rattle.upon_language_spec.specs.Reading.{open_tag, open_brackets, brackets_after, brackets_from}
use Rattle.upon_language_spec.specs.Grammar.{AreStatements, HasTree}
use Rattle.upon_language_spec.specs.Tags.{symbol_of, symbols_of, BeginsTag}
use Rattle.upon_language_spec.specs.Faults.{tag_tokens, tag_row, lexeme_at}
use Rattle.upon_language_spec.proofs.NoTreeWithFault.Fine.{TokenFine, Fine}
use Rattle.upon_language_spec.specs.InTags.{last_or, ends_a_tag, is_inside, EachInside}
use Rattle.upon_language_spec.proofs.NoTreeWithFault.TagShapes.{begins_a_tag}
use Rattle.upon_language_spec.proofs.NoTreeWithFault.InsideTag.{shown_same}
use Rattle.upon_language_spec.proofs.NoTreeWithFault.SplitInTag.{InTag, split_in_tag}
use Rattle.upon_language_spec.proofs.OneCut.Token.{one_step, step_ends}
use Rattle.upon_language_spec.proofs.OneCut.Cut.{cut_on}
use Rattle.upon_language_spec.proofs.NoTreeWithFault.OpenTagFine.{NoEnds, next_token, row_begins}

-- ---- tokens that are kept
kept_without : (b : Bool) (l : Lexeme) (ls ks : List Lexeme) → b ≡ false → (if b then ks else (l ∷ ls)) ≡ l ∷ ls
kept_without true l ls ks h = absurd cc
kept_without false l ls ks h = refl

-- a token that is no raw part, no whitespace and no begin of comment stays first
first_kept : (s : List ℕ) (a : Bool) (l : Lexeme) (ls : List Lexeme) → is_raw l.token ≡ false → is_space l.token ≡ false → begins_comment l.token ≡ false → (back : List Lexeme) × (significant (shown_lexemes s a (l ∷ ls)) ≡ l ∷ back)
first_kept s a l ls raw space comments =
    let others = shown_lexemes s (is_end l.token && l.hyphen) ls in
    let shown : shown_lexemes s a (l ∷ ls) ≡ l ∷ others = ap (λ x. x ∷ others) (shown_same s a (begin_trims ls) l.token l raw) in
    let spaced : without_spaces (l ∷ others) ≡ l ∷ without_spaces others = kept_without (is_space l.token) l (without_spaces others) (without_spaces others) space in
    (without_comments (without_spaces others), ap significant shown ∙ ap without_comments spaced ∙ kept_without (begins_comment l.token) l (without_comments (without_spaces others)) (comment_from l (without_spaces others)) comments)

pub begin_is_no_space : (sort : Sort) → is_space (begin_token sort) ≡ false
begin_is_no_space expression = refl
begin_is_no_space block = refl
begin_is_no_space comment = refl

begin_begins : (sort : Sort) → begins_comment (begin_token sort) ≡ false → begins_a_tag (begin_token sort) ≡ true
begin_begins expression h = refl
begin_begins block h = refl
begin_begins comment h = absurd cc

pub inside_ends_nothing : (t : Token) → is_inside t ≡ true → ends_a_tag t ≡ false
inside_ends_nothing EndExpr h = absurd cc
inside_ends_nothing EndBlock h = absurd cc
inside_ends_nothing t h = refl

spaced_by : (b : Bool) (l : Lexeme) (ls : List Lexeme) → ends_a_tag l.token ≡ false → NoEnds ls → NoEnds (if b then ls else (l ∷ ls))
spaced_by true l ls h k = k
spaced_by false l ls h k = (h, k)

no_ends_inside : (ls : List Lexeme) → EachInside ls → NoEnds (without_spaces ls)
no_ends_inside [] h = tt
no_ends_inside (l ∷ ls) h = spaced_by (is_space l.token) l (without_spaces ls) (inside_ends_nothing l.token h.0) (no_ends_inside ls h.1)

-- ---- brackets
space_keeps : (t : Token) (stack : List Lexeme) (l : Lexeme) → is_space t ≡ true → brackets_after stack t l ≡ stack
space_keeps Whitespace [] l h = refl
space_keeps Whitespace (o ∷ stack) l h = refl
space_keeps _ stack l h = absurd cc

brackets_by : (b : Bool) (stack : List Lexeme) (l : Lexeme) (ls spaced : List Lexeme) → is_space l.token ≡ b → ((x : List Lexeme) → brackets_from x spaced ≡ brackets_from x ls) → brackets_from stack (if b then spaced else (l ∷ spaced)) ≡ brackets_from (brackets_after stack l.token l) ls
brackets_by true stack l ls spaced h others = ap (λ x. brackets_from x spaced) (sym (space_keeps l.token stack l h)) ∙ others (brackets_after stack l.token l)
brackets_by false stack l ls spaced h others = others (brackets_after stack l.token l)

brackets_spaced : (stack : List Lexeme) (ls : List Lexeme) → brackets_from stack (without_spaces ls) ≡ brackets_from stack ls
brackets_spaced stack [] = refl
brackets_spaced stack (l ∷ ls) = brackets_by (is_space l.token) stack l ls (without_spaces ls) refl (λ x. brackets_spaced x ls)

begin_keeps : (sort : Sort) (l : Lexeme) → brackets_after [] (begin_token sort) l ≡ []
begin_keeps expression l = refl
begin_keeps block l = refl
begin_keeps comment l = refl

in_tag_is_not_outside : {sort : Sort} {path : Bool} → in_tag sort path ≡ outside → ⊥
in_tag_is_not_outside e = cc

lexeme_is : (x : Lexeme) (t : Token) (hyphen : Bool) (p to : ℕ) → x.token ≡ t → x.hyphen ≡ hyphen → x.span.m ≡ p → x.span.n ≡ to → x ≡ lexeme_at t hyphen p to
lexeme_is x t hyphen p to a b c d = λ i. record { token = a i; hyphen = b i; span = record { m = c i; n = d i } }

-- what is known of the token t that is at p after an open tag
pub record Next (s : List ℕ) (ls : List Lexeme) (x : Lexeme) : Type 0 where
  pub begin : Lexeme
  pub inner : List Lexeme
  pub tag : tag_tokens ls ≡ begin ∷ inner
  pub plain_begin : begins_a_tag begin.token ≡ true
  pub brackets : open_brackets ls ≡ brackets_from [] inner
  pub begins : BeginsTag (tag_row s ls ++ symbol_of s x ∷ [])
  pub last : ((ends_a_tag x.token ≡ true) × ((before' : Option Lexeme) × Fine s [] None inner [] before')) ⊎ TokenFine s (brackets_from [] inner) (last_or None inner) x.token x

-- a token that ends no tag is fine
pub next_fine : (s : List ℕ) (ls : List Lexeme) (x : Lexeme) (next : Next s ls x) → ends_a_tag x.token ≡ false → TokenFine s (brackets_from [] next.inner) (last_or None next.inner) x.token x
next_fine s ls x next none = elim next.last [
  | inl h ↦ let ends = h.0 in absurd cc
  | inr h ↦ h
]

module _ (delimiters : List DelimiterText) (s : List ℕ) (texts : HasTexts delimiters) (sort : Sort) (path : Bool) (p : ℕ) (ls : List Lexeme) (reads : Cut delimiters s outside 0 ls (in_tag sort path) p) (tree : Statements) (has : HasTree delimiters s tree) where
  next_of : (x : Lexeme) (r : List Lexeme) → is_raw x.token ≡ false → is_space x.token ≡ false → begins_comment x.token ≡ false → InTag s sort (x ∷ r) (open_tag ls) (significant (shown_lexemes s false (ls ++ (x ∷ r)))) → AreStatements s tree (significant (shown_lexemes s false (ls ++ (x ∷ r)))) [] → Next s ls x
  next_of x r raw space comments g are =
      let back = first_kept s g.later x r raw space comments in
      let inner = without_spaces g.inner in
      let begin_space : is_space g.begin.token ≡ false = ap is_space g.of_sort ∙ begin_is_no_space sort in
      let begin_kept : without_spaces (g.begin ∷ g.inner) ≡ g.begin ∷ inner = kept_without (is_space g.begin.token) g.begin inner inner begin_space in
      let tokens : significant (shown_lexemes s false (ls ++ (x ∷ r))) ≡ g.front ++ (g.begin ∷ (inner ++ (x ∷ back.0))) =
      g.tokens ∙ ap (λ y. g.front ++ (y ++ significant (shown_lexemes s g.later (x ∷ r)))) begin_kept ∙ ap (λ y. g.front ++ ((g.begin ∷ inner) ++ y)) back.1 in
      let F : List Lexeme → Type 0 = λ y. AreStatements s tree y [] in
      let begins : begins_a_tag g.begin.token ≡ true = ap begins_a_tag g.of_sort ∙ begin_begins sort (sym (ap begins_comment g.of_sort) ∙ g.no_comment) in
      let no_ends = no_ends_inside g.inner g.inside in
      let tag : tag_tokens ls ≡ g.begin ∷ inner = ap without_spaces g.opens ∙ begin_kept in
      record {
        begin = g.begin;
        inner = inner;
        tag = tag;
        plain_begin = begins;
        brackets = ap (brackets_from []) g.opens ∙ ap (λ y. brackets_from (brackets_after [] y g.begin) g.inner) g.of_sort ∙ ap (λ y. brackets_from y g.inner) (begin_keeps sort g.begin) ∙ sym (brackets_spaced [] g.inner);
        begins = row_begins s tree g.front g.begin inner x back.0 (subst F tokens are) begins no_ends (tag_row s ls) (ap (symbols_of s) tag);
        last = (next_token s tree g.front g.begin inner x back.0 (subst F tokens are) begins no_ends).1;
      }

  pub the_next : (t : Token) (hyphen : Bool) (to : ℕ) → IsToken delimiters s (in_tag sort path) t hyphen p to → is_raw t ≡ false → is_space t ≡ false → begins_comment t ≡ false → Next s ls (lexeme_at t hyphen p to)
  the_next t hyphen to step raw space comments =
      let ends = step_ends delimiters s (in_tag sort path) t hyphen p to texts step in
      let on = cut_on delimiters s texts outside (in_tag sort path) outside 0 p (length s) ls has.lexemes (omega (arith, ends.0, ends.1)) reads has.cut in
      behind on.0 on.1 on.2
    where
      behind : (rest : List Lexeme) → has.lexemes ≡ ls ++ rest → Cut delimiters s (in_tag sort path) p rest outside (length s) → Next s ls (lexeme_at t hyphen p to)
      behind [] e cut = absurd (in_tag_is_not_outside cut.0)
      behind (x ∷ r) e cut =
          let same = one_step delimiters s (in_tag sort path) x.token t x.hyphen hyphen p x.span.n to cut.1 step in
          let is : x ≡ lexeme_at t hyphen p to = lexeme_is x t hyphen p to same.0 same.1 cut.0 same.2 in
          let F : List Lexeme → Type 0 = λ y. AreStatements s tree (significant (shown_lexemes s false y)) [] in
          subst (Next s ls) is (next_of x r (ap is_raw same.0 ∙ raw) (ap is_space same.0 ∙ space) (ap begins_comment same.0 ∙ comments) (split_in_tag delimiters s sort path p ls (x ∷ r) reads) (subst F e has.reads))

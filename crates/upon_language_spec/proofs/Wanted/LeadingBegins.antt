-- A row that leads to some parts begins a tag.
use Rattle.std.proofs.Common.{◌≡◌, ℕ, pos, List, [], ◌∷◌, ◌++◌, length, Bool, true, false, Option, Some, None, refl, sym, ap, ◌∙◌, subst, arith}
use Rattle.upon_types.specs.declared.types.Span.{Span}
use Rattle.upon_types.specs.declared.types.token.Token.{Token}
use Rattle.upon_types.specs.declared.types.token.Token.TheVariants.{CloseBracket, CloseBrace, CloseParen, EndExpr, EndBlock, BeginExpr, Colon, Keyword, Ident, Index, Number, String}
use Rattle.upon_types.specs.Span.{slice}
use Rattle.upon_language_spec.specs.Cut.{Lexeme}
use Rattle.upon_language_spec.specs.Literal.{IsInteger}
use Rattle.upon_language_spec.specs.LaterFaults.{minus_before}
use Rattle.upon_language_spec.specs.Tags.{Symbol, symbols_of, word_of, BeginsTag}
use Rattle.upon_language_spec.specs.Keys.{Key, key_else, key_in, key_as, no_key, keyword_of}
use Rattle.upon_language_spec.specs.Parts.{Part, a_base, after_name, after_member, a_member, a_magnitude, filters, filter_name, after_filter, more_args, list_start, list_rest, map_start, map_colon, map_rest, call_start, call_rest, close_paren, tag_start, end_expr, end_block, block_word, condition, else_rest, loop_name, loop_rest, loop_value, in_word, as_word, as_name, include_name, include_rest, is_optional, goes, left_of, after, Path}
use Rattle.upon_language_spec.proofs.Wanted.EachWord.{words, its_place, zero_place, witness, has_word, zero_integer, zero_index, no_text}
pub use Rattle.upon_language_spec.proofs.Wanted.EachWord.{is_key, Known, known}
use Rattle.upon_language_spec.proofs.Totality.Means.{Means, Reads}
use Rattle.upon_language_spec.proofs.Totality.ExpressionTree.{Value, NumberBehind, left_out, reads_on}

-- ---- what is read of tags can be read in the text that has each word
denotes : (t : Token) (k : Key) → Value words t k (witness t k)
denotes Keyword k = λ h. has_word k
denotes Number k = (pos 0, zero_integer false)
denotes Index k = (0, zero_index)
denotes String k = ([], no_text)
denotes t k = tt

-- a number that comes first is the one that the text has
abbrev ZeroFirst : List Lexeme → Type 0
ZeroFirst ls = (number : Lexeme) (rest : List Lexeme) → ls ≡ number ∷ rest → number.token ≡ Number → number.span ≡ zero_place

zero_first : (t : Token) (k : Key) (ls : List Lexeme) → ZeroFirst (witness t k ∷ ls)
zero_first t k ls number rest e tk =
    let same : witness t k ≡ number = cc in
    ap (λ (l : Lexeme). l.span) (sym same) ∙ ap (λ (x : Token). its_place x k) (ap (λ (l : Lexeme). l.token) same ∙ tk)

number_behind : (t : Token) (k : Key) (ls : List Lexeme) → ZeroFirst ls → NumberBehind words (witness t k) ls
number_behind t k ls zero number rest e tk =
    let minus = minus_before (Some (witness t k)) in
    let F : Span → Type 0 = λ x. IsInteger minus (slice words x) (pos 0) in
    (pos 0, subst F (sym (zero number rest e tk)) (zero_integer minus))

-- ---- what is to come can be ended
abbrev Ended : List Part → Type 0
Ended ps = (ls : List Lexeme) × ZeroFirst ls × Means words ps ls

on : (ps : List Part) (t : Token) (k : Key) (ls : List Lexeme) → ZeroFirst ls → Reads words (after ps t k) ls → Means words ps (witness t k ∷ ls)
on ps t k ls zero h = reads_on words ps t k (witness t k) ls (number_behind t k ls zero) refl (λ x. denotes t k) h

by : (ps : List Part) (t : Token) (k : Key) → (ls : List Lexeme) × ZeroFirst ls × Reads words (after ps t k) ls → Ended ps
by ps t k (ls, zero, h) = (witness t k ∷ ls, zero_first t k ls, on ps t k ls zero h)

base_ended : (ps : List Part) → Ended ps → Ended (a_base ∷ ps)
base_ended ps x = by (a_base ∷ ps) Number no_key x

left : (p : Part) (ps : List Part) → is_optional p ≡ true → Ended ps → Ended (p ∷ ps)
left p ps o (ls, zero, h) = (ls, zero, left_out words p (Means words ps) ls o h)

expression_ended : (ps : List Part) → Ended ps → Ended (a_base ∷ filters ∷ ps)
expression_ended ps x = base_ended (filters ∷ ps) (left filters ps refl x)

ended_with : (p : Part) (ps : List Part) → Ended ps → Ended (p ∷ ps)
ended_with a_base ps x = base_ended ps x
ended_with after_name ps x = left after_name ps refl x
ended_with after_member ps x = left after_member ps refl x
ended_with a_member ps x = by (a_member ∷ ps) Index no_key (left after_member ps refl x)
ended_with a_magnitude ps x = by (a_magnitude ∷ ps) Number no_key x
ended_with filters ps x = left filters ps refl x
ended_with filter_name ps x = by (filter_name ∷ ps) Ident no_key (left after_filter ps refl x)
ended_with after_filter ps x = left after_filter ps refl x
ended_with more_args ps x = left more_args ps refl x
ended_with list_start ps x = by (list_start ∷ ps) CloseBracket no_key x
ended_with list_rest ps x = by (list_rest ∷ ps) CloseBracket no_key x
ended_with map_start ps x = by (map_start ∷ ps) CloseBrace no_key x
ended_with map_colon ps x = by (map_colon ∷ ps) Colon no_key (base_ended (map_rest ∷ ps) (by (map_rest ∷ ps) CloseBrace no_key x))
ended_with map_rest ps x = by (map_rest ∷ ps) CloseBrace no_key x
ended_with call_start ps x = by (call_start ∷ ps) CloseParen no_key x
ended_with call_rest ps x = by (call_rest ∷ ps) CloseParen no_key x
ended_with close_paren ps x = by (close_paren ∷ ps) CloseParen no_key x
ended_with tag_start ps x = by (tag_start ∷ ps) BeginExpr no_key (expression_ended (end_expr ∷ ps) (by (end_expr ∷ ps) EndExpr no_key x))
ended_with end_expr ps x = by (end_expr ∷ ps) EndExpr no_key x
ended_with end_block ps x = by (end_block ∷ ps) EndBlock no_key x
ended_with block_word ps x = by (block_word ∷ ps) Keyword key_else (by (else_rest ∷ ps) EndBlock no_key x)
ended_with condition ps x = by (condition ∷ ps) Number no_key (left filters ps refl x)
ended_with else_rest ps x = by (else_rest ∷ ps) EndBlock no_key x
ended_with loop_name ps x = by (loop_name ∷ ps) Ident no_key (by (loop_rest ∷ ps) Keyword key_in (expression_ended ps x))
ended_with loop_rest ps x = by (loop_rest ∷ ps) Keyword key_in (expression_ended ps x)
ended_with loop_value ps x = by (loop_value ∷ ps) Ident no_key (by (in_word ∷ ps) Keyword key_in (expression_ended ps x))
ended_with in_word ps x = by (in_word ∷ ps) Keyword key_in (expression_ended ps x)
ended_with as_word ps x = by (as_word ∷ ps) Keyword key_as (by (as_name ∷ ps) Ident no_key x)
ended_with as_name ps x = by (as_name ∷ ps) Ident no_key x
ended_with include_name ps x = by (include_name ∷ ps) String no_key (by (include_rest ∷ ps) EndBlock no_key x)
ended_with include_rest ps x = by (include_rest ∷ ps) EndBlock no_key x

ended : (ps : List Part) → Ended ps
ended [] = ([], (λ number rest e. absurd cc), refl)
ended (p ∷ ps) = ended_with p ps (ended ps)

-- ---- words
no_word_goes : (p : Part) → goes p Keyword no_key ≡ None
no_word_goes a_base = refl
no_word_goes p = refl

none_left : (first : Option (List Part)) (optional : Bool) (ps : List Part) (others : Option (List Part)) → first ≡ None → others ≡ None → left_of first optional ps others ≡ None
none_left None true ps others e f = f
none_left None false ps others e f = refl
none_left (Some first) optional ps others e f = absurd cc

no_word_after : (ps : List Part) → after ps Keyword no_key ≡ None
no_word_after [] = refl
no_word_after (p ∷ ps) = none_left (goes p Keyword no_key) (is_optional p) ps (after ps Keyword no_key) (no_word_goes p) (no_word_after ps)

-- a symbol as texts have them: of a keyword the word, else no word
abbrev word_by : Token → List ℕ → List ℕ
word_by Keyword w = w
word_by t w = []

abbrev pub IsPlain : Symbol → Type 0
IsPlain x = word_by x.token x.word ≡ x.word

abbrev pub ArePlain : List Symbol → Type 0
ArePlain [] = Unit {0}
ArePlain (x ∷ row) = IsPlain x × ArePlain row

some_word : (ps next : List Part) (k : Key) → after ps Keyword k ≡ Some next → is_key k ≡ true
some_word ps next no_key h = let e = no_word_after ps in absurd cc
some_word ps next k h = refl

same_word : (ps next : List Part) (t : Token) (w : List ℕ) → after ps t (keyword_of w) ≡ Some next → word_by t w ≡ w → word_of words t (witness t (keyword_of w)).span ≡ w
same_word ps next Keyword w h e = has_word (keyword_of w) ∙ known w (some_word ps next (keyword_of w) h)
same_word ps next t w h e = e

-- what is read after the row, is read with it
path_reads : (row : List Symbol) (ps to : List Part) (ls : List Lexeme) → Path ps row to → ArePlain row → ZeroFirst ls → Means words to ls → (all : List Lexeme) × ZeroFirst all × Means words ps all × (symbols_of words all ≡ row ++ symbols_of words ls)
path_reads [] ps to ls e plain zero h = (ls, zero, subst (λ x. Means words x ls) (sym e) h, refl)
path_reads (x ∷ row) ps to ls (next, goes, path) plain zero h =
    let (all, first, means, same) = path_reads row next to ls path plain.1 zero h in
    let k = keyword_of x.word in
    let F : Option (List Part) → Type 0 = λ y. Reads words y all in
    (witness x.token k ∷ all, zero_first x.token k all, on ps x.token k all first (subst F (sym goes) means), λ i. record { token = x.token; word = same_word ps next x.token x.word goes plain.0 i } ∷ same i)

pub begins_tag : (row : List Symbol) (to : List Part) → ArePlain row → Path (tag_start ∷ []) row to → BeginsTag row
begins_tag row to plain path =
    let end = ended to in
    let (all, zero, tag, same) = path_reads row (tag_start ∷ []) to end.0 path plain end.1 end.2 in
    record {
      text = words;
      lexemes = all;
      rest = tag.0;
      tag = tag.1;
      more = symbols_of words end.0;
      begins = same;
      within = let e : length tag.0 ≡ 0 = ap length tag.2 in omega (arith, e);
    }

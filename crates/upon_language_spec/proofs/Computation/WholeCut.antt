-- Whether a whole text is cut into given tokens, as a test that computes.
use Rattle.std.proofs.Common.{◌≡◌, inl, inr, ℕ, ◌==◌, ◌&&◌, not, List, [], ◌∷◌, length, Bool, true, false, refl, if◌then◌else◌}
use Rattle.std.proofs.lemmas.Bool.{not-true}
use Rattle.upon_types.specs.declared.types.Delimiter.{Delimiter}
use Rattle.upon_types.specs.declared.types.token.Token.{Token}
use Rattle.upon_types.specs.declared.types.token.Token.TheVariants.{Raw, BeginExpr, BeginBlock, BeginComment, EndComment}
use Rattle.upon_language_spec.specs.Search.{DelimiterText}
use Rattle.upon_language_spec.specs.Delimiters.{Sort, expression, block, comment, begin_sort, end_sort, has_hyphen, end_token}
use Rattle.upon_language_spec.specs.Cut.{Lexeme, Mode, outside, in_tag, in_comment, Begins, Ends, IsRawToken, IsToken, mode_after, Cut}
use Rattle.upon_language_spec.proofs.Computation.Tests.{left_true, right_true}
use Rattle.upon_language_spec.proofs.Computation.TokenTests.{is_sort, is_sort_tested, same_bool, one_bool, same_token, one_token}
use Rattle.upon_language_spec.proofs.Computation.Tests.{same_number}
use Rattle.upon_language_spec.proofs.Computation.CutTests.{stands_test, stands_tested, raw_test, raw_tested}
use Rattle.upon_language_spec.proofs.Computation.InnerTests.{inner_test, inner_tested}

abbrev pub begins_by : Sort → Bool → Delimiter → Bool
begins_by sort hyphen kind = is_sort sort (begin_sort kind) && same_bool (has_hyphen kind) hyphen

abbrev pub ends_by : Sort → Bool → Delimiter → Bool
ends_by sort hyphen kind = is_sort sort (end_sort kind) && same_bool (has_hyphen kind) hyphen

pub begins_tested : (delimiters : List DelimiterText) (s : List ℕ) (sort : Sort) (hyphen : Bool) (m n : ℕ) → stands_test (begins_by sort hyphen) delimiters s m n ≡ true → Begins delimiters s sort hyphen m n
begins_tested delimiters s sort hyphen m n h = let d = stands_tested (begins_by sort hyphen) delimiters s m n h in
    record { kind = d.0; occurs = d.1; of_sort = is_sort_tested _ _ (left_true _ _ d.2); of_hyphen = one_bool _ _ (right_true _ _ d.2) }

pub ends_tested : (delimiters : List DelimiterText) (s : List ℕ) (sort : Sort) (hyphen : Bool) (m n : ℕ) → stands_test (ends_by sort hyphen) delimiters s m n ≡ true → Ends delimiters s sort hyphen m n
ends_tested delimiters s sort hyphen m n h = let d = stands_tested (ends_by sort hyphen) delimiters s m n h in
    record { kind = d.0; occurs = d.1; of_sort = is_sort_tested _ _ (left_true _ _ d.2); of_hyphen = one_bool _ _ (right_true _ _ d.2) }

abbrev pub raw_token_test : List DelimiterText → List ℕ → Bool → ℕ → ℕ → Bool
raw_token_test delimiters s hyphen m n = not hyphen && raw_test delimiters s m n

abbrev pub outside_test : List DelimiterText → List ℕ → Token → Bool → ℕ → ℕ → Bool
outside_test delimiters s Raw hyphen m n = raw_token_test delimiters s hyphen m n
outside_test delimiters s BeginExpr hyphen m n = stands_test (begins_by expression hyphen) delimiters s m n
outside_test delimiters s BeginBlock hyphen m n = stands_test (begins_by block hyphen) delimiters s m n
outside_test delimiters s BeginComment hyphen m n = stands_test (begins_by comment hyphen) delimiters s m n
outside_test delimiters s t hyphen m n = false

abbrev pub in_tag_test : List DelimiterText → List ℕ → Sort → Bool → Token → Bool → ℕ → ℕ → Bool
in_tag_test delimiters s sort in_path t hyphen m n = if same_token t (end_token sort) then stands_test (ends_by sort hyphen) delimiters s m n else (not hyphen && inner_test delimiters s in_path t m n)

abbrev pub in_comment_test : List DelimiterText → List ℕ → Token → Bool → ℕ → ℕ → Bool
in_comment_test delimiters s Raw hyphen m n = raw_token_test delimiters s hyphen m n
in_comment_test delimiters s EndComment hyphen m n = stands_test (ends_by comment hyphen) delimiters s m n
in_comment_test delimiters s t hyphen m n = false

abbrev pub step_test : List DelimiterText → List ℕ → Mode → Token → Bool → ℕ → ℕ → Bool
step_test delimiters s outside t hyphen m n = outside_test delimiters s t hyphen m n
step_test delimiters s (in_tag sort in_path) t hyphen m n = in_tag_test delimiters s sort in_path t hyphen m n
step_test delimiters s in_comment t hyphen m n = in_comment_test delimiters s t hyphen m n

raw_token_tested : (delimiters : List DelimiterText) (s : List ℕ) (hyphen : Bool) (m n : ℕ) → raw_token_test delimiters s hyphen m n ≡ true → IsRawToken delimiters s Raw hyphen m n
raw_token_tested delimiters s true m n h = absurd cc
raw_token_tested delimiters s false m n h = (refl, refl, raw_tested delimiters s m n h)

outside_tested : (delimiters : List DelimiterText) (s : List ℕ) (t : Token) (hyphen : Bool) (m n : ℕ) → outside_test delimiters s t hyphen m n ≡ true → IsToken delimiters s outside t hyphen m n
outside_tested delimiters s Raw hyphen m n h = inl (raw_token_tested delimiters s hyphen m n h)
outside_tested delimiters s BeginExpr hyphen m n h = inr (expression, refl, begins_tested delimiters s expression hyphen m n h)
outside_tested delimiters s BeginBlock hyphen m n h = inr (block, refl, begins_tested delimiters s block hyphen m n h)
outside_tested delimiters s BeginComment hyphen m n h = inr (comment, refl, begins_tested delimiters s comment hyphen m n h)
outside_tested delimiters s _ hyphen m n h = absurd cc

in_tag_tested : (delimiters : List DelimiterText) (s : List ℕ) (sort : Sort) (in_path : Bool) (t : Token) (hyphen : Bool) (m n : ℕ) → in_tag_test delimiters s sort in_path t hyphen m n ≡ true → IsToken delimiters s (in_tag sort in_path) t hyphen m n
in_tag_tested delimiters s sort in_path t hyphen m n h = elim (same_token t (end_token sort)) as (λ b. same_token t (end_token sort) ≡ b → (if b then stands_test (ends_by sort hyphen) delimiters s m n else (not hyphen && inner_test delimiters s in_path t m n)) ≡ true → IsToken delimiters s (in_tag sort in_path) t hyphen m n) [
  | true ↦ λ e k. inl (one_token _ _ e, ends_tested delimiters s sort hyphen m n k)
  | false ↦ λ e k. inr (not-true _ (left_true _ _ k), inner_tested delimiters s in_path t m n (right_true _ _ k))
] refl h

in_comment_tested : (delimiters : List DelimiterText) (s : List ℕ) (t : Token) (hyphen : Bool) (m n : ℕ) → in_comment_test delimiters s t hyphen m n ≡ true → IsToken delimiters s in_comment t hyphen m n
in_comment_tested delimiters s Raw hyphen m n h = inl (raw_token_tested delimiters s hyphen m n h)
in_comment_tested delimiters s EndComment hyphen m n h = inr (refl, ends_tested delimiters s comment hyphen m n h)
in_comment_tested delimiters s _ hyphen m n h = absurd cc

pub step_tested : (delimiters : List DelimiterText) (s : List ℕ) (mode : Mode) (t : Token) (hyphen : Bool) (m n : ℕ) → step_test delimiters s mode t hyphen m n ≡ true → IsToken delimiters s mode t hyphen m n
step_tested delimiters s outside t hyphen m n h = outside_tested delimiters s t hyphen m n h
step_tested delimiters s (in_tag sort in_path) t hyphen m n h = in_tag_tested delimiters s sort in_path t hyphen m n h
step_tested delimiters s in_comment t hyphen m n h = in_comment_tested delimiters s t hyphen m n h

abbrev pub is_outside : Mode → Bool
is_outside outside = true
is_outside mode = false

-- whether the text from m on is cut into the tokens, and then lies outside tags
abbrev pub cut_test : List DelimiterText → List ℕ → Mode → ℕ → List Lexeme → Bool
cut_test delimiters s mode m [] = is_outside mode && (m == length s)
cut_test delimiters s mode m (l ∷ ls) = (l.span.m == m) && (step_test delimiters s mode l.token l.hyphen m l.span.n && cut_test delimiters s (mode_after mode l.token) l.span.n ls)

outside_only : (mode : Mode) → is_outside mode ≡ true → mode ≡ outside
outside_only outside h = refl
outside_only (in_tag sort in_path) h = absurd cc
outside_only in_comment h = absurd cc

pub cut_tested : (delimiters : List DelimiterText) (s : List ℕ) (mode : Mode) (m : ℕ) (ls : List Lexeme) → cut_test delimiters s mode m ls ≡ true → Cut delimiters s mode m ls outside (length s)
cut_tested delimiters s mode m [] h = (outside_only mode (left_true _ _ h), same_number _ _ (right_true _ _ h))
cut_tested delimiters s mode m (l ∷ ls) h =
    let rest = right_true _ _ h in
    (same_number _ _ (left_true _ _ h), step_tested delimiters s mode l.token l.hyphen m l.span.n (left_true _ _ rest), cut_tested delimiters s (mode_after mode l.token) l.span.n ls (right_true _ _ rest))

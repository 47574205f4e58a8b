-- A text has no tree where it ends in a tag or a comment, and where a delimiter is that may not be there.
use Rattle.std.proofs.Common.{◌≡◌, inl, inr, ℕ, ◌==◌, ◌&&◌, ◌||◌, not, nat_lt, List, [], ◌∷◌, length, Bool, true, false, Option, Some, None, refl, ap, ◌∙◌}
use Rattle.std.proofs.lemmas.Bool.{ltb-true, not-true}
use Rattle.upon_types.specs.declared.types.Delimiter.{Delimiter}
use Rattle.upon_types.specs.Tree.{Statements}
use Rattle.upon_language_spec.specs.DefaultDelimiters.{default_delimiters}
use Rattle.upon_language_spec.specs.Reading.{ReadsTo}
use Rattle.upon_language_spec.specs.Search.{DelimiterText, HasTexts, IsBestDelimiter}
use Rattle.upon_language_spec.specs.Delimiters.{Sort, expression, block, comment, begin_sort, end_sort}
use Rattle.upon_language_spec.specs.Cut.{Lexeme, Mode, outside, in_tag, in_comment, mode_after, Cut}
use Rattle.upon_language_spec.specs.Grammar.{HasTree}
use Rattle.upon_language_spec.proofs.OneCut.Delimiter.{one_stands, not_bare}
use Rattle.upon_language_spec.proofs.OneCut.Raw.{raw_is_no_delimiter}
use Rattle.upon_language_spec.proofs.OneCut.Cut.{NoStep, no_cut_inside, no_cut}
use Rattle.upon_language_spec.proofs.Computation.Tests.{left_true, right_true}
use Rattle.upon_language_spec.proofs.Computation.Tests.{same_number}
use Rattle.upon_language_spec.proofs.Computation.CutTests.{stands_test, stands_tested}
use Rattle.upon_language_spec.proofs.Computation.TokenTests.{is_sort}
use Rattle.upon_language_spec.proofs.Computation.WholeCut.{step_test, step_tested, is_outside}

-- whether the text from m to n is cut into the tokens, and the mode after them
abbrev pub steps_test : List DelimiterText → List ℕ → Mode → ℕ → ℕ → List Lexeme → Bool
steps_test delimiters s mode m n [] = m == n
steps_test delimiters s mode m n (l ∷ ls) = (l.span.m == m) && (step_test delimiters s mode l.token l.hyphen m l.span.n && steps_test delimiters s (mode_after mode l.token) l.span.n n ls)

abbrev pub last_mode : Mode → List Lexeme → Mode
last_mode mode [] = mode
last_mode mode (l ∷ ls) = last_mode (mode_after mode l.token) ls

pub steps_tested : (delimiters : List DelimiterText) (s : List ℕ) (mode : Mode) (m n : ℕ) (ls : List Lexeme) → steps_test delimiters s mode m n ls ≡ true → Cut delimiters s mode m ls (last_mode mode ls) n
steps_tested delimiters s mode m n [] h = (refl, same_number _ _ h)
steps_tested delimiters s mode m n (l ∷ ls) h =
    let rest = right_true _ _ h in
    (same_number _ _ (left_true _ _ h), step_tested delimiters s mode l.token l.hyphen m l.span.n (left_true _ _ rest), steps_tested delimiters s (mode_after mode l.token) l.span.n n ls (right_true _ _ rest))

-- what a text reads to, under the default delimiters
pub reads_to : (s : List ℕ) (ls : List Lexeme) (n : ℕ) → steps_test default_delimiters s outside 0 n ls ≡ true → ReadsTo default_delimiters s ls (last_mode outside ls) n
reads_to s ls n h = steps_tested default_delimiters s outside 0 n ls h

inside : (mode : Mode) → is_outside mode ≡ false → mode ≡ outside → ⊥
inside mode h e = let k : is_outside mode ≡ true = ap is_outside e in cc (h, k)

-- the text ends in a tag or a comment
pub no_tree_inside : (delimiters : List DelimiterText) (s : List ℕ) (lexemes : List Lexeme) → HasTexts delimiters → steps_test delimiters s outside 0 (length s) lexemes ≡ true → is_outside (last_mode outside lexemes) ≡ false → (tree : Statements) → HasTree delimiters s tree → ⊥
no_tree_inside delimiters s lexemes texts h ends tree has = no_cut_inside delimiters s (last_mode outside lexemes) lexemes has.lexemes texts (steps_tested delimiters s outside 0 (length s) lexemes h) (inside _ ends) has.cut

-- whether a delimiter may be at an offset in this mode
abbrev pub may_follow : Mode → Delimiter → Bool
may_follow outside kind = is_sort expression (begin_sort kind) || (is_sort block (begin_sort kind) || is_sort comment (begin_sort kind))
may_follow (in_tag sort in_path) kind = is_sort sort (end_sort kind)
may_follow in_comment kind = is_sort comment (end_sort kind)

is_that_sort : (sort : Sort) (o : Option Sort) → o ≡ Some sort → is_sort sort o ≡ true
is_that_sort expression o h = ap (is_sort expression) h
is_that_sort block o h = ap (is_sort block) h
is_that_sort comment o h = ap (is_sort comment) h

begins_some : (sort : Sort) (o : Option Sort) → o ≡ Some sort → (is_sort expression o || (is_sort block o || is_sort comment o)) ≡ true
begins_some sort None h = absurd cc
begins_some sort (Some expression) h = refl
begins_some sort (Some block) h = refl
begins_some sort (Some comment) h = refl

module _ (delimiters : List DelimiterText) (s : List ℕ) (kind : Delimiter) (n to : ℕ) (stands : IsBestDelimiter delimiters s kind n to) where
  other_sort : (of : Delimiter → Option Sort) (other : Delimiter) (sort : Sort) (k : ℕ) → IsBestDelimiter delimiters s other n k → of other ≡ Some sort → of kind ≡ Some sort
  other_sort of other sort k there h = ap of (one_stands delimiters s kind other n to k stands there).0 ∙ h

  stuck : (mode : Mode) → may_follow mode kind ≡ false → NoStep delimiters s mode n
  stuck outside h t hyphen k (inl raw) = raw_is_no_delimiter delimiters s kind n k to raw.2 stands
  stuck outside h t hyphen k (inr begin) = let b : may_follow outside kind ≡ true = begins_some begin.0 _ (other_sort begin_sort begin.2.kind begin.0 k begin.2.occurs begin.2.of_sort) in cc (h, b)
  stuck (in_tag sort in_path) h t hyphen k (inl end) = let b : is_sort sort (end_sort kind) ≡ true = is_that_sort sort _ (other_sort end_sort end.1.kind sort k end.1.occurs end.1.of_sort) in cc (h, b)
  stuck (in_tag sort in_path) h t hyphen k (inr inner) = not_bare delimiters s kind n to stands inner.1.bare
  stuck in_comment h t hyphen k (inl raw) = raw_is_no_delimiter delimiters s kind n k to raw.2 stands
  stuck in_comment h t hyphen k (inr end) = let b : is_sort comment (end_sort kind) ≡ true = is_that_sort comment _ (other_sort end_sort end.1.kind comment k end.1.occurs end.1.of_sort) in cc (h, b)

-- the tokens go to n, and the delimiter from n to k may not be there
pub no_tree_past : (delimiters : List DelimiterText) (s : List ℕ) (lexemes : List Lexeme) (n k : ℕ) → HasTexts delimiters → steps_test delimiters s outside 0 n lexemes ≡ true → stands_test (λ kind. not (may_follow (last_mode outside lexemes) kind)) delimiters s n k ≡ true → nat_lt n (length s) ≡ true → (tree : Statements) → HasTree delimiters s tree → ⊥
no_tree_past delimiters s lexemes n k texts h there short tree has =
    let d = stands_tested (λ kind. not (may_follow (last_mode outside lexemes) kind)) delimiters s n k there in
    no_cut delimiters s (last_mode outside lexemes) outside n (length s) lexemes has.lexemes texts (steps_tested delimiters s outside 0 n lexemes h) (stuck delimiters s d.0 n k d.1 (last_mode outside lexemes) (not-true _ d.2)) (ltb-true _ _ short) has.cut

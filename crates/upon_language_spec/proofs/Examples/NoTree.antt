-- Texts that have no tree.
use Rattle.std.proofs.Common.{◌≡◌, ◌^◌, ◌<◌, ℤ, pos, [], ◌∷◌, FitsSigned, false, refl, codes, ap, subst, arith, ◌∙◌}
use Rattle.std.specs.Int.{w64}
use Rattle.upon_language_spec.proofs.Computation.Computing.{computing}
use Rattle.upon_types.specs.declared.types.token.Token.TheVariants.{Raw, BeginExpr, EndExpr, BeginComment, EndComment, Whitespace, Ident, Number}
use Rattle.upon_types.specs.Tree.{Statements}
use Rattle.upon_language_spec.specs.DefaultDelimiters.{default_delimiters}
use Rattle.upon_language_spec.proofs.Computation.DefaultTexts.{default_texts}
use Rattle.upon_language_spec.specs.Literal.{sum_of_digits, with_sign, IsInteger}
use Rattle.upon_language_spec.specs.Grammar.{HasTree}
use Rattle.upon_language_spec.proofs.Computation.NoTree.{no_tree, no_statement_begins}
use Rattle.upon_language_spec.proofs.Computation.NoNumber.{StandsForInteger, no_number_reads}
use Rattle.upon_language_spec.proofs.Computation.NoCut.{no_tree_inside, no_tree_past}
use Rattle.upon_language_spec.proofs.Examples.ShortTrees.{lex, trimming, braced}

-- `{##}`: an empty comment
empty_comment : (tree : Statements) → HasTree default_delimiters (codes "{##}") tree → ⊥
unfolding computing
empty_comment = no_tree default_delimiters (codes "{##}") (lex BeginComment 0 2 ∷ lex EndComment 2 4 ∷ []) default_texts refl (no_statement_begins _ _ _ refl)

-- `{#--#}`: an empty comment with hyphens
empty_comment_with_hyphens : (tree : Statements) → HasTree default_delimiters (codes "{#--#}") tree → ⊥
unfolding computing
empty_comment_with_hyphens = no_tree default_delimiters (codes "{#--#}") (trimming BeginComment 0 3 ∷ trimming EndComment 3 6 ∷ []) default_texts refl (no_statement_begins _ _ _ refl)

no_digits : (z : ℤ) → IsInteger false (codes "5-") z → ⊥
no_digits z is = let e = is.are_digits in cc e

-- `{{ 5-}}`: the hyphen belongs to the number, which is then no integer
hyphen_in_number : (tree : Statements) → HasTree default_delimiters (codes "{{ 5-}}") tree → ⊥
unfolding computing
hyphen_in_number = no_tree default_delimiters (codes "{{ 5-}}") (lex BeginExpr 0 2 ∷ lex Whitespace 2 3 ∷ lex Number 3 5 ∷ lex EndExpr 5 7 ∷ []) default_texts refl (no_number_reads _ _ _ _ refl refl no_integer)
  where
    no_integer : StandsForInteger (codes "{{ 5-}}") (lex Number 3 5) → ⊥
    no_integer h = no_digits h.0 h.1

too_large : (z : ℤ) → IsInteger false (codes "9223372036854775808") z → ⊥
too_large z is =
    let digits : is.digits ≡ 9 ∷ 2 ∷ 2 ∷ 3 ∷ 3 ∷ 7 ∷ 2 ∷ 0 ∷ 3 ∷ 6 ∷ 8 ∷ 5 ∷ 4 ∷ 7 ∷ 7 ∷ 5 ∷ 8 ∷ 0 ∷ 8 ∷ [] = let e = is.are_digits in cc e in
    let value : z ≡ pos 9223372036854775808 = is.value ∙ ap (λ ds. with_sign false (sum_of_digits 10 ds)) digits in
    let fits : FitsSigned w64 (pos 9223372036854775808) = subst (λ x. FitsSigned w64 x) value is.in_range in
    let below : 9223372036854775808 < 2 ^ 63 = fits.sfits in
    omega (arith, below)

-- `{{ 9223372036854775808 }}`: the number does not fit
number_too_large : (tree : Statements) → HasTree default_delimiters (codes "{{ 9223372036854775808 }}") tree → ⊥
unfolding computing
number_too_large = no_tree default_delimiters (codes "{{ 9223372036854775808 }}") (braced (lex Number 3 22 ∷ []) 22) default_texts refl (no_number_reads _ _ _ _ refl refl no_integer)
  where
    no_integer : StandsForInteger (codes "{{ 9223372036854775808 }}") (lex Number 3 22) → ⊥
    no_integer h = too_large h.0 h.1

-- `{{ a`: the tag does not end
open_tag : (tree : Statements) → HasTree default_delimiters (codes "{{ a") tree → ⊥
unfolding computing
open_tag = no_tree_inside default_delimiters (codes "{{ a") (lex BeginExpr 0 2 ∷ lex Whitespace 2 3 ∷ lex Ident 3 4 ∷ []) default_texts refl refl

-- `a {# b`: the comment does not end
open_comment : (tree : Statements) → HasTree default_delimiters (codes "a {# b") tree → ⊥
unfolding computing
open_comment = no_tree_inside default_delimiters (codes "a {# b") (lex Raw 0 2 ∷ lex BeginComment 2 4 ∷ lex Raw 4 6 ∷ []) default_texts refl refl

-- `a }}`: an end is outside a tag
stray_end : (tree : Statements) → HasTree default_delimiters (codes "a }}") tree → ⊥
unfolding computing
stray_end = no_tree_past default_delimiters (codes "a }}") (lex Raw 0 2 ∷ []) 2 4 default_texts refl refl refl

-- `{{ a %}`: the end is a block's
other_end : (tree : Statements) → HasTree default_delimiters (codes "{{ a %}") tree → ⊥
unfolding computing
other_end = no_tree_past default_delimiters (codes "{{ a %}") (lex BeginExpr 0 2 ∷ lex Whitespace 2 3 ∷ lex Ident 3 4 ∷ lex Whitespace 4 5 ∷ []) 5 7 default_texts refl refl refl

-- `{# {{ #}`: a comment holds no other delimiter
delimiter_in_comment : (tree : Statements) → HasTree default_delimiters (codes "{# {{ #}") tree → ⊥
unfolding computing
delimiter_in_comment = no_tree_past default_delimiters (codes "{# {{ #}") (lex BeginComment 0 2 ∷ lex Raw 2 3 ∷ []) 3 5 default_texts refl refl refl

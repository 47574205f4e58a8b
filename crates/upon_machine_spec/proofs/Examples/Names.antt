-- The program of a tree with a `with`.
use Rattle.std.proofs.Common.{◌≡◌, pos, [], ◌∷◌, Some, refl, codes}
use Rattle.upon_types.specs.Expression.{base}
use Rattle.upon_types.specs.Tree.{include, with}
use Rattle.upon_types.specs.Val.{int_val}
use Rattle.upon_meaning_spec.proofs.Examples.ShortContexts.{at, word, first, name, quoted, number, statements}
use Rattle.upon_machine_spec.specs.Code.{program_of}
use Rattle.upon_machine_spec.specs.Instr.{with_start, with_end, include_with, expr_start_var, expr_start_literal}

-- `{% with 1 as n %}{% include "t" with n %}{% endwith %}`
inside : program_of (statements (with (base (number 8 9 (pos 1))) (word 13 (codes "n")) (statements (include (quoted 28 (codes "t")) (Some (base (name 37 (codes "n")))) ∷ [])) ∷ []))
    ≡ expr_start_literal (int_val (pos 1)) (at 8 9) ∷ with_start (word 13 (codes "n")) ∷ expr_start_var (first 37 (codes "n")) [] ∷ include_with (quoted 28 (codes "t")) ∷ with_end ∷ []
inside = refl

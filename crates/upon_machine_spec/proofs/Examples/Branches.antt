-- The program of a tree with an `if`.
use Rattle.std.proofs.Common.{◌≡◌, [], ◌∷◌, true, refl, codes}
use Rattle.upon_types.specs.Expression.{base}
use Rattle.upon_types.specs.Tree.{if_else, otherwise}
use Rattle.upon_meaning_spec.proofs.Examples.ShortContexts.{at, first, name, statements, text}
use Rattle.upon_machine_spec.specs.Code.{program_of}
use Rattle.upon_machine_spec.specs.Instr.{jump, jump_if_true, emit_raw, expr_start_var}

-- `{% if not a %}x{% else %}y{% endif %}`: past the body where the condition holds, and past the other case after the body
both_cases : program_of (statements (if_else true (base (name 10 (codes "a"))) (statements (text 14 15 ∷ [])) (otherwise (statements (text 25 26 ∷ []))) ∷ []))
    ≡ expr_start_var (first 10 (codes "a")) [] ∷ jump_if_true 4 ∷ emit_raw (at 14 15) ∷ jump 5 ∷ emit_raw (at 25 26) ∷ []
both_cases = refl

-- Each statement has an instruction.
use Rattle.std.proofs.Common.{ℕ, suc, ◌≤◌, List, [], ◌∷◌, ◌++◌, length, length-append, Some, None, arith}
use Rattle.upon_types.specs.Expression.{Expression, base, filtered, Base, var, literal, list, mapping, paren, call}
use Rattle.upon_types.specs.Tree.{Statement, raw, inline_expr, include, block}
use Rattle.upon_machine_spec.specs.Code.{count, expression_code, base_code, arguments_code, emission_code, base_emission_code, statement_code}
use Rattle.upon_machine_spec.specs.Instr.{Instr, emit, emit_with}
use Rattle.upon_machine_spec.proofs.BlockCode.{block_some}

after_some : (a b : List Instr) (i : Instr) → 1 ≤ length (a ++ i ∷ b)
after_some a b i = omega (arith, length-append a (i ∷ b))

some_after : (a b : List Instr) → 1 ≤ length b → 1 ≤ length (a ++ b)
some_after a b h = omega (arith, length-append a b, h)

mutual
  shown_code : (e : Expression) → 1 ≤ length (emission_code e)
  shown_code (base b) = base_shown_code b
  shown_code (filtered receiver name args span) =
      let end : List Instr = emit_with name (suc (count args)) span ∷ [] in
      omega (arith, length-append (expression_code receiver) (arguments_code args ++ end), length-append (arguments_code args) end)

  base_shown_code : (b : Base) → 1 ≤ length (base_emission_code b)
  base_shown_code (paren e span) = shown_code e
  base_shown_code (call name args span) = after_some (arguments_code args) [] (emit_with name (count args) span)
  base_shown_code (var first rest) = after_some (base_code (var first rest)) [] emit
  base_shown_code (literal v span) = after_some (base_code (literal v span)) [] emit
  base_shown_code (list bases span) = after_some (base_code (list bases span)) [] emit
  base_shown_code (mapping items span) = after_some (base_code (mapping items span)) [] emit

pub some_code : (at : ℕ) (t : Statement) → 1 ≤ length (statement_code at t)
some_code at (raw span) = omega arith
some_code at (inline_expr e span) = shown_code e
some_code at (include word None) = omega arith
some_code at (include word (Some e)) = after_some (expression_code e) _ _
some_code at (block opening e body branch) = some_after (expression_code e) _ (block_some opening branch _ _ _ _)

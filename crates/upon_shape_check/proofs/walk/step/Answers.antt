use Rattle.std.proofs.Common.{refl, sym, ap, ◌∙◌}
use Rattle.upon_types.specs.AstPath.{loop_vars_of}
use Rattle.upon_machine_spec.specs.Instr.{loop_start}
use Rattle.upon_compiler.specs.Program.{instr_of}
use Rattle.upon_shape_spec.specs.Accepted.{is_planned}
use Rattle.upon_shape_check.specs.Callables.{declared_view}
use Rattle.upon_shape_check.specs.Known.{known_view}
use Rattle.upon_shape_check.specs.Plan.{plan_view}
use Rattle.upon_shape_check.proofs.Acting.{if_ok_map}
use Rattle.upon_shape_check.proofs.Along.{at_instr, at_same}
use Rattle.upon_shape_check.proofs.walk.step.Goals as goal

pub returns-in_ok-jumps-in-Jump-clause-steps : goal.returns-in_ok-jumps-in-Jump-clause-steps
returns-in_ok-jumps-in-Jump-clause-steps c = at_instr (declared_view c.args.declared.now) (is_planned (plan_view c.args.plan.now)) c.args.number (known_view c.args.known.now) c.args.instr.now _ _ _ c.in-Jump.is (c.in_ok-jumps-in-Jump.ensures (declared_view c.args.declared.now) (is_planned (plan_view c.args.plan.now)))

pub returns-in_ok-tests-in-JumpIfTrue-clause-steps : goal.returns-in_ok-tests-in-JumpIfTrue-clause-steps
returns-in_ok-tests-in-JumpIfTrue-clause-steps c = at_instr (declared_view c.args.declared.now) (is_planned (plan_view c.args.plan.now)) c.args.number (known_view c.args.known.now) c.args.instr.now _ _ _ c.in-JumpIfTrue.is (c.in_ok-tests-in-JumpIfTrue.ensures c.args.number (declared_view c.args.declared.now) (is_planned (plan_view c.args.plan.now)))

pub returns-in_ok-tests-in-JumpIfFalse-clause-steps : goal.returns-in_ok-tests-in-JumpIfFalse-clause-steps
returns-in_ok-tests-in-JumpIfFalse-clause-steps c = at_instr (declared_view c.args.declared.now) (is_planned (plan_view c.args.plan.now)) c.args.number (known_view c.args.known.now) c.args.instr.now _ _ _ c.in-JumpIfFalse.is (c.in_ok-tests-in-JumpIfFalse.ensures c.args.number (declared_view c.args.declared.now) (is_planned (plan_view c.args.plan.now)))

pub returns-in-Emit-clause-steps : goal.returns-in-Emit-clause-steps
returns-in-Emit-clause-steps c = at_instr (declared_view c.args.declared.now) (is_planned (plan_view c.args.plan.now)) c.args.number (known_view c.args.known.now) c.args.instr.now _ _ _ c.in-Emit.is (c.emits.ensures c.args.number (is_planned (plan_view c.args.plan.now)))

pub returns-in_ok-emits_with-in-EmitWith-clause-steps : goal.returns-in_ok-emits_with-in-EmitWith-clause-steps
returns-in_ok-emits_with-in-EmitWith-clause-steps c = at_instr (declared_view c.args.declared.now) (is_planned (plan_view c.args.plan.now)) c.args.number (known_view c.args.known.now) c.args.instr.now _ _ _ c.in-EmitWith.is (c.in_ok-emits_with-in-EmitWith.ensures c.args.number (is_planned (plan_view c.args.plan.now)))

pub returns-in_ok-starts_loop-in-LoopStart-clause-steps : goal.returns-in_ok-starts_loop-in-LoopStart-clause-steps
returns-in_ok-starts_loop-in-LoopStart-clause-steps c =
    at_same (declared_view c.args.declared.now) (is_planned (plan_view c.args.plan.now)) c.args.number (known_view c.args.known.now) (instr_of c.args.instr.now) (loop_start (loop_vars_of c.deref.result.now) c.in-LoopStart.span) _ _
    (ap instr_of c.in-LoopStart.is ∙ ap (λ v. loop_start (loop_vars_of v) c.in-LoopStart.span) (sym c.deref.ensures)) (c.in_ok-starts_loop-in-LoopStart.ensures c.args.number (declared_view c.args.declared.now) (is_planned (plan_view c.args.plan.now)))

pub returns-in-EmitRaw-clause-steps : goal.returns-in-EmitRaw-clause-steps
returns-in-EmitRaw-clause-steps c = at_instr (declared_view c.args.declared.now) (is_planned (plan_view c.args.plan.now)) c.args.number (known_view c.args.known.now) c.args.instr.now _ _ _ c.in-EmitRaw.is (refl, refl)

pub returns-in-LoopNext-clause-steps : goal.returns-in-LoopNext-clause-steps
returns-in-LoopNext-clause-steps c = at_instr (declared_view c.args.declared.now) (is_planned (plan_view c.args.plan.now)) c.args.number (known_view c.args.known.now) c.args.instr.now _ _ _ c.in-LoopNext.is (refl, refl)

pub returns-in-LoopNextElse-clause-steps : goal.returns-in-LoopNextElse-clause-steps
returns-in-LoopNextElse-clause-steps c = at_instr (declared_view c.args.declared.now) (is_planned (plan_view c.args.plan.now)) c.args.number (known_view c.args.known.now) c.args.instr.now _ _ _ c.in-LoopNextElse.is (refl, refl)

pub returns-in_ok-starts_with-in-WithStart-clause-steps : goal.returns-in_ok-starts_with-in-WithStart-clause-steps
returns-in_ok-starts_with-in-WithStart-clause-steps c = at_instr (declared_view c.args.declared.now) (is_planned (plan_view c.args.plan.now)) c.args.number (known_view c.args.known.now) c.args.instr.now _ _ _ c.in-WithStart.is (c.in_ok-starts_with-in-WithStart.ensures c.args.number (declared_view c.args.declared.now) (is_planned (plan_view c.args.plan.now)))

pub returns-in-WithEnd-clause-steps : goal.returns-in-WithEnd-clause-steps
returns-in-WithEnd-clause-steps c = at_instr (declared_view c.args.declared.now) (is_planned (plan_view c.args.plan.now)) c.args.number (known_view c.args.known.now) c.args.instr.now _ _ _ c.in-WithEnd.is (c.ends_with.ensures c.args.number (declared_view c.args.declared.now) (is_planned (plan_view c.args.plan.now)))

pub returns-in_ok-includes-in-Include-clause-steps : goal.returns-in_ok-includes-in-Include-clause-steps
returns-in_ok-includes-in-Include-clause-steps c = at_instr (declared_view c.args.declared.now) (is_planned (plan_view c.args.plan.now)) c.args.number (known_view c.args.known.now) c.args.instr.now _ _ _ c.in-Include.is (c.in_ok-includes-in-Include.ensures (declared_view c.args.declared.now) c.args.number)

pub returns-in-IncludeWith-clause-steps : goal.returns-in-IncludeWith-clause-steps
returns-in-IncludeWith-clause-steps c = at_instr (declared_view c.args.declared.now) (is_planned (plan_view c.args.plan.now)) c.args.number (known_view c.args.known.now) c.args.instr.now _ _ _ c.in-IncludeWith.is (c.includes_with.ensures (declared_view c.args.declared.now) c.args.number)

pub returns-in_ok-starts_var-in-ExprStartVar-clause-steps : goal.returns-in_ok-starts_var-in-ExprStartVar-clause-steps
returns-in_ok-starts_var-in-ExprStartVar-clause-steps c = at_instr (declared_view c.args.declared.now) (is_planned (plan_view c.args.plan.now)) c.args.number (known_view c.args.known.now) c.args.instr.now _ _ _ c.in-ExprStartVar.is (c.in_ok-starts_var-in-ExprStartVar.ensures c.args.number (declared_view c.args.declared.now) (is_planned (plan_view c.args.plan.now)))

pub returns-in_ok-starts_literal-in-ExprStartLiteral-clause-steps : goal.returns-in_ok-starts_literal-in-ExprStartLiteral-clause-steps
returns-in_ok-starts_literal-in-ExprStartLiteral-clause-steps c = at_instr (declared_view c.args.declared.now) (is_planned (plan_view c.args.plan.now)) c.args.number (known_view c.args.known.now) c.args.instr.now _ _ _ c.in-ExprStartLiteral.is (c.in_ok-starts_literal-in-ExprStartLiteral.ensures c.args.number (declared_view c.args.declared.now) (is_planned (plan_view c.args.plan.now)))

pub returns-in_ok-starts_list-in-ExprStartList-clause-steps : goal.returns-in_ok-starts_list-in-ExprStartList-clause-steps
returns-in_ok-starts_list-in-ExprStartList-clause-steps c = at_instr (declared_view c.args.declared.now) (is_planned (plan_view c.args.plan.now)) c.args.number (known_view c.args.known.now) c.args.instr.now _ _ _ c.in-ExprStartList.is (c.in_ok-starts_list-in-ExprStartList.ensures c.args.number (declared_view c.args.declared.now) (is_planned (plan_view c.args.plan.now)))

pub returns-in_ok-starts_map-in-ExprStartMap-clause-steps : goal.returns-in_ok-starts_map-in-ExprStartMap-clause-steps
returns-in_ok-starts_map-in-ExprStartMap-clause-steps c = at_instr (declared_view c.args.declared.now) (is_planned (plan_view c.args.plan.now)) c.args.number (known_view c.args.known.now) c.args.instr.now _ _ _ c.in-ExprStartMap.is (c.in_ok-starts_map-in-ExprStartMap.ensures c.args.number (declared_view c.args.declared.now) (is_planned (plan_view c.args.plan.now)))

pub returns-in-ExprListPush-clause-steps : goal.returns-in-ExprListPush-clause-steps
returns-in-ExprListPush-clause-steps c = if_ok_map c.puts.result (λ ds h. at_instr (declared_view c.args.declared.now) (is_planned (plan_view c.args.plan.now)) c.args.number (known_view c.args.known.now) c.args.instr.now _ _ _ c.in-ExprListPush.is (h c.args.number (declared_view c.args.declared.now) (is_planned (plan_view c.args.plan.now)))) c.puts.ensures.steps

pub returns-in-ExprMapInsert-clause-steps : goal.returns-in-ExprMapInsert-clause-steps
returns-in-ExprMapInsert-clause-steps c = if_ok_map c.puts-in-ExprMapInsert.result (λ ds h. at_instr (declared_view c.args.declared.now) (is_planned (plan_view c.args.plan.now)) c.args.number (known_view c.args.known.now) c.args.instr.now _ _ _ c.in-ExprMapInsert.is (h c.args.number (declared_view c.args.declared.now) (is_planned (plan_view c.args.plan.now)))) c.puts-in-ExprMapInsert.ensures.steps

pub returns-in_ok-applies-in-Apply-clause-steps : goal.returns-in_ok-applies-in-Apply-clause-steps
returns-in_ok-applies-in-Apply-clause-steps c = at_instr (declared_view c.args.declared.now) (is_planned (plan_view c.args.plan.now)) c.args.number (known_view c.args.known.now) c.args.instr.now _ _ _ c.in-Apply.is (c.in_ok-applies-in-Apply.ensures c.args.number (is_planned (plan_view c.args.plan.now)))

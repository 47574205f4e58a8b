use Rattle.std.proofs.Common.{◌<◌, List, length, IfErr, arith, subst}
use Rattle.upon_types.specs.declared.types.Span.{Span}
use Rattle.upon_shape_spec.specs.Accepted.{is_planned}
use Rattle.upon_shape_spec.specs.Known.{Known}
use Rattle.upon_shape_check.specs.Callables.{declared_view}
use Rattle.upon_compiler.specs.Program.{program_view}
use Rattle.upon_shape_check.specs.DeepLiterals.{EndsAtOne, program_too_deep}
use Rattle.upon_shape_check.specs.Doubt.{doubts_view, maybe_doubt}
use Rattle.upon_shape_check.specs.Known.{known_view}
use Rattle.upon_shape_check.specs.Plan.{plan_view}
use Rattle.upon_shape_check.proofs.Along.{one_more}
use Rattle.upon_shape_check.proofs.DeepLiterals.{deep_here, deep_more, handed_on}
use Rattle.upon_shape_check.proofs.walk.doubts_of.Goals as goal

pub loop-number-preserved : goal.loop-number-preserved
loop-number-preserved c =
    let below : c.loop-number.number < length c.args.instrs.now = omega arith in (
      one_more (declared_view c.args.declared.now) (is_planned (plan_view c.args.plan.now)) c.loop-number.number (known_view c.loop-number.known) (known_view c.step.new.known) (known_view c.leave_ended.new.self) c.args.instrs.now c.index-instrs-number.result
          (maybe_doubt c.in_ok-doubt.doubt) (doubts_view c.loop-number.doubts.items) (doubts_view c.add.new.doubts.items) _ below c.index-instrs-number.is c.in_ok-doubt.ensures.steps c.leave_ended.ensures c.in_ok-add.ensures c.loop-number.invariant.0,
      deep_more (declared_view c.args.declared.now) (is_planned (plan_view c.args.plan.now)) c.loop-number.number (known_view c.loop-number.known) (known_view c.step.new.known) (known_view c.leave_ended.new.self) c.args.instrs.now c.index-instrs-number.result
          (maybe_doubt c.in_ok-doubt.doubt) _ below c.index-instrs-number.is c.in_ok-doubt.ensures.steps c.leave_ended.ensures c.loop-number.invariant.1,
    )

pub returns-in_err-doubt-clause-deep : goal.returns-in_err-doubt-clause-deep
returns-in_err-doubt-clause-deep c =
    let below : c.loop-number.number < length c.args.instrs.now = omega arith in
    let places : Known → List Span = λ k. program_too_deep (declared_view c.args.declared.now) (is_planned (plan_view c.args.plan.now)) 0 k (program_view c.args.instrs.now) in
    subst (λ k. IfErr c.from_residual.result (EndsAtOne (places k))) c.at_begin-known.ensures (handed_on (places (known_view c.at_begin-known.result)) c.in_err-doubt.field-0.0 c.from_residual.result c.from_residual.ensures.1
    (deep_here (declared_view c.args.declared.now) (is_planned (plan_view c.args.plan.now)) c.loop-number.number (known_view c.loop-number.known) c.args.instrs.now c.index-instrs-number.result _ c.in_err-doubt.field-0.0 below c.index-instrs-number.is c.loop-number.invariant.1 c.in_err-doubt.ensures.deep))

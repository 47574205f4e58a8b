use Rattle.std.proofs.Common.{ap, ◌∙◌}
use Rattle.upon_types.specs.AstPath.{string_of}
use Rattle.upon_shape_spec.specs.Accepted.{is_planned}
use Rattle.upon_shape_check.specs.Plan.{plan_view}
use Rattle.upon_shape_check.specs.Scope.{scope_view}
use Rattle.upon_shape_check.proofs.Acting.{is_included_so, not_included_so}
use Rattle.upon_shape_check.proofs.steps.included_doubt.Goals as goal

pub returns-then-is_planned : goal.returns-then-is_planned
returns-then-is_planned c = λ d. is_included_so d (is_planned (plan_view c.args.plan.now)) (string_of c.args.name.now) (scope_view c.args.scope) c.is_planned.result (c.is_planned.ensures ∙ ap (λ t. is_planned (plan_view c.args.plan.now) t (scope_view c.args.scope)) c.deref.ensures) c.if-is_planned.true

pub returns : goal.returns
returns c = λ d. not_included_so d (is_planned (plan_view c.args.plan.now)) (string_of c.args.name.now) (scope_view c.args.scope) c.is_planned.result _ (c.is_planned.ensures ∙ ap (λ t. is_planned (plan_view c.args.plan.now) t (scope_view c.args.scope)) c.deref.ensures) c.if-is_planned.false c.not_included.ensures

use Rattle.std.proofs.Common.{refl, ap, ◌∙◌}
use Rattle.upon_types.specs.AstPath.{string_of}
use Rattle.upon_shape_spec.specs.Accepted.{is_planned}
use Rattle.upon_shape_spec.specs.Doubts as doubts
use Rattle.upon_shape_check.specs.Plan.{plan_view}
use Rattle.upon_shape_check.specs.Scope.{scope_view}
use Rattle.upon_shape_check.proofs.Acting.{is_included_so, not_included_so}
use Rattle.upon_shape_check.proofs.steps.includes.Goals as goal

pub returns-then-is_planned : goal.returns-then-is_planned
returns-then-is_planned c = λ d number.
    (is_included_so d (is_planned (plan_view c.args.plan.now)) (string_of c.args.name.now) (scope_view c.args.known.now.scope) c.is_planned.result (c.is_planned.ensures ∙ ap (λ t. is_planned (plan_view c.args.plan.now) t (scope_view c.args.known.now.scope)) c.deref.ensures) c.if-is_planned.true, refl)

pub returns : goal.returns
returns c = λ d number. (
  not_included_so d (is_planned (plan_view c.args.plan.now)) (string_of c.args.name.now) (scope_view c.args.known.now.scope) c.is_planned.result _ (c.is_planned.ensures ∙ ap (λ t. is_planned (plan_view c.args.plan.now) t (scope_view c.args.known.now.scope)) c.deref.ensures) c.if-is_planned.false
      (c.not_included.ensures ∙ ap (λ s. doubts.doubt (string_of c.args.name.now).span (doubts.is_included (string_of c.args.name.now).text s)) c.in_ok-try_clone.ensures),
  refl,
)

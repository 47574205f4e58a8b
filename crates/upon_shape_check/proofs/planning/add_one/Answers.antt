use Rattle.std.proofs.Common.{◌≡◌, ◌<◌, ◌≤◌, IsSome, Option, None, inl, inr, length, refl, sym, subst, ◌∙◌, arith, rules}
use Rattle.std.proofs.lemmas.List.{length-map}
use Rattle.upon_meaning_spec.specs.Engine.{Template}
use Rattle.upon_shape_spec.specs.Doubted.{planned}
use Rattle.upon_shape_check.specs.Plan.{plan_view, planned_view}
use Rattle.upon_shape_check.specs.Scope.{scope_view}
use Rattle.upon_shape_check.specs.declared.plan.TheConstants.{MOST_PLANNED}
use Rattle.upon_engine.specs.Engine.{engine_templates}
use Rattle.upon_shape_check.proofs.MakingPlans.{add_last, add_none}
use Rattle.upon_shape_check.proofs.planning.add_one.Goals as goal

pub returns-in_default : goal.returns-in_default
returns-in_default g c =
    let none : engine_templates c.args.engine.now c.args.name.now ≡ None = first_of (search rules, grind arith) in
    add_none (engine_templates c.args.engine.now) (planned c.args.name.now (scope_view c.args.scope)) (plan_view c.args.plan.now) (inl none)

pub returns-then-is_planned : goal.returns-then-is_planned
returns-then-is_planned g c =
    add_none (engine_templates c.args.engine.now) (planned c.args.name.now (scope_view c.args.scope)) (plan_view c.args.plan.now)
    (inr (inl (sym c.is_planned.ensures ∙ c.if-is_planned.true)))

pub returns-in_ok-add : goal.returns-in_ok-add
returns-in_ok-add g c =
    let p = planned c.args.name.now (scope_view c.args.scope) in
    let plan = plan_view c.args.plan.now in
    let held : IsSome (engine_templates c.args.engine.now c.args.name.now) = subst (λ (o : Option Template). IsSome o) c.in-Some.ensures.template refl in
    let few : length plan < MOST_PLANNED = subst (λ n. n < MOST_PLANNED) (sym (length-map c.args.plan.now.entries.items planned_view)) (subst (λ n. n < MOST_PLANNED) (c.len.ensures ∙ c.args.plan.now.entries.ok.0) c.if-len-lt-MOST_PLANNED.true) in
    add_last (engine_templates c.args.engine.now) p plan (plan_view c.add.new.self) held (sym c.is_planned.ensures ∙ c.if-is_planned.false) few c.in_ok-add.ensures.ok

pub returns-else-len-lt-MOST_PLANNED : goal.returns-else-len-lt-MOST_PLANNED
returns-else-len-lt-MOST_PLANNED g c =
    let full : MOST_PLANNED ≤ length (plan_view c.args.plan.now) = subst (λ n. MOST_PLANNED ≤ n) (sym (length-map c.args.plan.now.entries.items planned_view)) (subst (λ n. MOST_PLANNED ≤ n) (c.len.ensures ∙ c.args.plan.now.entries.ok.0) c.if-len-lt-MOST_PLANNED.false) in
    add_none (engine_templates c.args.engine.now) (planned c.args.name.now (scope_view c.args.scope)) (plan_view c.args.plan.now) (inr (inr full))

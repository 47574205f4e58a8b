use Rattle.std.proofs.Common.{◌≡◌, ◌++◌, sym, ap, subst, ◌∙◌}
use Rattle.std.specs.BTreeMap.{get_by_text}
use Rattle.upon_shape_spec.specs.Accepted.{Planned}
use Rattle.upon_shape_spec.specs.Doubted.{planned}
use Rattle.upon_shape_spec.specs.Scope.{Scope, scope_over}
use Rattle.upon_shape_spec.specs.Shape.{Shape}
use Rattle.upon_shape.specs.View.{shape_view}
use Rattle.upon_shape_check.specs.Callables.{declared_view}
use Rattle.upon_shape_check.specs.Plan.{plan_view}
use Rattle.upon_shape_check.specs.Scope.{scope_view}
use Rattle.upon_engine.specs.Engine.{engine_templates}
use Rattle.upon_shape_check.specs.Doubted.{each_misfits, misfit_view, misfits_view, template_misfits}
use Rattle.upon_shape_check.specs.Levels.{IsAcceptedAs}
use Rattle.upon_shape_check.specs.Planning.{IsPlanFor}
use Rattle.upon_shape_check.specs.Verdict.{IsAcceptedBy, IsUntoldFrom}
use Rattle.upon_shape_check.proofs.Ends.{ends_on, ends_as}
use Rattle.upon_shape_check.proofs.Plans.{none_left}
use Rattle.upon_shape_check.proofs.Reaching.{from_plan, if_err_same, some_denoted}
use Rattle.upon_shape_check.proofs.Refusing.{doubted_on, untold_doubts}
use Rattle.upon_engine.proofs.Tables.{only_table}
use Rattle.upon_shape_check.proofs.accepts.accepts.Goals as goal

pub returns-then-is_empty-clause-unless_deep : goal.returns-then-is_empty-clause-unless_deep
returns-then-is_empty-clause-unless_deep g c =
    let declared = declared_view c.args.declared.now in
    let table = engine_templates c.args.engine.now in
    let plan = plan_view c.in_ok-plan.plan in
    let misfits = c.in_ok-misfits.misfits in
    let none = none_left misfits.items misfits.len misfits.ok.0 (sym c.is_empty.ensures ∙ c.if-is_empty.true) in
    let same = c.over-scope.ensures ∙ ap (λ (s : Shape). scope_over s) c.in_ok-try_clone.ensures in
    ends_on _ _ c.args.engine.now declared plan c.args.name.now (shape_view c.args.shape.now)
    (subst (λ (s : Scope). IsAcceptedBy declared table plan (record { name = c.args.name.now; scope = s })) same
    (c.in_ok-misfits.ensures.accepted none))
    (c.in_ok-misfits.ensures.closed none)

pub returns-then-is_empty-clause-within : goal.returns-then-is_empty-clause-within
returns-then-is_empty-clause-within g c =
    let declared = declared_view c.args.declared.now in
    let table = engine_templates c.args.engine.now in
    let accepted = c.in_ok-accepted.accepted in
    let same = c.over-scope.ensures ∙ ap (λ (s : Shape). scope_over s) c.in_ok-try_clone.ensures in
    ends_as _ _ c.args.engine.now declared c.args.name.now (shape_view c.args.shape.now) accepted
    (subst (λ (s : Scope). IsAcceptedAs declared table (record { name = c.args.name.now; scope = s }) accepted) same
    c.in_ok-accepted.ensures.ends)

pub returns-in_err-plan-clause-doubted : goal.returns-in_err-plan-clause-doubted
returns-in_err-plan-clause-doubted g c =
    let declared = declared_view c.args.declared.now in
    let table = engine_templates c.args.engine.now in
    let name = c.args.name.now in
    let shape = shape_view c.args.shape.now in
    let asked = planned name (scope_view c.over-scope.result) in
    let is : asked ≡ planned name (scope_over shape) = ap (λ (s : Scope). planned name s) (c.over-scope.ensures ∙ ap (λ (s : Shape). scope_over s) c.in_ok-try_clone.ensures) in
    let refusal = c.in_err-plan.field-0.0 in
    if_err_same c.from_residual-in_err-plan.result refusal _ c.from_residual-in_err-plan.ensures.1
    (untold_doubts (λ f. (g.dyn-1.0.entry f.vtable).1.formats f.value) (λ f. (g.dyn-2.0.entry f.vtable).1.answers f.value) c.args.engine.now declared name shape refusal (subst (λ (a : Planned). IsUntoldFrom declared table a refusal) is c.in_err-plan.ensures.untold))

pub returns-in_err-misfits-clause-doubted : goal.returns-in_err-misfits-clause-doubted
returns-in_err-misfits-clause-doubted g c =
    let declared = declared_view c.args.declared.now in
    let table = engine_templates c.args.engine.now in
    let name = c.args.name.now in
    let shape = shape_view c.args.shape.now in
    let asked = planned name (scope_view c.over-scope.result) in
    let is : asked ≡ planned name (scope_over shape) = ap (λ (s : Scope). planned name s) (c.over-scope.ensures ∙ ap (λ (s : Shape). scope_over s) c.in_ok-try_clone.ensures) in
    let refusal = c.in_err-misfits.field-0.0 in
    let untold = from_plan declared table asked (plan_view c.in_ok-plan.plan) refusal c.in_ok-plan.ensures.made c.in_err-misfits.ensures.untold in
    if_err_same c.from_residual-in_err-misfits.result refusal _ c.from_residual-in_err-misfits.ensures.1
    (untold_doubts (λ f. (g.dyn-1.0.entry f.vtable).1.formats f.value) (λ f. (g.dyn-2.0.entry f.vtable).1.answers f.value) c.args.engine.now declared name shape refusal (subst (λ (a : Planned). IsUntoldFrom declared table a refusal) is untold))

pub returns-in_err-accepted-clause-doubted : goal.returns-in_err-accepted-clause-doubted
returns-in_err-accepted-clause-doubted g c =
    let declared = declared_view c.args.declared.now in
    let table = engine_templates c.args.engine.now in
    let name = c.args.name.now in
    let shape = shape_view c.args.shape.now in
    let asked = planned name (scope_view c.over-scope.result) in
    let is : asked ≡ planned name (scope_over shape) = ap (λ (s : Scope). planned name s) (c.over-scope.ensures ∙ ap (λ (s : Shape). scope_over s) c.in_ok-try_clone.ensures) in
    let refusal = c.in_err-accepted.field-0.0 in
    let untold = from_plan declared table asked (plan_view c.in_ok-plan.plan) refusal c.in_ok-plan.ensures.made c.in_err-accepted.ensures.untold in
    if_err_same c.from_residual-in_err-accepted.result refusal _ c.from_residual-in_err-accepted.ensures.1
    (untold_doubts (λ f. (g.dyn-1.0.entry f.vtable).1.formats f.value) (λ f. (g.dyn-2.0.entry f.vtable).1.answers f.value) c.args.engine.now declared name shape refusal (subst (λ (a : Planned). IsUntoldFrom declared table a refusal) is untold))

pub returns-clause-doubted : goal.returns-clause-doubted
returns-clause-doubted g c =
    let declared = declared_view c.args.declared.now in
    let table = engine_templates c.args.engine.now in
    let name = c.args.name.now in
    let shape = shape_view c.args.shape.now in
    let asked = planned name (scope_view c.over-scope.result) in
    let is : asked ≡ planned name (scope_over shape) = ap (λ (s : Scope). planned name s) (c.over-scope.ensures ∙ ap (λ (s : Shape). scope_over s) c.in_ok-try_clone.ensures) in
    let plan = plan_view c.in_ok-plan.plan in
    let misfits = c.in_ok-misfits.misfits in
    let ms = misfits_view misfits.items in
    let made = subst (λ (a : Planned). IsPlanFor declared table a plan) is c.in_ok-plan.ensures.made in
    let told = subst (λ (a : Planned). ms ≡ template_misfits declared plan a (table a.name) ++ each_misfits declared table plan plan) is c.in_ok-misfits.ensures.told in
    let some = some_denoted misfit_view misfits.items misfits.len misfits.ok.0 (sym c.is_empty.ensures ∙ c.if-is_empty.false) in
    λ table is_table. doubted_on (λ f. (g.dyn-1.0.entry f.vtable).1.formats f.value) (λ f. (g.dyn-2.0.entry f.vtable).1.answers f.value) c.args.engine.now declared plan name shape ms made told some table (only_table (get_by_text c.args.engine.now.templates) table is_table)

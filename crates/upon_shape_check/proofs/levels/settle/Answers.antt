use Rattle.std.proofs.Common.{◌≡◌, ◌∷◌, inl, List, ap, map, refl, rules, sym, subst}
use Rattle.upon_shape_spec.specs.Accepted.{EachAccepted, Planned}
use Rattle.upon_meaning_spec.specs.MapOrder.{IsAmong}
use Rattle.upon_shape_check.specs.Callables.{declared_view}
use Rattle.upon_shape_check.specs.Plan.{plan_view, planned_view}
use Rattle.upon_shape_check.specs.Verdict.{IsUntoldAmong}
use Rattle.upon_shape_check.specs.declared.plan.Planned.{Planned as PlannedCode}
use Rattle.upon_engine.specs.Engine.{engine_templates}
use Rattle.upon_shape_check.proofs.Plans.{each_more}
use Rattle.upon_shape_check.proofs.Reaching.{if_err_same, one_among, rest_among, untold_among}
use Rattle.upon_shape_check.proofs.levels.settle.Goals as goal

abbrev plan_of : List PlannedCode → List Planned
plan_of items = map planned_view items

pub loop-planned-preserved-in-Continue-branch-2 : goal.loop-planned-preserved-in-Continue-branch-2
loop-planned-preserved-in-Continue-branch-2 g c =
    let declared = declared_view c.args.declared.now in
    let table = engine_templates c.args.engine.now in
    let settled = plan_view c.args.settled.now in
    let is : c.loop-planned.planned-iterator.rest.items ≡ c.in-Some.planned ∷ c.next.new.self.rest.items = search rules in
    record {
      added = subst (λ (plan : List Planned). EachAccepted declared table settled plan) (sym c.in_ok-add.ensures.ok)
          (each_more declared table settled (plan_view c.loop-planned.added) (planned_view c.in-Some.planned)
          c.loop-planned.invariant.added (c.in_ok-is_accepted.ensures.accepted c.if-branch.true));
      others = c.loop-planned.invariant.others;
      rest = rest_among (planned_view c.in-Some.planned) (plan_of c.loop-planned.planned-iterator.rest.items) (plan_of c.next.new.self.rest.items) (plan_view c.args.left)
          (ap plan_of is) c.loop-planned.invariant.rest;
    }

pub loop-planned-preserved : goal.loop-planned-preserved
loop-planned-preserved g c =
    let is : c.loop-planned.planned-iterator.rest.items ≡ c.in-Some.planned ∷ c.next.new.self.rest.items = search rules in
    let all : plan_of c.loop-planned.planned-iterator.rest.items ≡ planned_view c.in-Some.planned ∷ plan_of c.next.new.self.rest.items = ap plan_of is in
    record {
      added = c.loop-planned.invariant.added;
      others = one_among (planned_view c.in-Some.planned) (plan_of c.loop-planned.planned-iterator.rest.items) (plan_of c.next.new.self.rest.items)
          (plan_view c.loop-planned.others) (plan_view c.add-else-branch.new.self) (plan_view c.args.left) all c.in_ok-add-2.ensures.ok c.loop-planned.invariant.rest c.loop-planned.invariant.others;
      rest = rest_among (planned_view c.in-Some.planned) (plan_of c.loop-planned.planned-iterator.rest.items) (plan_of c.next.new.self.rest.items) (plan_view c.args.left) all c.loop-planned.invariant.rest;
    }

pub returns-in_err-is_accepted-clause-untold : goal.returns-in_err-is_accepted-clause-untold
returns-in_err-is_accepted-clause-untold g c =
    let declared = declared_view c.args.declared.now in
    let table = engine_templates c.args.engine.now in
    let is : c.loop-planned.planned-iterator.rest.items ≡ c.in-Some.planned ∷ c.next.new.self.rest.items = search rules in
    let p = planned_view c.in-Some.planned in
    let among = c.loop-planned.invariant.rest p (subst (λ (l : List Planned). IsAmong p l) (sym (ap plan_of is)) (inl refl)) in
    if_err_same c.from_residual.result c.in_err-is_accepted.field-0.0 (IsUntoldAmong declared table (plan_view c.args.left)) c.from_residual.ensures.1
    (untold_among declared table (plan_view c.args.left) p c.in_err-is_accepted.field-0.0 among c.in_err-is_accepted.ensures.untold)

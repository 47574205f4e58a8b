use Rattle.std.proofs.Common.{◌≡◌, ◌∷◌, Some, ap, sym, rules}
use Rattle.upon_shape_spec.specs.Doubted.{planned}
use Rattle.upon_shape_check.specs.Doubt.{doubt_view, doubts_view, unsure_view}
use Rattle.upon_shape_check.specs.Plan.{plan_view}
use Rattle.upon_shape_check.specs.Planning.{include_of}
use Rattle.upon_shape_check.specs.Scope.{scope_view}
use Rattle.upon_engine.specs.Engine.{engine_templates}
use Rattle.upon_shape_check.proofs.MakingPlans.{so_far_more, so_far_none, so_far_same}
use Rattle.upon_shape_check.proofs.planning.add_included.Goals as goal

pub loop-doubt-init : goal.loop-doubt-init
loop-doubt-init g c =
    let is : c.into_iter-doubt-iterator.result.rest.items ≡ c.args.doubts.items = search rules in
    so_far_none (engine_templates c.args.engine.now) (doubts_view c.args.doubts.items) (doubts_view c.into_iter-doubt-iterator.result.rest.items) (plan_view c.args.plan.now) (ap doubts_view is)

pub loop-doubt-preserved-in-Continue-1 : goal.loop-doubt-preserved-in-Continue-1
loop-doubt-preserved-in-Continue-1 g c =
    let is : c.loop-doubt.doubt-iterator.rest.items ≡ c.in-Some.doubt ∷ c.next.new.self.rest.items = search rules in
    let it = planned c.in-Some-included.name.now (scope_view c.in-Some-included.scope) in
    let some : include_of (unsure_view c.in-Some.doubt.unsure) ≡ Some it = cc in
    so_far_more (engine_templates c.args.engine.now) (doubts_view c.args.doubts.items) (doubts_view c.loop-doubt.doubt-iterator.rest.items) (doubts_view c.next.new.self.rest.items)
    (doubt_view c.in-Some.doubt) it (plan_view c.args.plan.now) (plan_view c.loop-doubt.plan) (plan_view c.add_one.new.plan) (ap doubts_view is) some c.loop-doubt.invariant c.in_ok-add_one-in-Some-included.ensures

pub loop-doubt-preserved : goal.loop-doubt-preserved
loop-doubt-preserved g c =
    let is : c.loop-doubt.doubt-iterator.rest.items ≡ c.in-Some.doubt ∷ c.next.new.self.rest.items = search rules in
    so_far_same (engine_templates c.args.engine.now) (doubts_view c.args.doubts.items) (doubts_view c.loop-doubt.doubt-iterator.rest.items) (doubts_view c.next.new.self.rest.items)
    (doubt_view c.in-Some.doubt) (plan_view c.args.plan.now) (plan_view c.loop-doubt.plan) (ap doubts_view is) (sym c.in-None-included.ensures) c.loop-doubt.invariant

use Rattle.std.proofs.Common.{false, cond, ap, ◌∙◌, sym, ◌-◌, take, arith}
use Rattle.upon_shape_spec.specs.Scope.{names_wider}
use Rattle.upon_shape_check.specs.Scope.{names_view}
use Rattle.upon_shape_check.proofs.Scoping.{wider_here}
use Rattle.upon_shape_check.proofs.scope.names_are_as_wide.Goals as goal

pub returns-then-not-is_bound_as_widely : goal.returns-then-not-is_bound_as_widely
returns-then-not-is_bound_as_widely c =
    let bs = names_view c.args.wide.now in
    let cs = names_view c.args.others.now in
    let rest = names_wider (names_view (take (c.loop-left.left - 1) c.args.names.now)) bs cs in
    sym
    (wider_here c.args.names.now bs cs c.loop-left.left c.index-names-left.result c.index-names-left-in-loop-left.result _ _ c.is_bound_as_widely.result c.loop-left-test.true c.loop-left.invariant.within
    c.index-names-left.is c.bound_to.ensures c.bound_to-in-loop-left.ensures c.is_bound_as_widely.ensures c.loop-left.invariant.same
    ∙ ap (λ b. cond b rest false) c.if-not-is_bound_as_widely.true)

pub loop-left-preserved : goal.loop-left-preserved
loop-left-preserved c =
    let bs = names_view c.args.wide.now in
    let cs = names_view c.args.others.now in
    let rest = names_wider (names_view (take (c.loop-left.left - 1) c.args.names.now)) bs cs in
    record {
      within = omega arith;
      same =
          wider_here c.args.names.now bs cs c.loop-left.left c.index-names-left.result c.index-names-left-in-loop-left.result _ _ c.is_bound_as_widely.result c.loop-left-test.true c.loop-left.invariant.within
          c.index-names-left.is c.bound_to.ensures c.bound_to-in-loop-left.ensures c.is_bound_as_widely.ensures c.loop-left.invariant.same
          ∙ ap (λ b. cond b rest false) c.if-not-is_bound_as_widely.false;
    }

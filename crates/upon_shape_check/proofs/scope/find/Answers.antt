use Rattle.std.proofs.Common.{◌≡◌, ◌+◌, ◌-◌, ap, ◌∙◌, sym, arith}
use Rattle.std.specs.Str.{bytes_eq}
use Rattle.upon_shape_check.specs.declared.scope.NameShape.{NameShape}
use Rattle.upon_shape_check.proofs.Scoping.{found_here, depth_passed, first_passed}
use Rattle.upon_shape_check.proofs.scope.find.Goals as goal

pub returns-then-eq : goal.returns-then-eq
returns-then-eq c =
    found_here c.args.name.now c.args.names.now c.loop-left.left c.index-names-left.result c.index-names-left-then-eq.result c.loop-left-test.true c.loop-left.invariant.within c.index-names-left.is
    c.if-eq.ensures c.loop-left.invariant.depth c.loop-left.invariant.first

pub loop-left-preserved : goal.loop-left-preserved
loop-left-preserved c =
    let left = c.loop-left.left in
    let x = c.index-names-left.result in
    let next : left ≡ (left - 1) + 1 = omega arith in
    let differs = ap (λ (n : NameShape). bytes_eq c.args.name.now n.name.now) c.index-names-left.is ∙ sym c.if-eq.ensures in
    record {
      within = omega arith;
      depth = depth_passed c.args.name.now c.args.names.now left (left - 1) x next c.loop-left.invariant.within c.index-names-left.is differs c.loop-left.invariant.depth;
      first = first_passed c.args.name.now c.args.names.now left (left - 1) x next c.loop-left.invariant.within c.index-names-left.is differs c.loop-left.invariant.first;
    }

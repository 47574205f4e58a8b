use Rattle.std.proofs.Common.{◌≡◌, drop, map}
use Rattle.upon_shape_spec.specs.Wider.{all_wider}
use Rattle.upon_shape.specs.View.{shape_view}
use Rattle.upon_shape_check.proofs.declared.are_as_wide.Given as goal

abbrev pub invariant-loop-index : goal.invariant-loop-index
invariant-loop-index l = all_wider (map shape_view l.wide) (map shape_view l.shapes) ≡ all_wider (map shape_view (drop l.index l.wide)) (map shape_view (drop l.index l.shapes))

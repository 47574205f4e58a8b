use Rattle.std.proofs.Common.{◌≡◌, map, take}
use Rattle.upon_shape_check.specs.Callables.{signature_view}
use Rattle.upon_std_shapes.specs.Forms.{shape_of_item, signature_by}
use Rattle.upon_std_shapes.proofs.rows.for_each.Given as goal

abbrev pub invariant-loop-item : goal.invariant-loop-item
invariant-loop-item l = map signature_view l.rows.items ≡ map (λ item. signature_by l.takes l.gives (shape_of_item item)) (take l.item-index l.items)

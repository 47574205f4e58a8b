use Rattle.std.proofs.Common.{◌≡◌, map, take}
use Rattle.upon_shape.specs.View.{shape_view}
use Rattle.upon_std_shapes.specs.Forms.{shape_of_form, shape_of_item}
use Rattle.upon_std_shapes.proofs.rows.signature.Given as goal

abbrev pub invariant-loop-form : goal.invariant-loop-form
invariant-loop-form l = map shape_view l.shapes.items ≡ map (λ f. shape_of_form f (shape_of_item l.item)) (take l.form-index l.takes)

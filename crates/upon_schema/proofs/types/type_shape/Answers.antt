use Rattle.std.proofs.Common.{codes, ap, ◌∙◌}
use Rattle.upon_shape_spec.specs.Shape.{any_shape, list_of}
use Rattle.upon_shape.specs.View.{shape_view}
use Rattle.upon_shape.proofs.ShapeViews.{view-Any}
use Rattle.upon_schema.proofs.TypeShapes.{array_fits, covers_type}
use Rattle.upon_schema.proofs.types.type_shape.Goals as goal

pub returns-in_ok-list_of-in-array-clause-covers : goal.returns-in_ok-list_of-in-array-clause-covers
returns-in_ok-list_of-in-array-clause-covers c =
    covers_type (shape_view c.in_ok-list_of-in-array.field-0) (list_of any_shape) c.args.name.now (codes "array") (c.in_ok-list_of-in-array.ensures ∙ ap list_of view-Any) c.in-array.is array_fits

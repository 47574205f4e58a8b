use Rattle.std.proofs.Common.{Some, None, ap, ◌∙◌}
use Rattle.upon_shape_spec.specs.Shape as spec
use Rattle.upon_shape.specs.View.{keys_view}
use Rattle.upon_shape.proofs.ShapeViews.{view-OneOf}
use Rattle.upon_shape.proofs.shape.Shape.map_of.Goals as goal

pub returns : goal.returns
returns c =
    view-OneOf c.kinds.result None (Some c.args.keys)
    ∙ ap (λ (p : spec.Plain). spec.one_of p spec.no_list (spec.maps_of (keys_view c.args.keys))) c.kinds.ensures

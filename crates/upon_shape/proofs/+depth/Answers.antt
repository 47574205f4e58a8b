use Rattle.std.proofs.Common.{◌||◌, ap, ◌∙◌, sym}
use Rattle.upon_shape.specs.View.{maps_view, shape_view}
use Rattle.upon_shape.proofs.ShapeViews.{view-OneOf}
use Rattle.upon_shape_spec.specs.Depth.{is_deeper, maps_deeper}
use Rattle.upon_shape.proofs.+depth.Goals as goal

pub shape::Shape::is_deeper_than-returns-else-items_are_deeper : goal.shape::Shape::is_deeper_than-returns-else-items_are_deeper
shape::Shape::is_deeper_than-returns-else-items_are_deeper t c =
    let n = c.args.levels in
    let keys = maps_view c.in-OneOf.keys in
    c.maps_are_deeper.ensures
    ∙ (ap (λ b. b || maps_deeper n keys) c.if-items_are_deeper.ensures
    ∙ sym (ap (λ s. is_deeper n (shape_view s)) c.in-OneOf.is ∙ ap (is_deeper n) (view-OneOf c.in-OneOf.plain c.in-OneOf.items c.in-OneOf.keys)))

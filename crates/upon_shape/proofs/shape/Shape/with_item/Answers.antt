use Rattle.std.proofs.Common.{◌∙◌, ap}
use Rattle.upon_shape_spec.specs.Join.{join_shapes}
use Rattle.upon_shape.specs.View.{shape_view}
use Rattle.upon_shape.specs.declared.shape.Shape.{Shape}
use Rattle.upon_shape.proofs.ShapeViews.{view-with_item}
use Rattle.upon_shape.proofs.shape.Shape.with_item.Goals as goal

pub returns : goal.returns
returns c =
    view-with_item c.args.self c.in-OneOf.plain c.in-OneOf.items c.in-OneOf.keys c.in-Some.items c.in_ok-new.field-0 (shape_view c.args.item.now) c.in-OneOf.is c.in-Some.is
    (ap shape_view c.in_ok-new.ensures.ok ∙ (c.in_ok-joined.ensures ∙ ap (λ (s : Shape). join_shapes (shape_view s) (shape_view c.args.item.now)) c.deref.ensures))

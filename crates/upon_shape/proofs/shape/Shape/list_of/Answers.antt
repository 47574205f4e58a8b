use Rattle.std.proofs.Common.{Some, None, ap, ◌∙◌}
use Rattle.upon_shape_spec.specs.Shape as spec
use Rattle.upon_shape.specs.View.{shape_view}
use Rattle.upon_shape.specs.declared.shape.Shape.{Shape}
use Rattle.upon_shape.proofs.ShapeViews.{view-OneOf}
use Rattle.upon_shape.proofs.shape.Shape.list_of.Goals as goal

pub returns : goal.returns
returns c =
    view-OneOf c.kinds.result (Some c.in_ok-new.field-0) None
    ∙ ap (λ (p : spec.Plain). spec.one_of p (spec.lists_of (shape_view c.in_ok-new.field-0.value)) spec.no_map) c.kinds.ensures
    ∙ ap (λ (s : Shape). spec.list_of (shape_view s)) c.in_ok-new.ensures.ok

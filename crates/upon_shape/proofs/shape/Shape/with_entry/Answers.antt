use Rattle.upon_shape.proofs.ShapeViews.{view-with_entry}
use Rattle.upon_shape.proofs.shape.Shape.with_entry.Goals as goal

pub returns : goal.returns
returns c = view-with_entry c.args.self c.in-OneOf.plain c.in-OneOf.items c.in-OneOf.keys c.in-Some.keys c.in_ok-with_entry.field-0 _ _ c.in-OneOf.is c.in-Some.is c.in_ok-with_entry.ensures

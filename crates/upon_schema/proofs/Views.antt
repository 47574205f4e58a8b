-- What values and shapes denote, one level at a time.
use Rattle.upon_types.proofs.Views.{views as value_views}
use Rattle.upon_shape.proofs.ShapeViews.{views as shape_views}

pub ruleset views = (value_views, shape_views)

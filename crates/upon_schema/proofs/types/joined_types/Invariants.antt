use Rattle.std.proofs.Common.{drop}
use Rattle.upon_types.specs.View.{vals_view}
use Rattle.upon_shape.specs.View.{shape_view}
use Rattle.upon_schema.specs.Covers.{Covers}
use Rattle.upon_schema.specs.Valid.{IsOfTypes}
use Rattle.upon_schema.proofs.types.joined_types.Given as goal

-- the shape is of the values of the types behind
abbrev pub invariant-loop-index : goal.invariant-loop-index
invariant-loop-index l = Covers (shape_view l.shape) (IsOfTypes (vals_view (drop l.index l.names)))

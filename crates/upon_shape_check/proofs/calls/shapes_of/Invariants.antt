use Rattle.std.proofs.Common.{◌≡◌, drop, map}
use Rattle.upon_shape_spec.specs.ProgramDoubts as walks
use Rattle.upon_shape.specs.View.{shape_view}
use Rattle.upon_shape_check.specs.Known.{operand_view}
use Rattle.upon_shape_check.proofs.Taking.{ahead_of}
use Rattle.upon_shape_check.proofs.calls.shapes_of.Given as goal

abbrev pub invariant-loop-operand : goal.invariant-loop-operand
invariant-loop-operand l = walks.shapes_of (map operand_view l.operands) ≡ ahead_of (map shape_view l.shapes.items) (walks.shapes_of (map operand_view (drop l.operand-index l.operands)))

use Rattle.std.proofs.Common.{◌∙◌, arith}
use Rattle.upon_shape_check.specs.Callables.{declared_view}
use Rattle.upon_std_shapes.proofs.Declaring.{declared_more}
use Rattle.upon_std_shapes.proofs.declare.declare_standard.Goals as goal

pub loop-function-preserved : goal.loop-function-preserved
loop-function-preserved c = record {
  callables =
      declared_more c.args.functions.now c.loop-function.function-index _ (declared_view c.args.declared.now).callables
      (declared_view c.loop-function.declared).callables (declared_view c.declare.new.declared).callables (omega arith)
      c.loop-function.invariant.callables c.in_ok-declare.ensures.ok;
  default_formats = c.declare.ensures.default ∙ c.loop-function.invariant.default_formats;
}

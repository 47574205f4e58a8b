use Rattle.std.proofs.Common.{Some, ap, option_map}
use Rattle.upon_shape.specs.View.{shape_view}
use Rattle.upon_shape_check.specs.Callables.{declared_view}
use Rattle.upon_shape_check.specs.Known.{known_view, operand_view}
use Rattle.upon_shape_check.proofs.Acting.{emitted}
use Rattle.upon_shape_check.proofs.steps.emits.Goals as goal

pub returns : goal.returns
returns c = λ number inc.
    let mid = known_view c.pop.new.self in
    emitted (declared_view c.args.declared.now) inc number (known_view c.args.known.now) mid (operand_view c.in_ok-operand.operand) (Some (shape_view c.in_ok-operand-2.field-0)) _ c.in_ok-operand.ensures
    (ap (option_map shape_view) c.in_ok-operand-2.was) (c.text_doubt.ensures mid.scope)

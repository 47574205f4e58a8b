use Rattle.std.proofs.Common.{Some, ap, option_map, ◌∙◌}
use Rattle.upon_types.specs.AstPath.{string_of}
use Rattle.upon_shape_spec.specs.Accepted.{is_planned}
use Rattle.upon_shape_spec.specs.ProgramDoubts.{include_doubts}
use Rattle.upon_shape.specs.View.{shape_view}
use Rattle.upon_shape_check.specs.Known.{known_view, operand_view}
use Rattle.upon_shape_check.specs.Plan.{plan_view}
use Rattle.upon_shape_check.proofs.Acting.{included_alone}
use Rattle.upon_shape_check.proofs.steps.includes_with.Goals as goal

pub returns : goal.returns
returns c = λ d number.
    let included = is_planned (plan_view c.args.plan.now) in
    let name = string_of c.args.name.now in
    included_alone d included number (known_view c.args.known.now) (known_view c.pop.new.self) (operand_view c.in_ok-operand.operand) name (Some (shape_view c.in_ok-operand-2.field-0)) _ c.in_ok-operand.ensures
    (ap (option_map shape_view) c.in_ok-operand-2.was) (c.included_doubt.ensures d ∙ ap (include_doubts d included name) c.over.ensures)

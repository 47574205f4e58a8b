use Rattle.std.proofs.Common.{Some, None, ap, refl, ◌∙◌}
use Rattle.upon_shape_spec.specs.Shape.{list_of}
use Rattle.upon_shape_spec.specs.Known.{known_operand, with_operand}
use Rattle.upon_shape_check.specs.Known.{known_view}
use Rattle.upon_shape_check.proofs.steps.starts_list.Goals as goal

pub returns : goal.returns
returns c = λ number d inc. (refl, c.in_ok-leave.ensures ∙ ap (λ s. with_operand (known_operand (Some s) c.args.place None) (known_view c.args.known.now)) (c.in_ok-shape.ensures ∙ ap list_of c.never.ensures))

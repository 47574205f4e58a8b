use Rattle.std.proofs.Common.{[], ◌∷◌, refl, ap, ◌∙◌}
use Rattle.upon_types.specs.AstPath.{ident_of}
use Rattle.upon_machine_spec.specs.Instr.{with_start}
use Rattle.upon_shape_spec.specs.Scope.{name_shape, value_of}
use Rattle.upon_shape_spec.specs.ProgramDoubts.{binds_shapes}
use Rattle.upon_shape.specs.View.{shape_view}
use Rattle.upon_shape_check.specs.Known.{known_view, operand_view}
use Rattle.upon_shape_check.proofs.Acting.{named, where_none}
use Rattle.upon_shape_check.proofs.steps.starts_with.Goals as goal

pub returns-in-None : goal.returns-in-None
returns-in-None c = λ number d inc. where_none d inc number (known_view c.args.known.now) (known_view c.pop.new.self) (with_start (ident_of c.args.name.now)) c.in-None.ensures.0 c.in-None.ensures.1 (refl, refl)

pub returns-in_ok-bind-in-Some : goal.returns-in_ok-bind-in-Some
returns-in_ok-bind-in-Some c = λ number d inc.
    let mid = known_view c.pop.new.self in
    let bound = value_of (shape_view c.or_never.result) in
    named d inc number (known_view c.args.known.now) mid (known_view c.bind.new.self) (operand_view c.in-Some.operand) (ident_of c.args.name.now) (shape_view c.or_never.result) c.in-Some.ensures c.or_never.ensures
    (c.in_ok-bind-in-Some.ensures ∙ ap (λ t. binds_shapes (name_shape t bound ∷ []) mid.operands mid) c.as_str.ensures)

use Rattle.std.proofs.Common.{List, map, ap, ◌∙◌}
use Rattle.upon_types.specs.AstPath.{ident_of}
use Rattle.upon_shape_spec.specs.Doubts.{given_doubts, if_some}
use Rattle.upon_shape_spec.specs.ExpressionShapes.{call_shape}
use Rattle.upon_shape_spec.specs.ProgramDoubts.{shapes_of}
use Rattle.upon_shape_check.specs.Callables.{declared_view}
use Rattle.upon_shape_check.specs.Known.{known_view, operand_view}
use Rattle.upon_shape_check.specs.declared.known.Operand.{Operand}
use Rattle.upon_shape_check.proofs.Acting.{applied_to, few_applied}
use Rattle.upon_shape_check.proofs.calls.applies.Goals as goal

pub returns-in-None : goal.returns-in-None
returns-in-None c = λ number inc.
    let h = rw c.in-None.is at c.in_ok-take.ensures in
    few_applied (declared_view c.args.declared.now) inc number (ident_of c.args.name.now) c.args.count c.args.place (known_view c.args.known.now) (known_view c.take.new.self) h.0 h.1

pub returns-in_ok-push-in-Some : goal.returns-in_ok-push-in-Some
returns-in_ok-push-in-Some c = λ number inc.
    let d = declared_view c.args.declared.now in
    let name = ident_of c.args.name.now in
    let h = rw c.in-Some.is at c.in_ok-take.ensures in
    applied_to d inc number name c.args.count c.args.place (known_view c.args.known.now) (known_view c.take.new.self) (known_view c.push.new.self) (map operand_view c.in-Some.operands.items) _ _ h.0 h.1
    (c.in_ok-given-in-Some.ensures.doubt ∙ ap (λ (l : List Operand). if_some (shapes_of (map operand_view l)) (given_doubts name.span (d.callables name.text))) c.deref.ensures.value)
    (c.in_ok-given-in-Some.ensures.shape ∙ ap (λ (l : List Operand). call_shape (d.callables name.text) (shapes_of (map operand_view l))) c.deref.ensures.value)
    c.in_ok-push-in-Some.ensures

use Rattle.std.proofs.Common.{List, map, ap, ◌∙◌}
use Rattle.upon_types.specs.AstPath.{ident_of}
use Rattle.upon_shape_spec.specs.Doubts.{if_some, shown_call_doubts}
use Rattle.upon_shape_spec.specs.ProgramDoubts.{shapes_of}
use Rattle.upon_shape_check.specs.Callables.{declared_view}
use Rattle.upon_shape_check.specs.Doubt.{maybe_doubt}
use Rattle.upon_shape_check.specs.Known.{known_view, operand_view}
use Rattle.upon_shape_check.specs.Scope.{scope_view}
use Rattle.upon_shape_check.specs.declared.known.Operand.{Operand}
use Rattle.upon_shape_check.proofs.Acting.{few_shown, if_ok_map, shown_of}
use Rattle.upon_shape_check.proofs.calls.emits_with.Goals as goal

pub returns-in-None : goal.returns-in-None
returns-in-None c = λ number inc.
    let h = rw c.in-None.is at c.in_ok-take.ensures in
    few_shown (declared_view c.args.declared.now) inc number (ident_of c.args.name.now) c.args.count c.args.whole (known_view c.args.known.now) (known_view c.take.new.self) h.0 h.1

pub returns-in-Some : goal.returns-in-Some
returns-in-Some c =
    let d = declared_view c.args.declared.now in
    let name = ident_of c.args.name.now in
    let scope = scope_view c.args.known.now.scope in
    let h = rw c.in-Some.is at c.in_ok-take.ensures in
    if_ok_map c.shown_of.result
    (λ ds is number inc. shown_of d inc number name c.args.count c.args.whole (known_view c.args.known.now) (known_view c.take.new.self) (map operand_view c.in-Some.operands.items) (maybe_doubt ds) h.0 h.1
    (is scope ∙ ap (λ (l : List Operand). if_some (shapes_of (map operand_view l)) (shown_call_doubts d scope name.span c.args.whole (d.callables name.text))) c.deref.ensures.value))
    c.shown_of.ensures

use Rattle.std.proofs.Common.{List, Some, map, ap, sym, ◌∙◌}
use Rattle.upon_shape_spec.specs.Declared as spec
use Rattle.upon_shape_spec.specs.Doubts.{shown_call_doubts, shown_value_doubts}
use Rattle.upon_shape.specs.View.{shape_view}
use Rattle.upon_shape.specs.declared.shape.Shape.{Shape}
use Rattle.upon_shape_check.specs.Callables.{callable_view, declared_view, signature_view}
use Rattle.upon_shape_check.specs.declared.declared.Signature.{Signature}
use Rattle.upon_shape_check.proofs.Acting.{if_ok_map}
use Rattle.upon_shape_check.proofs.calls.shown_by.Goals as goal

pub returns-in-Gives : goal.returns-in-Gives
returns-in-Gives c =
    let d = declared_view c.args.declared.now in
    let shapes = map shape_view c.args.shapes.items in
    if_ok_map c.shown_value.result
    (λ ds is scope.
    is scope
    ∙ (ap (shown_value_doubts d scope c.args.place c.args.whole shapes)
    (c.given_by-given.ensures
    ∙ (ap (λ (l : List Signature). spec.given_by (map signature_view l) (map shape_view c.deref-in-Gives.result.now)) c.deref.ensures.value ∙ ap (λ (l : List Shape). spec.given_by (map signature_view c.in-Gives.signatures.items) (map shape_view l)) c.deref-in-Gives.ensures.value))
    ∙ sym (ap (λ f. shown_call_doubts d scope c.args.place c.args.whole (Some (callable_view f)) (map shape_view c.args.shapes.items)) c.in-Gives.is)))
    c.shown_value.ensures

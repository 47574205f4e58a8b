use Rattle.std.proofs.Common.{Option, Vec, Global, map, option_map, ap, sym, ◌∙◌}
use Rattle.upon_types.specs.AstPath.{ident_of}
use Rattle.upon_shape_spec.specs.Doubts.{if_some, shown_call_doubts}
use Rattle.upon_shape.specs.View.{shape_view}
use Rattle.upon_shape.specs.declared.shape.Shape.{Shape}
use Rattle.upon_shape_check.specs.Callables.{declared_view}
use Rattle.upon_shape_check.proofs.Acting.{if_ok_map}
use Rattle.upon_shape_check.proofs.calls.shown_of.Goals as goal

pub returns-in-None : goal.returns-in-None
returns-in-None c = λ scope.
    let d = declared_view c.args.declared.now in
    let name = ident_of c.args.name.now in
    let seen = λ (o : Option (Vec Shape Global)). option_map (λ (shapes : Vec Shape Global). map shape_view shapes.items) o in
    ap (λ o. if_some o (shown_call_doubts d scope name.span c.args.whole (d.callables name.text))) (sym (ap seen c.in-None.is) ∙ c.in_ok-shapes_of.ensures)

pub returns-in-Some : goal.returns-in-Some
returns-in-Some c =
    let d = declared_view c.args.declared.now in
    let name = ident_of c.args.name.now in
    let seen = λ (o : Option (Vec Shape Global)). option_map (λ (shapes : Vec Shape Global). map shape_view shapes.items) o in
    if_ok_map c.shown_doubt.result
    (λ ds is scope. is scope ∙ ap (λ o. if_some o (shown_call_doubts d scope name.span c.args.whole (d.callables name.text))) (sym (ap seen c.in-Some.is) ∙ c.in_ok-shapes_of.ensures))
    c.shown_doubt.ensures

use Rattle.std.proofs.Common.{map, option_copied, option_map, ap, sym, ◌∙◌}
use Rattle.upon_shape_spec.specs.Doubts.{shown_value_doubts, text_doubts}
use Rattle.upon_shape.specs.View.{shape_view}
use Rattle.upon_shape_check.specs.Callables.{declared_view}
use Rattle.upon_shape_check.proofs.calls.shown_value.Goals as goal

pub returns-in_ok-try_clone-in-Some : goal.returns-in_ok-try_clone-in-Some
returns-in_ok-try_clone-in-Some c = λ scope.
    let d = declared_view c.args.declared.now in
    c.text_doubt.ensures scope
    ∙ (ap (text_doubts d scope c.args.whole) c.in_ok-try_clone-in-Some.ensures
    ∙ sym (ap (λ o. shown_value_doubts d scope c.args.place c.args.whole (map shape_view c.args.shapes.items) (option_map shape_view (option_copied o))) c.in-Some.is))

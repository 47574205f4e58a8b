use Rattle.std.proofs.Common.{rules, ◌≡◌, ◌<◌, [], Bool, length, map, slice_get, slice_index_or, Some, ap, subst, sym, ◌∙◌, arith}
use Rattle.std.proofs.lemmas.List.{take_all}
use Rattle.std.proofs.lemmas.List.Folds.{list_all-map}
use Rattle.std.proofs.lemmas.Option.{slice_get-get_or}
use Rattle.std.specs.List.{list_all}
use Rattle.upon_types.specs.Span.{LiesIn}
use Rattle.upon_needs.specs.Places.{call_at}
use Rattle.upon_needs.specs.declared.places.CallPlace.{CallPlace}
use Rattle.upon_tool_messages.specs.Judged.{is_right_call}
use Rattle.upon_tool_messages.proofs.call_check.check_calls.Goals as goal

pub check_call-requires : goal.check_call-requires
check_call-requires g c =
    let given = c.as_slice-call-items.result.now in
    let at = c.loop-call.call-index in
    let none : CallPlace = record { name = record { ref_ptr = (0, 0); now = [] }; span = record { m = 0; n = 0 }; arguments = 0 } in
    let inside : at < length given = search rules in
    let there = subst (λ places. slice_get places at ≡ Some (slice_index_or given at none)) c.as_slice-call-items.ensures.value (slice_get-get_or given at none inside) in
    subst (λ source. LiesIn source (slice_index_or given at none).span) (sym c.source-source.ensures.source) (c.in_ok-calls.ensures.lie at (slice_index_or given at none) there)

pub returns-clause-right : goal.returns-clause-right
returns-clause-right g c =
    let items = c.as_slice-call-items.result.now in
    let right = is_right_call c.args.callables.now in
    let each = λ (place : CallPlace). right (call_at place) in
    c.loop-call.invariant.right
    ∙ (ap (list_all each) (take_all c.loop-call.call-index items (omega arith))
    ∙ (sym (list_all-map right call_at items)
    ∙ ap (list_all right) (ap (map call_at) c.as_slice-call-items.ensures.value ∙ c.in_ok-calls.ensures.calls)))

use Rattle.std.proofs.Common.{◌<◌, None, Some, find, length, map, arith, ap, sym, ◌∙◌}
use Rattle.std.proofs.lemmas.List.{take_all}
use Rattle.upon_needs.specs.Places.{include_at}
use Rattle.upon_tool_messages.proofs.Found.{first_found, none_more}
use Rattle.upon_tool_messages.proofs.IncludesFound.{by_places, place_is_at}
use Rattle.upon_tool_messages.proofs.library.included_at.Goals as goal

pub returns-then-eq : goal.returns-then-eq
returns-then-eq c =
    let inside : c.loop-place.place-index < length c.as_slice-place-items.result.now = omega arith in
    sym (by_places c.args.span c.as_slice-place-items.result.now _ (Some _) (ap (map include_at) c.as_slice-place-items.ensures.value ∙ c.in_ok-places.ensures.includes)
    (first_found (place_is_at c.args.span) c.as_slice-place-items.result.now c.loop-place.place-index _ inside c.loop-place.invariant (sym c.eq.ensures ∙ c.if-eq.true)))

pub loop-place-preserved : goal.loop-place-preserved
loop-place-preserved c =
    let inside : c.loop-place.place-index < length c.as_slice-place-items.result.now = omega arith in
    none_more (place_is_at c.args.span) c.as_slice-place-items.result.now c.loop-place.place-index _ inside c.loop-place.invariant (sym c.eq.ensures ∙ c.if-eq.false)

pub returns : goal.returns
returns c =
    sym (by_places c.args.span c.as_slice-place-items.result.now _ None (ap (map include_at) c.as_slice-place-items.ensures.value ∙ c.in_ok-places.ensures.includes)
    (ap (find (place_is_at c.args.span)) (sym (take_all c.loop-place.place-index c.as_slice-place-items.result.now (omega arith))) ∙ c.loop-place.invariant))

use Rattle.std.proofs.Common.{◌≡◌, ◌<◌, None, get_or, length, rules, sym, ◌∙◌}
use Rattle.upon_tool_many.specs.Names.{page_names}
use Rattle.upon_tool_many.proofs.Places.{first_again_at, name_here, place_inside, places_more}
use Rattle.upon_tool_many.proofs.names.first_again.Goals as goal

pub returns-in-Some : goal.returns-in-Some
returns-in-Some g c =
    let page = c.index-pages-place.result in
    let inside : c.loop-place.place < length c.args.pages.now = search rules in
    let at : get_or c.args.pages.now c.loop-place.place page ≡ page = search rules in
    first_again_at (page_names c.args.pages.now) c.loop-place.places c.loop-place.place c.in-Some.first c.as_str.result.now (place_inside c.args.pages.now c.loop-place.place inside)
    (name_here c.args.pages.now c.loop-place.place page c.as_str.result.now inside at c.as_str.ensures.value) (sym c.in_ok-first.ensures.old ∙ c.in-Some.is) c.loop-place.invariant

pub loop-place-preserved : goal.loop-place-preserved
loop-place-preserved g c =
    let page = c.index-pages-place.result in
    let inside : c.loop-place.place < length c.args.pages.now = search rules in
    let at : get_or c.args.pages.now c.loop-place.place page ≡ page = search rules in
    let new : c.in_ok-first.field-0 ≡ None = search rules in
    places_more (page_names c.args.pages.now) c.loop-place.places c.insert.new.self c.loop-place.place c.as_str.result.now
    (name_here c.args.pages.now c.loop-place.place page c.as_str.result.now inside at c.as_str.ensures.value) (sym c.in_ok-first.ensures.old ∙ new) c.in_ok-first.ensures.updates c.loop-place.invariant

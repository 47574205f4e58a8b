use Rattle.std.proofs.Common.{◌∙◌, ℕ, List, ap, subst, sym}
use Rattle.std.specs.Prelude.{OnOk}
use Rattle.upon_engine.specs.Texts.{texts_of}
use Rattle.upon_shape_check.specs.Pictures.{ShowsPlaces, places_of, shown_view, text_or_empty}
use Rattle.upon_shape_check.specs.declared.refusal.Refusal.{Refusal}
use Rattle.upon_shape_check.proofs.Showing.{only_shown}
use Rattle.upon_shape_check.proofs.pictures.show_places.Goals as goal

pub returns-in-TooDeep-clause-pictures : goal.returns-in-TooDeep-clause-pictures
returns-in-TooDeep-clause-pictures g c =
    let e = (texts_of (λ f. (g.dyn-1.0.entry f.vtable).1.formats f.value) (λ f. (g.dyn-2.0.entry f.vtable).1.answers f.value) c.args.known.now.engine.now) in
    let old = shown_view c.args.pictures.now in
    let new = shown_view c.show.new.pictures in
    subst (λ (r : Refusal). OnOk c.show.result (ShowsPlaces e (places_of r) old new)) (sym c.in-TooDeep.is)
    (only_shown c.show.result e c.in-TooDeep.name.now _ c.in-TooDeep.span _ old new c.place_in-place.ensures.template c.place_in-place.ensures.span
    (c.show.ensures e (c.place_in-place.ensures.source ∙ ap (λ (n : List ℕ). text_or_empty (e.texts n)) (sym c.place_in-place.ensures.template))))

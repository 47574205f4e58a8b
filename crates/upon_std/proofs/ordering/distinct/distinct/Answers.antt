use Rattle.std.proofs.Common.{◌≡◌, ◌++◌, [], ◌∷◌, length, Vec, Global, map, take, refl, ap, sym, ◌∙◌, arith}
use Rattle.std.specs.Prelude.{unwrap_or}
use Rattle.std.proofs.lemmas.List.{map-append, length-map}
use Rattle.upon_types.specs.Same.{val_eq}
use Rattle.upon_types.specs.View.{view}
use Rattle.upon_types.specs.declared.value.Value.{Value}
use Rattle.upon_std.specs.Ordering.Distinct.{distinct}
use Rattle.upon_std.specs.Ordering.Places.{place_met}
use Rattle.upon_std.proofs.OrderingLemmas.Meeting.{has, next_place, place_in, met, place_is, places_after, distinct_met, met_first, met_again, one_more}
use Rattle.upon_std.proofs.ordering.distinct.distinct.Goals as goal
use Rattle.upon_std.proofs.ordering.distinct.distinct.Goals.{then-branch-next+in_ok-try_clone+in_ok-push, else-branch-next}

pub loop-item-preserved : goal.loop-item-preserved
loop-item-preserved c =
    let items = c.args.items.now in
    let i = c.loop-item.item-index in
    let x = view c.item-item.result in
    let kept = c.loop-item.kept.items in
    let ks = map view kept in
    let next : c.len-next.result ≡ length ks = omega (arith, c.len-next.ensures, c.loop-item.kept.ok.0, length-map kept view) in
    let found : c.in_ok-place.field-0 ≡ unwrap_or (place_met c.loop-item.places x) (length ks) =
    c.in_ok-place.ensures.found ∙ ap (unwrap_or (place_met c.loop-item.places x)) next in
    let place : c.in_ok-place.field-0 ≡ next_place ks x = found ∙ ap (λ o. unwrap_or o (length ks)) (c.loop-item.invariant.places x) ∙ place_is ks x in
    let made : map view c.if-branch-next.kept.items ≡ met ks x =
    elim c.if-branch-next.branch [
      | then-branch-next+in_ok-try_clone+in_ok-push w ↦
          (ap (λ (k : Vec Value Global). map view k.items) w.kept-is ∙ ap (map view) w.in_ok-push.ensures.items ∙ map-append view kept _
          ∙ ap (λ v. ks ++ v ∷ []) w.in_ok-try_clone.ensures ∙ met_first ks x (has ks x) refl (sym place ∙ w.if-branch-next.true ∙ next))
      | else-branch-next w ↦
          (ap (λ (k : Vec Value Global). map view k.items) w.kept-is
          ∙ met_again ks x (has ks x) refl (λ e. w.if-branch-next.false (place ∙ e ∙ sym next)))
    ] in
    let after = places_after (place_met c.loop-item.places) (place_met c.place.new.self) ks x c.in_ok-place.field-0 c.loop-item.invariant.places found
    c.in_ok-place.ensures.updates in
    record {
      kept = made ∙ ap (λ js. met js x) c.loop-item.invariant.kept ∙ sym (distinct_met (map view (take i items)) x)
          ∙ sym (ap (distinct val_eq) (one_more items i c.item-item.result (omega arith) c.item-item.is));
      places = λ v. after v ∙ ap (λ js. place_in js v) (sym made);
    }

use Rattle.std.proofs.Common.{◌≡◌, [], ◌∷◌, Some, Bor, cond, List, length, map, take, ap, sym, ◌∙◌, arith}
use Rattle.std.specs.Prelude.{unwrap_or}
use Rattle.std.proofs.lemmas.List.{length-map, map-append}
use Rattle.upon_types.specs.Same.{val_eq}
use Rattle.upon_types.specs.Val.{Val, none_val}
use Rattle.upon_types.specs.View.{view}
use Rattle.upon_types.specs.declared.value.Value.{Value}
use Rattle.upon_types.proofs.Views.{view-None}
use Rattle.upon_std.specs.Basic.Items.{value_at_key}
use Rattle.upon_std.specs.Ordering.Distinct.{distinct}
use Rattle.upon_std.specs.Ordering.Grouping.{members}
use Rattle.upon_std.specs.Ordering.Groups.{added_at, group_parts, parted}
use Rattle.upon_std.specs.Ordering.Keys.{lent_val}
use Rattle.upon_std.specs.Ordering.Places.{place_met}
use Rattle.upon_std.proofs.OrderingLemmas.Absent.{value_or_none}
use Rattle.upon_std.proofs.OrderingLemmas.Meeting.{next_place, place_in, place_is, places_after, distinct_met, one_more}
use Rattle.upon_std.proofs.OrderingLemmas.Parting.{parted_more}
use Rattle.upon_std.proofs.ordering.grouping.groups.Goals as goal

pub loop-item-preserved : goal.loop-item-preserved
loop-item-preserved c =
    let items = c.args.items.now in
    let i = c.loop-item.item-index in
    let x = view c.item-item.result in
    let key = value_at_key c.args.name.now in
    let k = key x in
    let vs = map view (take i items) in
    let ks = distinct val_eq (map key vs) in
    let groups = c.loop-item.groups in
    let old = place_met c.loop-item.places in
    let place = c.in_ok-place.place in
    let so_far = one_more items i c.item-item.result (omega arith) c.item-item.is in
    let of_key : lent_val c.entry-key.result ≡ k = ap (λ o. unwrap_or o none_val) c.entry-key.ensures in
    let of_value : view c.unwrap_or.result.now ≡ k =
    ap (λ (r : Bor Value). view r.now) c.unwrap_or.ensures ∙ value_or_none c.entry-key.result _ view-None ∙ of_key in
    let with_members : Val → Val × List Val = λ j. (j, members key j vs) in
    let count : c.len.result ≡ length ks =
    omega (arith, c.len.ensures, groups.ok.0, length-map groups.items group_parts, ap length c.loop-item.invariant.parts, length-map ks with_members) in
    let found : place ≡ unwrap_or (old k) (length ks) =
    c.in_ok-place.ensures.found ∙ ap (λ v. unwrap_or (old v) c.len.result) of_value ∙ ap (unwrap_or (old k)) count in
    let is : place ≡ next_place ks k = found ∙ ap (λ o. unwrap_or o (length ks)) (c.loop-item.invariant.places k) ∙ place_is ks k in
    record {
      parts = c.in_ok-add.ensures ∙ ap (λ n. added_at n (lent_val c.entry-key.result) x (map group_parts groups.items)) is
          ∙ ap (λ j. added_at (next_place ks k) j x (map group_parts groups.items)) of_key
          ∙ ap (added_at (next_place ks k) k x) c.loop-item.invariant.parts ∙ parted_more key vs x ∙ ap (parted key) (sym so_far);
      places = λ v.
          places_after old (place_met c.place.new.self) ks k place c.loop-item.invariant.places found
          (λ w. c.in_ok-place.ensures.updates w ∙ ap (λ j. cond (val_eq j w) (Some place) (old w)) of_value) v
          ∙ ap (λ js. place_in js v) (sym (distinct_met (map key vs) k)
          ∙ ap (distinct val_eq) (sym (map-append key vs (x ∷ [])) ∙ ap (map key) (sym so_far)));
    }

use Rattle.std.proofs.Common.{◌≡◌, ◌<◌, ◌≤◌, ◌++◌, [], ◌∷◌, IsSome, Bor, length, map, vec_len, refl, ap, sym, subst, ◌∙◌, arith}
use Rattle.std.proofs.lemmas.Bool.{false≢true}
use Rattle.std.proofs.lemmas.List.{length-map, map-append}
use Rattle.upon_types.specs.View.{view}
use Rattle.upon_types.specs.declared.value.Value.{Value}
use Rattle.upon_std.specs.Ordering.Groups.{group_parts, lent_vals}
use Rattle.upon_std.specs.Ordering.Keys.{lent_val}
use Rattle.upon_std.proofs.OrderingLemmas.Absent.{not_some}
use Rattle.upon_std.proofs.OrderingLemmas.Parting.{added_last, added_inside}
use Rattle.upon_std.proofs.ordering.grouping.add.Goals as goal

pub returns-in-Some : goal.returns-in-Some
returns-in-Some c =
    let group = c.in-Some.group.now in
    let low : c.args.place < vec_len c.args.groups.now = c.in-Some.ensures.variant.0 refl in
    let pushed = ap lent_vals c.in_ok-push.ensures.items ∙ map-append (λ (item : Bor Value). view item.now) group.members.items (c.args.item ∷ []) in
    added_inside c.args.place (lent_val c.args.key) (view c.args.item.now) c.args.groups.now.items group
    (record { key = group.key; members = c.push.new.self }) (omega (arith, low, c.args.groups.now.ok.0)) c.in-Some.ensures.value
    (ap (λ vs. (lent_val group.key, vs)) pushed)

pub returns : goal.returns
returns c =
    let groups = c.args.groups.now in
    let v = view c.args.item.now in
    let none = not_some c.get_mut.result c.in_default.not-Some in
    let high : c.args.place < vec_len groups → ⊥ = λ h. false≢true (subst IsSome none (c.get_mut.ensures.variant.1 h)) in
    let past : length (map group_parts groups.items) ≤ c.args.place = omega (arith, high, groups.ok.0, length-map groups.items group_parts) in
    let members : lent_vals c.push-2.new.self.items ≡ v ∷ [] =
    ap lent_vals (c.in_ok-push-2.ensures.items ∙ ap (λ items. items ++ c.args.item ∷ []) c.new-members.ensures.items) in
    ap (map group_parts) c.in_ok-push-3.ensures.items ∙ map-append group_parts groups.items _
    ∙ ap (λ ms. map group_parts groups.items ++ (lent_val c.args.key, ms) ∷ []) members
    ∙ sym (added_last c.args.place (lent_val c.args.key) v (map group_parts groups.items) past)

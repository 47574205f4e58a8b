-- The values of items and members of TOML, as far as they were made.
use Rattle.std.proofs.Common.{◌≡◌, List, [], ◌∷◌, ◌++◌, String, Global, Less, Greater, nat_cmp, string_bytes, string_cmp, refl, ap, subst, ◌∙◌}
use Rattle.std.proofs.lemmas.Cmp.{nat_list_cmp_total}
use Rattle.std.specs.BTreeMap.{insert_entry}
use Rattle.std.specs.Cmp.Lexicographic.{slice_cmp}
use Rattle.std.specs.List.{AllByRecursion}
use Rattle.std.specs.List.Sorted.{IsStrictlySortedBy}
use Rattle.std.specs.Map.{keys_of}
use Rattle.std.specs.Ordering.{ordering_reverse}
use Rattle.toml.specs.View.{view as data_of, items_view, members_view}
use Rattle.toml.specs.declared.value.Value.{Value as Data}
use Rattle.upon_types.specs.View.{view, vals_view, entries_view}
use Rattle.upon_types.specs.declared.value.Value.{Value}
use Rattle.upon_data.specs.Document.{IsValueOf, AreValuesOf, AreEntriesOf}

-- one more item
pub values_more : (ds : List Data) (d : Data) (vs : List Value) (v : Value) → AreValuesOf (items_view ds) (vals_view vs) → IsValueOf (data_of d) (view v)
    → AreValuesOf (items_view (ds ++ d ∷ [])) (vals_view (vs ++ v ∷ []))
values_more [] d [] v are is = (view v, vals_view [], is, refl, refl)
values_more [] d (w ∷ vs) v are is = absurd (cc are)
values_more (e ∷ ds) d [] v are is = absurd (cc are.4)
values_more (e ∷ ds) d (w ∷ vs) v are is =
    let first : are.0 ≡ view w = cc are.4 in
    let others : are.1 ≡ vals_view vs = cc are.4 in
    (view w, vals_view (vs ++ v ∷ []), subst (IsValueOf (data_of e)) first are.2, values_more ds d vs v (subst (AreValuesOf (items_view ds)) others are.3) is, refl)

abbrev DataEntry : Type 0
DataEntry = String Global × Data

abbrev ValueEntry : Type 0
ValueEntry = String Global × Value

below_middle : (first : DataEntry) (done : List DataEntry) (e : DataEntry) (more : List DataEntry) → AllByRecursion (λ y. string_cmp first.0 y ≡ Less) (keys_of (done ++ e ∷ more))
    → string_cmp first.0 e.0 ≡ Less
below_middle first [] e more below = below.0
below_middle first (x ∷ done) e more below = below_middle first done e more below.1

-- one more member, whose key is above those before it
pub entries_more : (done : List DataEntry) (e : DataEntry) (more : List DataEntry) (es : List ValueEntry) (k : String Global) (v : Value)
    → IsStrictlySortedBy string_cmp (keys_of (done ++ e ∷ more)) → AreEntriesOf (members_view done) (entries_view es) → string_bytes k ≡ string_bytes e.0 → IsValueOf (data_of e.1) (view v)
    → AreEntriesOf (members_view (done ++ e ∷ [])) (entries_view (insert_entry string_cmp es k v))
unfolding IsStrictlySortedBy
entries_more [] e more [] k v rise are key is = (view v, entries_view [], is, refl, rw key refl)
entries_more [] e more (x ∷ es) k v rise are key is = absurd (cc are)
entries_more (d ∷ done) e more [] k v rise are key is = absurd (cc are.4)
entries_more (d ∷ done) e more (x ∷ es) k v rise are key is =
    let named : string_bytes d.0 ≡ string_bytes x.0 = cc are.4 in
    let first : are.0 ≡ view x.1 = cc are.4 in
    let others : are.1 ≡ entries_view es = cc are.4 in
    let less : slice_cmp nat_cmp (string_bytes d.0) (string_bytes e.0) ≡ Less = below_middle d done e more rise.0 in
    let above : slice_cmp nat_cmp (string_bytes k) (string_bytes x.0) ≡ Greater =
    rw (key, ← named) (nat_list_cmp_total.antisymm (string_bytes e.0) (string_bytes d.0) ∙ ap ordering_reverse less) in
    let rest = entries_more done e more es k v rise.1 (subst (AreEntriesOf (members_view done)) others are.3) key is in
    rw (above) (view x.1, entries_view (insert_entry string_cmp es k v), subst (IsValueOf (data_of d.1)) first are.2, rest, rw named refl)

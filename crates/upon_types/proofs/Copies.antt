-- Entries in front of others, and what an insertion between the two makes.
use Rattle.std.proofs.Common.{◌≡◌, ℕ, List, [], ◌∷◌, String, Global, Ordering, Less, Equal, Greater, true, string_bytes, string_cmp, nat_cmp, refl, ap, ◌∙◌}
use Rattle.std.proofs.lemmas.Bool.{and_parts}
use Rattle.std.proofs.lemmas.Cmp.{nat_list_cmp_total}
use Rattle.std.specs.BTreeMap.{insert_entry}
use Rattle.std.specs.Cmp.Lexicographic.{slice_cmp}
use Rattle.std.specs.FinMap.Entries.{below_all}
use Rattle.std.specs.Ordering.{is_lt, ordering_reverse}
use Rattle.upon_types.specs.Val.{Val, Entries, no_entries, entry_then, entry_list, rises}
use Rattle.upon_types.specs.View.{view, entries_view}
use Rattle.upon_types.specs.declared.value.Value.{Value}
use Rattle.upon_types.proofs.Views.{Entry}

abbrev pub joined : Entries → Entries → Entries
joined no_entries fs = fs
joined (entry_then k v es) fs = entry_then k v (joined es fs)

pub joined-none : (es : Entries) → joined es no_entries ≡ es
joined-none no_entries = refl
joined-none (entry_then k v es) = ap (entry_then k v) (joined-none es)

pub is_less : (o : Ordering) → is_lt o ≡ true → o ≡ Less
is_less Less h = refl
is_less Equal h = absurd cc
is_less Greater h = absurd cc

-- a key that is before all of some entries is before the one in their midst
pub before_middle : (k l : List ℕ) (v : Val) (es fs : Entries) → below_all (slice_cmp nat_cmp) k (entry_list (joined es (entry_then l v fs))) ≡ true → slice_cmp nat_cmp k l ≡ Less
before_middle k l v no_entries fs h = is_less _ (and_parts _ _ h).0
before_middle k l v (entry_then m w es) fs h = before_middle k l v es fs (and_parts _ _ h).1

-- where a new entry is put that is before all that is to follow
pub insert_entry-joined : (es : List Entry) (k : String Global) (v : Value) (fs : Entries) → rises (joined (entries_view es) (entry_then (string_bytes k) (view v) fs)) ≡ true
    → joined (entries_view (insert_entry string_cmp es k v)) fs ≡ joined (entries_view es) (entry_then (string_bytes k) (view v) fs)
insert_entry-joined [] k v fs rise = refl
insert_entry-joined (e ∷ es) k v fs rise =
    let parts = and_parts _ _ rise in
    let less : slice_cmp nat_cmp (string_bytes e.0) (string_bytes k) ≡ Less = before_middle (string_bytes e.0) (string_bytes k) (view v) (entries_view es) fs parts.0 in
    let above : slice_cmp nat_cmp (string_bytes k) (string_bytes e.0) ≡ Greater =
    nat_list_cmp_total.antisymm (string_bytes k) (string_bytes e.0) ∙ ap ordering_reverse less in
    rw above (ap (entry_then (string_bytes e.0) (view e.1)) (insert_entry-joined es k v fs parts.1))

-- Entries whose keys rise are known by what is at each key, and those of a library map are such entries.
use Rattle.std.proofs.Common.{◌≡◌, ℕ, List, [], ◌∷◌, true, Less, String, Global, T, nat_cmp, string_bytes, string_cmp, refl, sym, ap, subst, ◌∙◌}
use Rattle.std.proofs.lemmas.Cmp.{nat_list_cmp_total}
use Rattle.std.proofs.lemmas.Map.Text.{is_eq-slice_cmp}
use Rattle.std.specs.Cmp.Lexicographic.{slice_cmp}
use Rattle.std.specs.FinMap as fin
use Rattle.std.specs.FinMap.Entries.{below_all}
use Rattle.std.specs.List.{AllByRecursion}
use Rattle.std.specs.List.Sorted.{IsStrictlySortedBy}
use Rattle.std.specs.Map.{keys_of}
use Rattle.std.specs.Ordering.{is_lt}
use Rattle.upon_types.specs.Val.{Val, Entries, no_entries, entry_then, entry_at, entry_list, rises}
use Rattle.upon_types.specs.View.{entries_view}
use Rattle.upon_types.proofs.Views.{Entry}

-- ---- the keys of a library map rise
before_all : (k : String Global) (es : List Entry) → AllByRecursion (λ l. string_cmp k l ≡ Less) (keys_of es) → below_all (slice_cmp nat_cmp) (string_bytes k) (entry_list (entries_view es)) ≡ true
before_all k [] above = refl
before_all k (e ∷ es) above = rw (ap is_lt above.0) (before_all k es above.1)

pub rises-entries : (es : List Entry) → IsStrictlySortedBy string_cmp (keys_of es) → rises (entries_view es) ≡ true
unfolding IsStrictlySortedBy
rises-entries [] sorted = refl
rises-entries (e ∷ es) sorted = rw (before_all e.0 es sorted.0) (rises-entries es sorted.1)

-- ---- entries as the list of them, where the library's finite maps begin
from_list : List (List ℕ × Val) → Entries
from_list [] = no_entries
from_list (e ∷ es) = entry_then e.0 e.1 (from_list es)

from_list-entry_list : (es : Entries) → from_list (entry_list es) ≡ es
unfolding from_list
from_list-entry_list no_entries = refl
from_list-entry_list (entry_then k v es) = ap (entry_then k v) (from_list-entry_list es)

pub entry_at-find : (key : List ℕ) (es : Entries) → entry_at key es ≡ fin.find (slice_cmp nat_cmp) key (entry_list es)
entry_at-find key no_entries = refl
entry_at-find key (entry_then k v es) = rw (is_eq-slice_cmp, entry_at-find key es)

-- ---- so what is at each key says all
pub one_map : (es fs : Entries) → rises es ≡ true → rises fs ≡ true → ((key : List ℕ) → entry_at key es ≡ entry_at key fs) → es ≡ fs
one_map es fs es_rise fs_rise agree =
    let R = slice_cmp nat_cmp in
    let p : T (fin.is_sorted R (entry_list es)) = subst T (sym es_rise) tt in
    let q : T (fin.is_sorted R (entry_list fs)) = subst T (sym fs_rise) tt in
    let maps : fin.from_sorted {R = R} (entry_list es) ≡ fin.from_sorted {R = R} (entry_list fs) =
    fin.same_map nat_list_cmp_total (fin.slice_cmp-IsAntisymmetric fin.nat_cmp-IsAntisymmetric) _ _
    (λ key. fin.get-from_sorted R (entry_list es) key p ∙ sym (entry_at-find key es) ∙ agree key ∙ entry_at-find key fs ∙ sym (fin.get-from_sorted R (entry_list fs) key q)) in
    let lists : entry_list es ≡ entry_list fs =
    sym (fin.entries-from_sorted R (entry_list es) p) ∙ ap fin.entries maps ∙ fin.entries-from_sorted R (entry_list fs) q in
    sym (from_list-entry_list es) ∙ ap from_list lists ∙ from_list-entry_list fs

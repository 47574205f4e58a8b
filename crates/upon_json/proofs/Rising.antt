-- Entries with a value put at a key: what an insertion into a library map makes, and that the keys rise.
use Rattle.std.proofs.Common.{◌≡◌, ℕ, List, [], ◌∷◌, Bool, true, false, Option, None, Some, option_map, String, Global, Less, Equal, Greater, T, nat_cmp, string_bytes, string_cmp, refl, sym, ap, subst}
use Rattle.std.proofs.lemmas.Cmp.{nat_list_cmp_total}
use Rattle.std.specs.BTreeMap.{insert_entry}
use Rattle.std.specs.Cmp.Lexicographic.{slice_cmp}
use Rattle.std.specs.FinMap.Entries.{by_order, is_sorted, is_sorted-put}
use Rattle.std.specs.FinMap.Entries.{put as put_pair}
use Rattle.std.specs.Ordering.{match_ordering}
use Rattle.std.specs.Prelude.{if◌then◌else◌}
use Rattle.std.specs.Str.Parse.{signed_digits_value}
use Rattle.json.specs.Json.{Json, null, boolean, number, string, array, object, Members, no_members, member}
use Rattle.upon_types.specs.Val.{Val, none_val, bool_val, int_val, text_val, list_val, map_val, Entries, no_entries, entry_then, entry_list, rises}
use Rattle.upon_types.specs.View.{view, entries_view}
use Rattle.upon_types.specs.declared.value.Value.{Value}
use Rattle.upon_types.proofs.Views.{Entry}
use Rattle.upon_json.specs.Value.{is_integer, put, value_of_json, members_over}

-- ---- an insertion
pub entries_view-insert : (es : List Entry) (k : String Global) (v : Value) → entries_view (insert_entry string_cmp es k v) ≡ put (string_bytes k) (view v) (entries_view es)
entries_view-insert [] k v = refl
entries_view-insert (e ∷ es) k v =
    elim (string_cmp k e.0) as (λ o. entries_view (match_ordering o ((k, v) ∷ e ∷ es) ((e.0, v) ∷ es) (e ∷ insert_entry string_cmp es k v))
    ≡ match_ordering o (entry_then (string_bytes k) (view v) (entries_view (e ∷ es))) (entry_then (string_bytes e.0) (view v) (entries_view es)) (entry_then (string_bytes e.0) (view e.1) (put (string_bytes k) (view v) (entries_view es)))) [
      | Less ↦ refl
      | Equal ↦ refl
      | Greater ↦ ap (entry_then (string_bytes e.0) (view e.1)) (entries_view-insert es k v)
    ]

-- ---- the keys rise
entry_list-put : (k : List ℕ) (v : Val) (es : Entries) → entry_list (put k v es) ≡ put_pair (slice_cmp nat_cmp) k v (entry_list es)
entry_list-put k v no_entries = refl
entry_list-put k v (entry_then l w es) =
    elim (slice_cmp nat_cmp k l) as (λ o. entry_list (match_ordering o (entry_then k v (entry_then l w es)) (entry_then l v es) (entry_then l w (put k v es)))
    ≡ by_order o ((k, v) ∷ (l, w) ∷ entry_list es) ((l, v) ∷ entry_list es) ((l, w) ∷ put_pair (slice_cmp nat_cmp) k v (entry_list es))) [
      | Less ↦ refl
      | Equal ↦ refl
      | Greater ↦ ap (λ rest. (l, w) ∷ rest) (entry_list-put k v es)
    ]

is_true : (b : Bool) → T b → b ≡ true
is_true true h = refl
is_true false h = absurd h

rises-put : (k : List ℕ) (v : Val) (es : Entries) → T (rises es) → T (rises (put k v es))
rises-put k v es rise =
    let R = slice_cmp nat_cmp in
    subst (λ list. T (is_sorted R list)) (sym (entry_list-put k v es)) (is_sorted-put R nat_list_cmp_total k v (entry_list es) rise)

rises-over : (ms : Members) (es : Entries) → T (rises es) → T (rises (members_over ms es))
rises-over no_members es rise = rise
rises-over (member k j ms) es rise = rises-over ms (put k (value_of_json j) es) (rises-put k (value_of_json j) es rise)

abbrev entries_or_none : Val → Entries
entries_or_none none_val = no_entries
entries_or_none (bool_val b) = no_entries
entries_or_none (int_val n) = no_entries
entries_or_none (text_val text) = no_entries
entries_or_none (list_val vs) = no_entries
entries_or_none (map_val es) = es

abbrev entries_of_some : Option Val → Entries
entries_of_some None = no_entries
entries_of_some (Some v) = entries_or_none v

of_number : (text : List ℕ) → T (rises (entries_or_none (value_of_json (number text))))
of_number text = elim (is_integer text) as (λ b. T (rises (entries_or_none (if b then int_val (signed_digits_value 10 text) else text_val text)))) [ true ↦ tt | false ↦ tt ]

rises-value : (j : Json) → T (rises (entries_or_none (value_of_json j)))
rises-value null = tt
rises-value (boolean b) = tt
rises-value (number text) = of_number text
rises-value (string text) = tt
rises-value (array js) = tt
rises-value (object ms) = rises-over ms no_entries tt

rises-some : (o : Option Json) → T (rises (entries_of_some (option_map value_of_json o)))
rises-some None = tt
rises-some (Some j) = rises-value j

-- of the map that JSON is
pub rises-map : (o : Option Json) (es : Entries) → option_map value_of_json o ≡ Some (map_val es) → rises es ≡ true
rises-map o es is = is_true _ (subst (λ v. T (rises (entries_of_some v))) is (rises-some o))

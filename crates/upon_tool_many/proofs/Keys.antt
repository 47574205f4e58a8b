-- What is at each key where entries are put beside others.
use Rattle.std.proofs.Common.{◌≡◌, ℕ, List, Bool, true, false, cond, Option, Some, None, is_some, option_map, String, Global, BTreeMap, string_bytes, string_cmp, nat_cmp, refl, sym, ap, subst, ◌∙◌}
use Rattle.std.proofs.lemmas.Map.Text.{btree_map_updates_text}
use Rattle.std.proofs.lemmas.Slice.Eq.{bytes_eq-Decides}
use Rattle.std.specs.BTreeMap.{Updates, UpdatesBy, get_by_text}
use Rattle.std.specs.Cmp.Lexicographic.{nat_list_eq_equiv, slice_cmp}
use Rattle.std.specs.List.Sorted.{IsStrictlySortedBy}
use Rattle.std.specs.Map.{keys_of}
use Rattle.std.specs.Prelude.{bytes_eq, if◌then◌else◌}
use Rattle.upon_types.specs.Conversions.{or_else}
use Rattle.upon_types.specs.Val.{Val, Vals, none_val, bool_val, int_val, text_val, list_val, map_val, entry_at, key_of}
use Rattle.upon_types.specs.View.{view, entries_view}
use Rattle.upon_types.specs.declared.value.Value.{Value, Map as MapValue}
use Rattle.upon_types.proofs.Bindings.{rises-entries}
use Rattle.upon_types.proofs.ConversionLemmas.{entry_at-insert}
use Rattle.upon_types.proofs.Views.{view-lookup, view-Map}
use Rattle.upon_tool_many.specs.Values.{list_in, IsMapOfKeys, IsSplit}

-- ---- one more entry over others
first_or : (here : Bool) (v : Val) (o : Option Val) → or_else (if here then Some v else None) o ≡ (if here then Some v else o)
first_or true v o = refl
first_or false v o = refl

-- a map with one more entry, whose value denotes x
pub put_over : (m n : BTreeMap (String Global) Value) (k : String Global) (v : Value) (own : List ℕ) (x : Val) (at : List ℕ → Option Val) → IsStrictlySortedBy string_cmp (keys_of n.entries) → Updates string_cmp m n k (Some v) → string_bytes k ≡ own → view v ≡ x
    → ((key : List ℕ) → entry_at key (entries_view m.entries) ≡ at key) → IsMapOfKeys (λ key. if bytes_eq key own then Some x else at key) (view (MapValue n))
put_over m n k v own x at ordered updates named is before =
    subst (IsMapOfKeys (λ key. if bytes_eq key own then Some x else at key)) (sym (view-Map n)) (
      rises-entries n.entries ordered,
      λ key. entry_at-insert m n k v updates key
          ∙ first_or (bytes_eq key (string_bytes k)) (view v) (entry_at key (entries_view m.entries))
          ∙ (λ i. if bytes_eq key (named i) then Some (is i) else before key i),
    )

pub or_none : (o : Option Val) → o ≡ or_else o None
or_none None = refl
or_none (Some v) = refl

-- ---- the others, where nothing is yet
put_absent : (here : Bool) (v : Val) (own rest : Option Val) → (here ≡ true → own ≡ None) → or_else (or_else (if here then Some v else None) own) rest ≡ or_else own (if here then Some v else rest)
put_absent true v None rest absent = refl
put_absent true v (Some w) rest absent = absurd (cc (absent refl))
put_absent false v None rest absent = refl
put_absent false v (Some w) rest absent = refl

left_present : (here : Bool) (v : Val) (own rest : Option Val) → (here ≡ true → is_some own ≡ true) → or_else own rest ≡ or_else own (if here then Some v else rest)
left_present true v None rest present = absurd (cc (present refl))
left_present true v (Some w) rest present = refl
left_present false v own rest present = refl

is_some-view : (o : Option Value) → is_some (option_map view o) ≡ is_some o
is_some-view None = refl
is_some-view (Some v) = refl

none_from_is_some : (o : Option Val) → is_some o ≡ false → o ≡ None
none_from_is_some None is = refl
none_from_is_some (Some v) is = absurd cc

-- whether there is an entry at a key that is equal to one of a map, or not
there_at : (m : BTreeMap (String Global) Value) (k key : List ℕ) (there : Bool) → there ≡ is_some (get_by_text m k) → bytes_eq key k ≡ true → is_some (entry_at key (entries_view m.entries)) ≡ there
there_at m k key there is same =
    let equal : key ≡ k = (bytes_eq-Decides key k).0 same in
    ap (λ key. is_some (entry_at key (entries_view m.entries))) equal
    ∙ ap is_some (sym (view-lookup k m.entries)) ∙ is_some-view (get_by_text m k) ∙ sym is

-- an entry of the others is put, as there is none at its key
pub other_put : (m n : BTreeMap (String Global) Value) (k : String Global) (v : Value) (name : List ℕ) (x : Val) (rest : Option Val) (key : List ℕ) → Updates string_cmp m n k (Some v) → string_bytes k ≡ name → view v ≡ x → false ≡ is_some (get_by_text m name)
    → or_else (entry_at key (entries_view n.entries)) rest ≡ or_else (entry_at key (entries_view m.entries)) (if bytes_eq key name then Some x else rest)
other_put m n k v name x rest key updates named is absent =
    ap (λ o. or_else o rest) (entry_at-insert m n k v updates key)
    ∙ (λ i. or_else (or_else (if bytes_eq key (named i) then Some (is i) else None) (entry_at key (entries_view m.entries))) rest)
    ∙ put_absent (bytes_eq key name) x (entry_at key (entries_view m.entries)) rest (λ same. none_from_is_some _ (there_at m name key false absent same))

-- it is left out, as there is one
pub other_left : (m : BTreeMap (String Global) Value) (name : List ℕ) (x : Val) (rest : Option Val) (key : List ℕ) → true ≡ is_some (get_by_text m name)
    → or_else (entry_at key (entries_view m.entries)) rest ≡ or_else (entry_at key (entries_view m.entries)) (if bytes_eq key name then Some x else rest)
other_left m name x rest key present =
    left_present (bytes_eq key name) x (entry_at key (entries_view m.entries)) rest (there_at m name key true present)

-- ---- a list that is taken out
none_or_kept : (here : Bool) (old : Option Value) → option_map view (cond here None old) ≡ (if here then None else option_map view old)
none_or_kept true old = refl
none_or_kept false old = refl

found_list : (found : Option Val) (v : Val) (items : Vals) → found ≡ Some v → Some items ≡ list_in v → found ≡ Some (list_val items)
found_list found none_val items is listed = absurd cc
found_list found (bool_val b) items is listed = absurd cc
found_list found (int_val n) items is listed = absurd cc
found_list found (text_val text) items is listed = absurd cc
found_list found (list_val vs) items is listed = let same : items ≡ vs = cc in is ∙ ap (λ vs. Some (list_val vs)) (sym same)
found_list found (map_val es) items is listed = absurd cc

-- what the map of a context has at a key
key_in_map : (context : Value) (others : BTreeMap (String Global) Value) (key : List ℕ) → context ≡ MapValue others → key_of key (view context) ≡ option_map view (get_by_text others key)
key_in_map context others key is = ap (key_of key) (ap view is ∙ view-Map others) ∙ sym (view-lookup key others.entries)

pub split_at : (context : Value) (others new : BTreeMap (String Global) Value) (key : List ℕ) (v : Value) (items : Vals) → context ≡ MapValue others → Some v ≡ get_by_text others key → Some items ≡ list_in (view v)
    → UpdatesBy string_cmp (λ k. slice_cmp nat_cmp key (string_bytes k)) others new None → IsSplit key (view context) (entries_view new.entries) items
split_at context others new key v items is found listed updates = (
  found_list _ (view v) items (key_in_map context others key is ∙ ap (option_map view) (sym found)) listed,
  λ other. sym (view-lookup other new.entries)
      ∙ ap (option_map view) (btree_map_updates_text key others new None updates other)
      ∙ none_or_kept (bytes_eq key other) (get_by_text others other)
      ∙ ap (λ b. if b then None else option_map view (get_by_text others other)) (nat_list_eq_equiv.symm key other)
      ∙ ap (λ o. if bytes_eq other key then None else o) (sym (key_in_map context others other is)),
)

-- nothing is at the key
pub none_there : (context : Value) (others : BTreeMap (String Global) Value) (key : List ℕ) (items : Vals) → context ≡ MapValue others → None ≡ get_by_text others key → key_of key (view context) ≡ Some (list_val items) → ⊥
none_there context others key items is absent listed =
    let nothing : None ≡ Some (list_val items) = ap (option_map view) absent ∙ sym (key_in_map context others key is) ∙ listed in
    absurd (cc nothing)

-- what is at the key is no list
pub no_list_there : (context : Value) (others : BTreeMap (String Global) Value) (key : List ℕ) (v : Value) (items : Vals) → context ≡ MapValue others → Some v ≡ get_by_text others key → None ≡ list_in (view v) → key_of key (view context) ≡ Some (list_val items) → ⊥
no_list_there context others key v items is found no_list listed =
    let both : Some (view v) ≡ Some (list_val items) = ap (option_map view) found ∙ sym (key_in_map context others key is) ∙ listed in
    let same : view v ≡ list_val items = cc in
    absurd (cc (no_list ∙ ap list_in same))

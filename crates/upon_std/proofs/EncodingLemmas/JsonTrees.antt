-- A value is the value of the tree of JSON that it is.
use Rattle.std.proofs.Common.{◌≡◌, ℕ, suc, List, true, Less, Greater, nat_cmp, refl, sym, ap, ap₂, ◌∙◌}
use Rattle.std.specs.Prelude.{max}
use Rattle.std.proofs.lemmas.Bool.{and_parts}
use Rattle.std.proofs.lemmas.Cmp.{nat_list_cmp_total}
use Rattle.std.specs.Cmp.Lexicographic.{slice_cmp}
use Rattle.std.specs.Fmt.{signed_decimal}
use Rattle.std.specs.Ordering.{ordering_reverse}
use Rattle.json.specs.Json.{Json, null, boolean, number, string, array, object, Items, no_items, item, Members, no_members, member}
use Rattle.json.specs.Tree.{depth, items_depth, members_depth, HasNumbers, ItemsHaveNumbers, MembersHaveNumbers}
use Rattle.upon_json.specs.Value.{put, value_of_json, items_values, members_over}
use Rattle.upon_types.specs.Val.{Val, none_val, bool_val, int_val, text_val, list_val, map_val, Vals, no_vals, val_then, Entries, no_entries, entry_then, rises}
use Rattle.upon_types.proofs.Copies.{before_middle, joined}
use Rattle.upon_std.specs.Encoding.Held.{IsHeld, AreHeld, HasHeld, nesting, items_nesting, entries_nesting}
use Rattle.upon_std.proofs.EncodingLemmas.JsonNumbers.{IsNumber-signed, number_val-signed_decimal}

abbrev mutual
  -- the tree of a value
  pub json_of : Val → Json
  json_of none_val = null
  json_of (bool_val b) = boolean b
  json_of (int_val z) = number (signed_decimal z)
  json_of (text_val text) = string text
  json_of (list_val vs) = array (items_of vs)
  json_of (map_val es) = object (members_of es)

  pub items_of : Vals → Items
  items_of no_vals = no_items
  items_of (val_then v vs) = item (json_of v) (items_of vs)

  pub members_of : Entries → Members
  members_of no_entries = no_members
  members_of (entry_then key v es) = member key (json_of v) (members_of es)

-- ---- numbers, and how deep it nests

mutual
  pub HasNumbers-json_of : (v : Val) → IsHeld v → HasNumbers (json_of v)
  HasNumbers-json_of none_val h = tt
  HasNumbers-json_of (bool_val b) h = tt
  HasNumbers-json_of (int_val z) h = IsNumber-signed z h
  HasNumbers-json_of (text_val text) h = tt
  HasNumbers-json_of (list_val vs) h = HasNumbers-items_of vs h
  HasNumbers-json_of (map_val es) h = HasNumbers-members_of es h.1

  HasNumbers-items_of : (vs : Vals) → AreHeld vs → ItemsHaveNumbers (items_of vs)
  HasNumbers-items_of no_vals h = tt
  HasNumbers-items_of (val_then v vs) h = (HasNumbers-json_of v h.0, HasNumbers-items_of vs h.1)

  HasNumbers-members_of : (es : Entries) → HasHeld es → MembersHaveNumbers (members_of es)
  HasNumbers-members_of no_entries h = tt
  HasNumbers-members_of (entry_then key v es) h = (HasNumbers-json_of v h.1.0, HasNumbers-members_of es h.1.1)

mutual
  pub depth-json_of : (v : Val) → depth (json_of v) ≡ nesting v
  depth-json_of none_val = refl
  depth-json_of (bool_val b) = refl
  depth-json_of (int_val z) = refl
  depth-json_of (text_val text) = refl
  depth-json_of (list_val vs) = ap (λ n. suc n) (depth-items_of vs)
  depth-json_of (map_val es) = ap (λ n. suc n) (depth-members_of es)

  depth-items_of : (vs : Vals) → items_depth (items_of vs) ≡ items_nesting vs
  depth-items_of no_vals = refl
  depth-items_of (val_then v vs) = ap₂ max (depth-json_of v) (depth-items_of vs)

  depth-members_of : (es : Entries) → members_depth (members_of es) ≡ entries_nesting es
  depth-members_of no_entries = refl
  depth-members_of (entry_then key v es) = ap₂ max (depth-json_of v) (depth-members_of es)

-- ---- entries are put one after the other

put-last : (done : Entries) (key : List ℕ) (v : Val) (es : Entries) → rises (joined done (entry_then key v es)) ≡ true
    → put key v done ≡ joined done (entry_then key v no_entries)
put-last no_entries key v es rise = refl
put-last (entry_then l w done) key v es rise =
    let parts = and_parts _ _ rise in
    let less : slice_cmp nat_cmp l key ≡ Less = before_middle l key v done es parts.0 in
    let above : slice_cmp nat_cmp key l ≡ Greater = nat_list_cmp_total.antisymm key l ∙ ap ordering_reverse less in
    rw above (ap (entry_then l w) (put-last done key v es parts.1))

joined-joined : (done : Entries) (key : List ℕ) (v : Val) (es : Entries) → joined (joined done (entry_then key v no_entries)) es ≡ joined done (entry_then key v es)
joined-joined no_entries key v es = refl
joined-joined (entry_then l w done) key v es = ap (entry_then l w) (joined-joined done key v es)

joined-none : (done : Entries) → joined done no_entries ≡ done
joined-none no_entries = refl
joined-none (entry_then l w done) = ap (entry_then l w) (joined-none done)

mutual
  pub value_of-json_of : (v : Val) → IsHeld v → value_of_json (json_of v) ≡ v
  value_of-json_of none_val h = refl
  value_of-json_of (bool_val b) h = refl
  value_of-json_of (int_val z) h = number_val-signed_decimal z h
  value_of-json_of (text_val text) h = refl
  value_of-json_of (list_val vs) h = ap list_val (values_of-items_of vs h)
  value_of-json_of (map_val es) h = ap map_val (entries_over-members_of es no_entries h.1 h.0)

  values_of-items_of : (vs : Vals) → AreHeld vs → items_values (items_of vs) ≡ vs
  values_of-items_of no_vals h = refl
  values_of-items_of (val_then v vs) h = ap₂ val_then (value_of-json_of v h.0) (values_of-items_of vs h.1)

  entries_over-members_of : (es done : Entries) → HasHeld es → rises (joined done es) ≡ true → members_over (members_of es) done ≡ joined done es
  entries_over-members_of no_entries done h rise = sym (joined-none done)
  entries_over-members_of (entry_then key v es) done h rise =
      let same = joined-joined done key v es in
      ap (λ w. members_over (members_of es) (put key w done)) (value_of-json_of v h.1.0)
      ∙ ap (members_over (members_of es)) (put-last done key v es rise)
      ∙ entries_over-members_of es (joined done (entry_then key v no_entries)) h.1.1 (ap rises same ∙ rise) ∙ same

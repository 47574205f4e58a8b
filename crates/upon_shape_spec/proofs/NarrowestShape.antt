-- The shape of a value is no wider than any that the value fits.
use Rattle.std.proofs.Common.{◌≡◌, ℕ, List, [], Bool, true, false, ◌&&◌, Option, Some, None, refl, sym, subst, bytes_eq, if◌then◌else◌}
use Rattle.upon_types.specs.Val.{Val, none_val, bool_val, int_val, text_val, list_val, map_val, Vals, no_vals, val_then, Entries, no_entries, entry_then, entry_at}
use Rattle.upon_shape_spec.specs.Fits.{EachValue, Held, Fits, ListFits, MapFits}
use Rattle.upon_shape_spec.specs.Join.{shape_of, items_shape, keys_shape}
use Rattle.upon_shape_spec.specs.Shape.{Plain, Shape, any_shape, one_of, Lists, no_list, lists_of, Maps, no_map, maps_of, KeyShape, key_shape, plain, never, at_key}
use Rattle.upon_shape_spec.specs.Wider.{implies, plain_wider, wider, lists_wider, maps_wider}
use Rattle.upon_shape_spec.proofs.KeyByKey.{both, AtWider, others_of, keys_from}
use Rattle.upon_shape_spec.proofs.LeastJoin.{lists_none, maps_none, least}
use Rattle.upon_shape_spec.proofs.Tests.{key_held}

-- what fits no value has is no wider than any
wider_never : (s : Shape) → wider s never ≡ true
wider_never any_shape = refl
wider_never (one_of p l m) = both (lists_wider l no_list) (maps_wider m no_map) (lists_none l) (maps_none m)

-- values alone
plain_only : (p q : Plain) (l : Lists) (m : Maps) → plain_wider p q ≡ true → wider (one_of p l m) (one_of q no_list no_map) ≡ true
plain_only p q l m e = both (plain_wider p q) (lists_wider l no_list && maps_wider m no_map) e (both (lists_wider l no_list) (maps_wider m no_map) (lists_none l) (maps_none m))

-- of each shape that the value fits
abbrev IsNarrowest : Val → Type 0
IsNarrowest v = (s : Shape) → Fits s v → wider s (shape_of v) ≡ true

-- what a key of a map of values is known by
abbrev entry_known : Option Val → KeyShape
entry_known None = key_shape false never
entry_known (Some v) = key_shape true (shape_of v)

if_known : (b : Bool) (v : Val) (x : KeyShape) (o : Option Val) → x ≡ entry_known o → (if b then key_shape true (shape_of v) else x) ≡ entry_known (if b then Some v else o)
if_known true v x o e = refl
if_known false v x o e = e

at_entries : (es : Entries) (key : List ℕ) → at_key key (keys_shape es) ≡ entry_known (entry_at key es)
at_entries no_entries key = refl
at_entries (entry_then k v es) key = if_known (bytes_eq key k) v (at_key key (keys_shape es)) (entry_at key es) (at_entries es key)

others_entries : (es : Entries) → others_of (keys_shape es) ≡ never
others_entries no_entries = refl
others_entries (entry_then k v es) = others_entries es

implies_true : (a : Bool) → implies a true ≡ true
implies_true true = refl
implies_true false = refl

known_wider : (required : Bool) (s : Shape) (o : Option Val) → Held required (Fits s) o → Held false IsNarrowest o → AtWider (key_shape required s) (entry_known o)
known_wider required s (Some v) h k = (implies_true required, k s h)
known_wider true s None h k = absurd h
known_wider false s None h k = (refl, wider_never s)

if_narrowest : (b : Bool) (v : Val) (o : Option Val) → IsNarrowest v → Held false IsNarrowest o → Held false IsNarrowest (if b then Some v else o)
if_narrowest true v o h k = h
if_narrowest false v o h k = k

list_narrowest : (vs : Vals) (l : Lists) → ((s : Shape) → EachValue (Fits s) vs → wider s (items_shape vs) ≡ true) → ListFits l vs → lists_wider l (lists_of (items_shape vs)) ≡ true
list_narrowest vs no_list each h = absurd h
list_narrowest vs (lists_of s) each h = each s h

map_narrowest : (es : Entries) (m : Maps) → ((key : List ℕ) → Held false IsNarrowest (entry_at key es)) → MapFits m es → maps_wider m (maps_of (keys_shape es)) ≡ true
map_narrowest es no_map each h = absurd h
map_narrowest es (maps_of ks) each h =
    keys_from [] ks (keys_shape es)
    (λ key un. subst (λ (x : KeyShape). AtWider (at_key key ks) x) (sym (at_entries es key)) (known_wider (at_key key ks).required (at_key key ks).shape (entry_at key es) (key_held key ks (entry_at key es) (h.1 key)) (each key)))
    (subst (λ (x : Shape). wider (others_of ks) x ≡ true) (sym (others_entries es)) (wider_never (others_of ks)))

mutual
  pub narrowest : (v : Val) → IsNarrowest v
  narrowest v any_shape h = refl
  narrowest none_val (one_of p l m) h = plain_only p (plain true false false false) l m (both p.none true h refl)
  narrowest (bool_val b) (one_of p l m) h = plain_only p (plain false true false false) l m (both p.truth true h refl)
  narrowest (int_val n) (one_of p l m) h = plain_only p (plain false false true false) l m (both p.integer true h refl)
  narrowest (text_val bytes) (one_of p l m) h = plain_only p (plain false false false true) l m h
  narrowest (list_val vs) (one_of p l m) h = both (lists_wider l (lists_of (items_shape vs))) (maps_wider m no_map) (list_narrowest vs l (items_narrowest vs) h) (maps_none m)
  narrowest (map_val es) (one_of p l m) h = both (lists_wider l no_list) (maps_wider m (maps_of (keys_shape es))) (lists_none l) (map_narrowest es m (entries_narrowest es) h)

  items_narrowest : (vs : Vals) (s : Shape) → EachValue (Fits s) vs → wider s (items_shape vs) ≡ true
  items_narrowest no_vals s h = wider_never s
  items_narrowest (val_then v vs) s h = least s (shape_of v) (items_shape vs) (narrowest v s h.0) (items_narrowest vs s h.1)

  entries_narrowest : (es : Entries) (key : List ℕ) → Held false IsNarrowest (entry_at key es)
  entries_narrowest no_entries key = tt
  entries_narrowest (entry_then k v es) key = if_narrowest (bytes_eq key k) v (entry_at key es) (narrowest v) (entries_narrowest es key)

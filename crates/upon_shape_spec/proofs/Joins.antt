-- What fits one of two shapes fits the joined one, and a value fits its own.
use Rattle.std.proofs.Common.{◌≡◌, ℕ, List, [], ◌∷◌, Bool, true, false, Option, Some, refl, sym, subst, inl, inr, bytes_eq, if◌then◌else◌}
use Rattle.upon_types.specs.Val.{Val, none_val, bool_val, int_val, text_val, list_val, map_val, Vals, no_vals, val_then, Entries, no_entries, entry_then, entry_at}
use Rattle.upon_meaning_spec.specs.MapOrder.{IsAmong}
use Rattle.upon_shape_spec.specs.Shape.{Shape, any_shape, one_of, Lists, no_list, lists_of, Maps, no_map, maps_of, Keys, other_keys, key_then, at_key, keys_without}
use Rattle.upon_shape_spec.specs.Fits.{EachValue, ByTest, Held, Fits, ListFits, MapFits, KeyFits, MapsRise, AllRise, EntriesRise}
use Rattle.upon_shape_spec.specs.Join.{joined_others, join_shapes, join_lists, join_maps, join_keys, shape_of, items_shape, keys_shape, samples_shape}
use Rattle.upon_shape_spec.proofs.Tests.{beside, or_first, or_second, by_test, test_map, each_more, held_more, held_either, held_first, held_second, same_key_held}

-- ---- of the first
others_fit : (f : Shape → Shape) (ns : Keys) (key : List ℕ) (o : Option Val) → ((t : Shape) → Held false (Fits (f t)) o) → KeyFits key (joined_others f ns) o
others_fit f (other_keys t) key o h = h t
others_fit f (key_then k required t ns) key o h = by_test (bytes_eq key k) (λ same. h t) (λ other. others_fit f ns key o h)

mutual
  pub first_fits : (s t : Shape) (v : Val) → Fits s v → Fits (join_shapes s t) v
  first_fits any_shape t v h = tt
  first_fits (one_of p l m) any_shape v h = tt
  first_fits (one_of p l m) (one_of q k n) none_val h = or_first p.none q.none h
  first_fits (one_of p l m) (one_of q k n) (bool_val b) h = or_first p.truth q.truth h
  first_fits (one_of p l m) (one_of q k n) (int_val z) h = or_first p.integer q.integer h
  first_fits (one_of p l m) (one_of q k n) (text_val bytes) h = or_first p.text q.text h
  first_fits (one_of p l m) (one_of q k n) (list_val vs) h = first_list l k vs h
  first_fits (one_of p l m) (one_of q k n) (map_val es) h = first_map m n es h

  first_list : (l k : Lists) (vs : Vals) → ListFits l vs → ListFits (join_lists l k) vs
  first_list no_list k vs h = absurd h
  first_list (lists_of s) no_list vs h = h
  first_list (lists_of s) (lists_of t) vs h = each_more (Fits s) (Fits (join_shapes s t)) (first_fits s t) vs h

  first_map : (m n : Maps) (es : Entries) → MapFits m es → MapFits (join_maps m n) es
  first_map no_map n es h = absurd h
  first_map (maps_of ks) no_map es h = h
  first_map (maps_of ks) (maps_of ns) es h = (h.0, λ key. first_keys ks ns key (entry_at key es) (h.1 key))

  first_keys : (ks ns : Keys) (key : List ℕ) (o : Option Val) → KeyFits key ks o → KeyFits key (join_keys ks ns) o
  first_keys (other_keys s) ns key o h = others_fit (join_shapes s) ns key o (λ t. held_more false (Fits s) (Fits (join_shapes s t)) (first_fits s t) o h)
  first_keys (key_then k required s ks) ns key o h =
      test_map (bytes_eq key k) (held_first required (at_key k ns).required (Fits s) (Fits (join_shapes s (at_key k ns).shape)) (first_fits s (at_key k ns).shape) o) (first_keys ks (keys_without k ns) key o) h

-- ---- of the second
keep_others : (f : Shape → Shape) → ((t : Shape) (v : Val) → Fits t v → Fits (f t) v) → (ns : Keys) (key : List ℕ) (o : Option Val) → KeyFits key ns o → KeyFits key (joined_others f ns) o
keep_others f more (other_keys t) key o h = held_more false (Fits t) (Fits (f t)) (more t) o h
keep_others f more (key_then k required t ns) key o h = test_map (bytes_eq key k) (held_either required (Fits t) (Fits (f t)) (more t) o) (keep_others f more ns key o) h

mutual
  pub second_fits : (s t : Shape) (v : Val) → Fits t v → Fits (join_shapes s t) v
  second_fits any_shape t v h = tt
  second_fits (one_of p l m) any_shape v h = tt
  second_fits (one_of p l m) (one_of q k n) none_val h = or_second p.none q.none h
  second_fits (one_of p l m) (one_of q k n) (bool_val b) h = or_second p.truth q.truth h
  second_fits (one_of p l m) (one_of q k n) (int_val z) h = or_second p.integer q.integer h
  second_fits (one_of p l m) (one_of q k n) (text_val bytes) h = or_second p.text q.text h
  second_fits (one_of p l m) (one_of q k n) (list_val vs) h = second_list l k vs h
  second_fits (one_of p l m) (one_of q k n) (map_val es) h = second_map m n es h

  second_list : (l k : Lists) (vs : Vals) → ListFits k vs → ListFits (join_lists l k) vs
  second_list no_list k vs h = h
  second_list (lists_of s) no_list vs h = absurd h
  second_list (lists_of s) (lists_of t) vs h = each_more (Fits t) (Fits (join_shapes s t)) (second_fits s t) vs h

  second_map : (m n : Maps) (es : Entries) → MapFits n es → MapFits (join_maps m n) es
  second_map no_map n es h = h
  second_map (maps_of ks) no_map es h = absurd h
  second_map (maps_of ks) (maps_of ns) es h = (h.0, λ key. second_keys ks ns key (entry_at key es) (h.1 key))

  second_keys : (ks ns : Keys) (key : List ℕ) (o : Option Val) → KeyFits key ns o → KeyFits key (join_keys ks ns) o
  second_keys (other_keys s) ns key o h = keep_others (join_shapes s) (second_fits s) ns key o h
  second_keys (key_then k required s ks) ns key o h =
      let at = at_key k ns in
      by_test (bytes_eq key k) (λ same. held_second required at.required (Fits at.shape) (Fits (join_shapes s at.shape)) (second_fits s at.shape) o (same_key_held key k ns o h same)) (λ other. second_keys ks (keys_without k ns) key o (beside key k ns o other h))

-- ---- of a value
pub entry_here : (b : Bool) (s : Shape) (v : Val) (o : Option Val) (P : Option Val → Type 0) → Fits s v → (b ≡ false → P o) → ByTest b (Held true (Fits s) (if b then Some v else o)) (P (if b then Some v else o))
entry_here true s v o P h k = h
entry_here false s v o P h k = k refl

mutual
  pub own_fits : (v : Val) → MapsRise v → Fits (shape_of v) v
  own_fits none_val h = refl
  own_fits (bool_val b) h = refl
  own_fits (int_val n) h = refl
  own_fits (text_val bytes) h = refl
  own_fits (list_val vs) h = items_fit vs h
  own_fits (map_val es) h = (h.0, entries_fit es h.1)

  items_fit : (vs : Vals) → AllRise vs → EachValue (Fits (items_shape vs)) vs
  items_fit no_vals h = tt
  items_fit (val_then v vs) h =
      let joined = join_shapes (shape_of v) (items_shape vs) in
      (first_fits (shape_of v) (items_shape vs) v (own_fits v h.0), each_more (Fits (items_shape vs)) (Fits joined) (second_fits (shape_of v) (items_shape vs)) vs (items_fit vs h.1))

  entries_fit : (es : Entries) → EntriesRise es → (key : List ℕ) → KeyFits key (keys_shape es) (entry_at key es)
  entries_fit no_entries h key = tt
  entries_fit (entry_then k v es) h key = entry_here (bytes_eq key k) (shape_of v) v (entry_at key es) (KeyFits key (keys_shape es)) (own_fits v h.0) (λ no. entries_fit es h.1 key)

-- ---- of samples
pub sample_fits : (samples : List Val) (v : Val) → IsAmong v samples → MapsRise v → Fits (samples_shape samples) v
sample_fits [] v h rise = absurd h
sample_fits (w ∷ ws) v (inl same) rise = first_fits (shape_of w) (samples_shape ws) v (subst (λ (x : Val). Fits (shape_of x) v) (sym same) (own_fits v rise))
sample_fits (w ∷ ws) v (inr later) rise = second_fits (shape_of w) (samples_shape ws) v (sample_fits ws v later rise)

-- Shapes that are cut at a depth: they are as wide, no deeper, and of joined shapes; and a value fits its own.
use Rattle.std.proofs.Common.{◌≡◌, ℕ, ◌-◌, List, [], ◌∷◌, Bool, true, false, ◌==◌, ◌&&◌, ◌||◌, refl, sym, ap, subst, ◌∙◌, inl, inr, bytes_eq, if◌then◌else◌}
use Rattle.upon_types.specs.Val.{Val, none_val, bool_val, int_val, text_val, list_val, map_val, Vals, no_vals, val_then, Entries, no_entries, entry_then, entry_at, rises}
use Rattle.upon_meaning_spec.specs.MapOrder.{IsAmong}
use Rattle.upon_shape_spec.specs.Cut.{has_parts, cut_to, cut_lists, cut_maps, cut_keys, RiseTo, AllRiseTo, EntriesRiseTo}
use Rattle.upon_shape_spec.specs.Depth.{is_deeper, lists_deeper, maps_deeper, keys_deeper}
use Rattle.upon_shape_spec.specs.Fits.{EachValue, ByTest, Fits, MapFits, KeyFits}
use Rattle.upon_shape_spec.specs.Join.{join_plain, joined_others, join_shapes, join_lists, join_maps, join_keys, shape_of, items_shape, keys_shape, samples_shape}
use Rattle.upon_shape_spec.specs.Shape.{Plain, Shape, any_shape, one_of, Lists, no_list, lists_of, Maps, no_map, maps_of, Keys, other_keys, key_then, KeyShape, key_shape, at_key, keys_without, no_plain, list_of, map_of}
use Rattle.upon_shape_spec.specs.Wider.{plain_wider, wider, lists_wider, maps_wider}
use Rattle.upon_shape_spec.proofs.Joins.{first_fits, second_fits, entry_here}
use Rattle.upon_shape_spec.proofs.KeyByKey.{both, AtWider, others_of, keys_from}
use Rattle.upon_shape_spec.proofs.OpenedShapes.{both_chosen}
use Rattle.upon_shape_spec.proofs.Order.{implies_itself, plain_itself}
use Rattle.upon_shape_spec.proofs.Tests.{each_more}

-- ---- as wide
either_wider : (b : Bool) (s t : Shape) → wider s t ≡ true → wider (if b then any_shape else s) t ≡ true
either_wider true s t h = refl
either_wider false s t h = h

mutual
  pub cut_wider : (n : ℕ) (s : Shape) → wider (cut_to n s) s ≡ true
  cut_wider n any_shape = refl
  cut_wider n (one_of p l m) =
      let k = cut_lists (n - 1) l in
      let r = cut_maps (n - 1) m in
      either_wider (has_parts l m && (n == 0)) (one_of p k r) (one_of p l m)
      (both (plain_wider p p) (lists_wider k l && maps_wider r m) (plain_itself p) (both (lists_wider k l) (maps_wider r m) (cut_list_wider (n - 1) l) (cut_map_wider (n - 1) m)))

  cut_list_wider : (n : ℕ) (l : Lists) → lists_wider (cut_lists n l) l ≡ true
  cut_list_wider n no_list = refl
  cut_list_wider n (lists_of s) = cut_wider n s

  cut_map_wider : (n : ℕ) (m : Maps) → maps_wider (cut_maps n m) m ≡ true
  cut_map_wider n no_map = refl
  cut_map_wider n (maps_of ks) = keys_from [] (cut_keys n ks) ks (λ key un. cut_at_wider n ks key) (cut_others_wider n ks)

  cut_at_wider : (n : ℕ) (ks : Keys) (key : List ℕ) → AtWider (at_key key (cut_keys n ks)) (at_key key ks)
  cut_at_wider n (other_keys s) key = (refl, cut_wider n s)
  cut_at_wider n (key_then k required s ks) key =
      both_chosen (bytes_eq key k) (key_shape required (cut_to n s)) (at_key key (cut_keys n ks)) (key_shape required s) (at_key key ks) (implies_itself required, cut_wider n s) (cut_at_wider n ks key)

  cut_others_wider : (n : ℕ) (ks : Keys) → wider (others_of (cut_keys n ks)) (others_of ks) ≡ true
  cut_others_wider n (other_keys s) = cut_wider n s
  cut_others_wider n (key_then k required s ks) = cut_others_wider n ks

-- ---- of joined shapes
-- a shape without parts stays; one with parts is cut here, or in them
abbrev cut_parts : Bool → ℕ → Plain → Lists → Maps → Shape
cut_parts here i p l m = if has_parts l m && here then any_shape else one_of p (cut_lists i l) (cut_maps i m)

not_here : (i : ℕ) (p : Plain) (l : Lists) (m : Maps) → cut_parts false i p l m ≡ one_of p (cut_lists i l) (cut_maps i m)
not_here i p no_list no_map = refl
not_here i p no_list (maps_of ks) = refl
not_here i p (lists_of s) m = refl

part_joined : (here : Bool) (i : ℕ) (p q : Plain) (l k : Lists) (m r : Maps)
    → cut_lists i (join_lists l k) ≡ join_lists (cut_lists i l) (cut_lists i k)
    → cut_maps i (join_maps m r) ≡ join_maps (cut_maps i m) (cut_maps i r)
    → cut_parts here i (join_plain p q) (join_lists l k) (join_maps m r) ≡ join_shapes (cut_parts here i p l m) (cut_parts here i q k r)
part_joined true i p q (lists_of s) no_list m r e f = refl
part_joined true i p q (lists_of s) (lists_of t) m r e f = refl
part_joined true i p q no_list (lists_of t) no_map r e f = refl
part_joined true i p q no_list (lists_of t) (maps_of ks) r e f = refl
part_joined true i p q no_list no_list (maps_of ks) no_map e f = refl
part_joined true i p q no_list no_list (maps_of ks) (maps_of ns) e f = refl
part_joined true i p q no_list no_list no_map no_map e f = refl
part_joined true i p q no_list no_list no_map (maps_of ns) e f = refl
part_joined false i p q l k m r e f =
    not_here i (join_plain p q) (join_lists l k) (join_maps m r)
    ∙ (λ j. one_of (join_plain p q) (e j) (f j))
    ∙ (λ j. join_shapes (sym (not_here i p l m) j) (sym (not_here i q k r) j))

no_part_joined : (n : ℕ) (p : Plain) (l : Lists) (m : Maps) → join_shapes (cut_to n (one_of p l m)) any_shape ≡ any_shape
no_part_joined n p l m = elim (has_parts l m && (n == 0)) as (λ b. join_shapes (if b then any_shape else one_of p (cut_lists (n - 1) l) (cut_maps (n - 1) m)) any_shape ≡ any_shape) [ true ↦ refl | false ↦ refl ]

chosen_cut : (n : ℕ) (b : Bool) (required : Bool) (s : Shape) (ks ns : KeyShape) → ks ≡ key_shape ns.required (cut_to n ns.shape)
    → (if b then key_shape required (cut_to n s) else ks) ≡ key_shape (if b then key_shape required s else ns).required (cut_to n (if b then key_shape required s else ns).shape)
chosen_cut n true required s ks ns e = refl
chosen_cut n false required s ks ns e = e

cut_at : (n : ℕ) (k : List ℕ) (ns : Keys) → at_key k (cut_keys n ns) ≡ key_shape (at_key k ns).required (cut_to n (at_key k ns).shape)
cut_at n k (other_keys s) = refl
cut_at n k (key_then key required s ns) = chosen_cut n (bytes_eq k key) required s (at_key k (cut_keys n ns)) (at_key k ns) (cut_at n k ns)

chosen_keys : (n : ℕ) (b : Bool) (x y x' y' : Keys) → x' ≡ cut_keys n x → y' ≡ cut_keys n y → (if b then x' else y') ≡ cut_keys n (if b then x else y)
chosen_keys n true x y x' y' e f = e
chosen_keys n false x y x' y' e f = f

cut_without : (n : ℕ) (k : List ℕ) (ns : Keys) → keys_without k (cut_keys n ns) ≡ cut_keys n (keys_without k ns)
cut_without n k (other_keys s) = refl
cut_without n k (key_then key required s ns) =
    chosen_keys n (bytes_eq k key) (keys_without k ns) (key_then key required s (keys_without k ns)) (keys_without k (cut_keys n ns)) (key_then key required (cut_to n s) (keys_without k (cut_keys n ns)))
    (cut_without n k ns) (ap (key_then key required (cut_to n s)) (cut_without n k ns))

cut_joined_others : (n : ℕ) (s : Shape) (ns : Keys) → ((t : Shape) → cut_to n (join_shapes s t) ≡ join_shapes (cut_to n s) (cut_to n t))
    → cut_keys n (joined_others (join_shapes s) ns) ≡ joined_others (join_shapes (cut_to n s)) (cut_keys n ns)
cut_joined_others n s (other_keys t) e = ap other_keys (e t)
cut_joined_others n s (key_then k required t ns) e = λ j. key_then k false (e t j) (cut_joined_others n s ns e j)

mutual
  pub cut_joined : (n : ℕ) (s t : Shape) → cut_to n (join_shapes s t) ≡ join_shapes (cut_to n s) (cut_to n t)
  cut_joined n any_shape t = refl
  cut_joined n (one_of p l m) any_shape = sym (no_part_joined n p l m)
  cut_joined n (one_of p l m) (one_of q k r) = part_joined (n == 0) (n - 1) p q l k m r (cut_joined_lists (n - 1) l k) (cut_joined_maps (n - 1) m r)

  cut_joined_lists : (n : ℕ) (l k : Lists) → cut_lists n (join_lists l k) ≡ join_lists (cut_lists n l) (cut_lists n k)
  cut_joined_lists n no_list k = refl
  cut_joined_lists n (lists_of s) no_list = refl
  cut_joined_lists n (lists_of s) (lists_of t) = ap lists_of (cut_joined n s t)

  cut_joined_maps : (n : ℕ) (m r : Maps) → cut_maps n (join_maps m r) ≡ join_maps (cut_maps n m) (cut_maps n r)
  cut_joined_maps n no_map r = refl
  cut_joined_maps n (maps_of ks) no_map = refl
  cut_joined_maps n (maps_of ks) (maps_of ns) = ap maps_of (cut_joined_keys n ks ns)

  cut_joined_keys : (n : ℕ) (ks ns : Keys) → cut_keys n (join_keys ks ns) ≡ join_keys (cut_keys n ks) (cut_keys n ns)
  cut_joined_keys n (other_keys s) ns = cut_joined_others n s ns (cut_joined n s)
  cut_joined_keys n (key_then k required s ks) ns =
      let at = at_key k ns in
      let rest = cut_joined_keys n ks (keys_without k ns) in
      let beside = cut_without n k ns in
      (λ j. key_then k (required && at.required) (cut_joined n s at.shape j) (rest j))
      ∙ (λ j. key_then k (required && at.required) (join_shapes (cut_to n s) (cut_to n at.shape)) (join_keys (cut_keys n ks) (sym beside j)))
      ∙ ap (λ (x : KeyShape). key_then k (required && x.required) (join_shapes (cut_to n s) x.shape) (join_keys (cut_keys n ks) (keys_without k (cut_keys n ns)))) (sym (cut_at n k ns))

-- ---- of a value
at_parts : (b : Bool) (s : Shape) (v : Val) (A : Type 0) → (A → Fits s v) → ByTest b (Unit {0}) A → Fits (if b then any_shape else s) v
at_parts true s v A f h = tt
at_parts false s v A f h = f h

mutual
  pub own_cut_fits : (n : ℕ) (v : Val) → RiseTo n v → Fits (cut_to n (shape_of v)) v
  own_cut_fits n none_val h = refl
  own_cut_fits n (bool_val b) h = refl
  own_cut_fits n (int_val z) h = refl
  own_cut_fits n (text_val bytes) h = refl
  own_cut_fits n (list_val vs) h =
      at_parts (n == 0) (list_of (cut_to (n - 1) (items_shape vs))) (list_val vs) (AllRiseTo (n - 1) vs) (items_cut_fit (n - 1) vs) h
  own_cut_fits n (map_val es) h =
      at_parts (n == 0) (map_of (cut_keys (n - 1) (keys_shape es))) (map_val es) ((rises es ≡ true) × EntriesRiseTo (n - 1) es) (λ rise. (rise.0, entries_cut_fit (n - 1) es rise.1)) h

  items_cut_fit : (n : ℕ) (vs : Vals) → AllRiseTo n vs → EachValue (Fits (cut_to n (items_shape vs))) vs
  items_cut_fit n no_vals h = tt
  items_cut_fit n (val_then v vs) h =
      let s = cut_to n (shape_of v) in
      let t = cut_to n (items_shape vs) in
      subst (λ (x : Shape). EachValue (Fits x) (val_then v vs)) (sym (cut_joined n (shape_of v) (items_shape vs)))
      (first_fits s t v (own_cut_fits n v h.0), each_more (Fits t) (Fits (join_shapes s t)) (second_fits s t) vs (items_cut_fit n vs h.1))

  entries_cut_fit : (n : ℕ) (es : Entries) → EntriesRiseTo n es → (key : List ℕ) → KeyFits key (cut_keys n (keys_shape es)) (entry_at key es)
  entries_cut_fit n no_entries h key = tt
  entries_cut_fit n (entry_then k v es) h key =
      entry_here (bytes_eq key k) (cut_to n (shape_of v)) v (entry_at key es) (KeyFits key (cut_keys n (keys_shape es))) (own_cut_fits n v h.0) (λ no. entries_cut_fit n es h.1 key)

-- ---- of samples
pub sample_cut_fits : (n : ℕ) (samples : List Val) (v : Val) → IsAmong v samples → RiseTo n v → Fits (cut_to n (samples_shape samples)) v
sample_cut_fits n [] v h rise = absurd h
sample_cut_fits n (w ∷ ws) v (inl same) rise =
    subst (λ (x : Shape). Fits x v) (sym (cut_joined n (shape_of w) (samples_shape ws)))
    (first_fits (cut_to n (shape_of w)) (cut_to n (samples_shape ws)) v (subst (λ (x : Val). Fits (cut_to n (shape_of x)) v) (sym same) (own_cut_fits n v rise)))
sample_cut_fits n (w ∷ ws) v (inr later) rise =
    subst (λ (x : Shape). Fits x v) (sym (cut_joined n (shape_of w) (samples_shape ws)))
    (second_fits (cut_to n (shape_of w)) (cut_to n (samples_shape ws)) v (sample_cut_fits n ws v later rise))

-- ---- no deeper
none_of : (a b : Bool) → a ≡ false → b ≡ false → (a || b) ≡ false
none_of a b e f = (λ i. e i || b) ∙ f

part_not_deeper : (n : ℕ) (s : Shape) → ((n == 0) ≡ false → is_deeper n s ≡ false) → is_deeper n (if n == 0 then any_shape else s) ≡ false
part_not_deeper n s h =
    (elim (n == 0) as (λ b. ((b ≡ false) → is_deeper n s ≡ false) → is_deeper n (if b then any_shape else s) ≡ false) [
      | true ↦ λ h. refl
      | false ↦ λ h. h refl
    ]) h

mutual
  pub cut_not_deeper : (n : ℕ) (s : Shape) → is_deeper n (cut_to n s) ≡ false
  cut_not_deeper n any_shape = refl
  cut_not_deeper n (one_of p no_list no_map) = refl
  cut_not_deeper n (one_of p no_list (maps_of ks)) =
      part_not_deeper n (one_of p no_list (maps_of (cut_keys (n - 1) ks)))
      (λ deep. ap (λ b. b || keys_deeper (n - 1) (cut_keys (n - 1) ks)) deep ∙ cut_keys_not_deeper (n - 1) ks)
  cut_not_deeper n (one_of p (lists_of s) m) =
      part_not_deeper n (one_of p (lists_of (cut_to (n - 1) s)) (cut_maps (n - 1) m))
      (λ deep. none_of ((n == 0) || is_deeper (n - 1) (cut_to (n - 1) s)) (maps_deeper n (cut_maps (n - 1) m))
      (ap (λ b. b || is_deeper (n - 1) (cut_to (n - 1) s)) deep ∙ cut_not_deeper (n - 1) s) (cut_maps_not_deeper n m deep))

  cut_maps_not_deeper : (n : ℕ) (m : Maps) → (n == 0) ≡ false → maps_deeper n (cut_maps (n - 1) m) ≡ false
  cut_maps_not_deeper n no_map deep = refl
  cut_maps_not_deeper n (maps_of ks) deep = ap (λ b. b || keys_deeper (n - 1) (cut_keys (n - 1) ks)) deep ∙ cut_keys_not_deeper (n - 1) ks

  cut_keys_not_deeper : (n : ℕ) (ks : Keys) → keys_deeper n (cut_keys n ks) ≡ false
  cut_keys_not_deeper n (other_keys s) = cut_not_deeper n s
  cut_keys_not_deeper n (key_then k required s ks) = none_of (is_deeper n (cut_to n s)) (keys_deeper n (cut_keys n ks)) (cut_not_deeper n s) (cut_keys_not_deeper n ks)

-- What fits a scope fits each that is at least as wide, and what a loop's items give fits its names.
use Rattle.std.proofs.Common.{◌≡◌, ℕ, List, [], ◌∷◌, ◌++◌, Bool, true, false, ◌&&◌, Option, Some, None, map, refl, sym, ap, subst, bytes_eq, if◌then◌else◌, inl, inr, ◌||◌}
use Rattle.std.proofs.lemmas.Slice.Eq.{bytes_eq-Decides}
use Rattle.upon_types.specs.declared.types.Span.{Span}
use Rattle.upon_types.specs.Path.{Ident, LoopVars, item, key_value}
use Rattle.upon_types.specs.Val.{Val, none_val, bool_val, int_val, text_val, list_val, map_val, Vals, no_vals, val_then, Entries, entry_list}
use Rattle.upon_lookup.specs.Environment.{Bound, plain, key_text, loop_state, Binding, Root, context, value_source, nothing, Environment, first_bound}
use Rattle.upon_lookup.specs.Finding.{Finding}
use Rattle.upon_lookup.specs.Items.{item_binds, entry_binds, items_of}
use Rattle.upon_lookup.specs.Vals.{val_list}
use Rattle.upon_meaning_spec.specs.MapOrder.{IsAmong}
use Rattle.upon_meaning_spec.proofs.MapOrder.{goes_in_order}
use Rattle.upon_shape_spec.specs.Accepted.{item_shape, keys_joined, value_shape, loop_names}
use Rattle.upon_shape_spec.specs.Fits.{Fits, ListFits, MapFits, KeyFits}
use Rattle.upon_shape_spec.specs.Found.{Finds}
use Rattle.upon_shape_spec.specs.Paths.{takes_plain, takes_lists, takes_maps}
use Rattle.upon_shape_spec.specs.Scope.{BoundShape, value_of, loop_key, a_loop, NameShape, Scope, BoundFits, BothFit, NamesFit, RootFits, ScopeFits, name_shape, first_bound_shape, bound_wider, both_wider, names_wider, scope_wider}
use Rattle.upon_shape_spec.specs.Shape.{Plain, Shape, any_shape, one_of, Lists, no_list, lists_of, Maps, no_map, maps_of, Keys, other_keys, key_then}
use Rattle.upon_shape_spec.specs.Wider.{wider}
use Rattle.upon_shape_spec.proofs.Joins.{first_fits, second_fits}
use Rattle.upon_shape_spec.proofs.PathsFit.{taken, none_taken, truth_taken, integer_taken, text_taken, no_list_there, no_map_there}
use Rattle.upon_shape_spec.proofs.Tests.{and_first, and_second}
use Rattle.upon_shape_spec.proofs.Widths.{wider_fits, from_test}

-- ---- wider scopes
bound_wider_fits : (b c : BoundShape) (d : Bound) → bound_wider b c ≡ true → BoundFits c d → BoundFits b d
bound_wider_fits (value_of s) (value_of t) (plain v) e h = wider_fits s t v e h
bound_wider_fits (value_of s) (value_of t) (key_text text) e h = absurd h
bound_wider_fits (value_of s) (value_of t) (loop_state index count) e h = absurd h
bound_wider_fits (value_of s) loop_key d e h = absurd (cc)
bound_wider_fits (value_of s) a_loop d e h = absurd (cc)
bound_wider_fits loop_key (value_of t) d e h = absurd (cc)
bound_wider_fits loop_key loop_key d e h = h
bound_wider_fits loop_key a_loop d e h = absurd (cc)
bound_wider_fits a_loop (value_of t) d e h = absurd (cc)
bound_wider_fits a_loop loop_key d e h = absurd (cc)
bound_wider_fits a_loop a_loop d e h = h

both_wider_fits : (b c : Option BoundShape) (r : Option Bound) → both_wider b c ≡ true → BothFit c r → BothFit b r
both_wider_fits None None r e h = h
both_wider_fits None (Some c) r e h = absurd (cc)
both_wider_fits (Some b) None r e h = absurd (cc)
both_wider_fits (Some b) (Some c) None e h = absurd h
both_wider_fits (Some b) (Some c) (Some d) e h = bound_wider_fits b c d e h

-- a name that is there
abbrev IsBound : Option BoundShape → Type 0
IsBound None = ⊥
IsBound (Some b) = Unit {0}

bound_here : (t : Bool) (b : BoundShape) (o : Option BoundShape) (A : Type 0) → (t ≡ true → A) → (IsBound o → A) → IsBound (if t then Some b else o) → A
bound_here true b o A f g h = f refl
bound_here false b o A f g h = g h

name_wider : (name : List ℕ) (as' bs cs : List NameShape) → names_wider as' bs cs ≡ true → IsBound (first_bound_shape name as') → both_wider (first_bound_shape name bs) (first_bound_shape name cs) ≡ true
name_wider name [] bs cs e h = absurd h
name_wider name (a ∷ as') bs cs e h =
    let one = both_wider (first_bound_shape a.name bs) (first_bound_shape a.name cs) in
    bound_here (bytes_eq name a.name) a.bound (first_bound_shape name as') (both_wider (first_bound_shape name bs) (first_bound_shape name cs) ≡ true)
    (λ same. subst (λ (n : List ℕ). both_wider (first_bound_shape n bs) (first_bound_shape n cs) ≡ true) (sym ((bytes_eq-Decides name a.name).0 same)) (and_first one (names_wider as' bs cs) e))
    (name_wider name as' bs cs (and_second one (names_wider as' bs cs) e)) h

either_bound : (b c : Option BoundShape) → (IsBound b → both_wider b c ≡ true) → (IsBound c → both_wider b c ≡ true) → both_wider b c ≡ true
either_bound None None f g = refl
either_bound None (Some c) f g = g tt
either_bound (Some b) c f g = f tt

root_wider_fits : (s t : Shape) (root : Root) → wider s t ≡ true → RootFits t root → RootFits s root
root_wider_fits s t (context v) e h = wider_fits s t v e h
root_wider_fits s t value_source e h = absurd h
root_wider_fits s t nothing e h = absurd h

pub scope_wider_fits : (wide scope : Scope) (env : Environment) → scope_wider wide scope ≡ true → ScopeFits scope env → ScopeFits wide env
scope_wider_fits wide scope env e h =
    let bs = wide.names in
    let cs = scope.names in
    let names = and_second (wider wide.root scope.root) (names_wider bs bs cs && names_wider cs bs cs) e in (
      λ name. both_wider_fits (first_bound_shape name bs) (first_bound_shape name cs) (first_bound name env.bindings)
          (either_bound (first_bound_shape name bs) (first_bound_shape name cs)
          (name_wider name bs bs cs (and_first (names_wider bs bs cs) (names_wider cs bs cs) names))
          (name_wider name cs bs cs (and_second (names_wider bs bs cs) (names_wider cs bs cs) names)))
          (h.0 name),
      root_wider_fits wide.root scope.root env.root (and_first (wider wide.root scope.root) (names_wider bs bs cs && names_wider cs bs cs) e) h.1,
    )

-- ---- names more
-- name by name, in the same order
abbrev pub EachFits : List NameShape → List Binding → Type 0
EachFits [] [] = Unit {0}
EachFits [] (c ∷ cs) = ⊥
EachFits (b ∷ bs) [] = ⊥
EachFits (b ∷ bs) (c ∷ cs) = (b.name ≡ c.name) × (BoundFits b.bound c.bound × EachFits bs cs)

both_if : (x y : Bool) (b : BoundShape) (c : Bound) (o : Option BoundShape) (r : Option Bound) → x ≡ y → BoundFits b c → BothFit o r → BothFit (if x then Some b else o) (if y then Some c else r)
both_if true true b c o r e h k = h
both_if true false b c o r e h k = absurd (cc)
both_if false true b c o r e h k = absurd (cc)
both_if false false b c o r e h k = k

pub more_names : (bs ns : List NameShape) (cs ms : List Binding) → EachFits bs cs → NamesFit ns ms → NamesFit (bs ++ ns) (cs ++ ms)
more_names [] ns [] ms h k = k
more_names [] ns (c ∷ cs) ms h k = absurd h
more_names (b ∷ bs) ns [] ms h k = absurd h
more_names (b ∷ bs) ns (c ∷ cs) ms h k =
    λ name. both_if (bytes_eq name b.name) (bytes_eq name c.name) b.bound c.bound (first_bound_shape name (bs ++ ns)) (first_bound name (cs ++ ms)) (ap (bytes_eq name) h.0) h.1.0 (more_names bs ns cs ms h.1.1 k name)

-- ---- loops
-- what each item binds
abbrev pub ItemsFit : List NameShape → List (List Binding) → Type 0
ItemsFit bs [] = Unit {0}
ItemsFit bs (one ∷ items) = EachFits bs one × ItemsFit bs items

-- if there are names, there are items that give them
abbrev pub LoopFits : Option (List NameShape) → Finding (List (List Binding)) → Type 0
LoopFits None x = Unit {0}
LoopFits (Some bs) x = Finds (ItemsFit bs) x

loop_if : (b : Bool) (bs : List NameShape) (x : Finding (List (List Binding))) → (b ≡ false → Finds (ItemsFit bs) x) → LoopFits (if b then None else Some bs) x
loop_if true bs x h = tt
loop_if false bs x h = h refl

list_items : (name : Ident) (l : Lists) (vs : Vals) → ListFits l vs → ItemsFit (name_shape name.text (value_of (item_shape l)) ∷ []) (map (item_binds name) (val_list vs))
list_items name no_list vs h = absurd h
list_items name (lists_of s) no_vals h = tt
list_items name (lists_of s) (val_then v vs) h = ((refl, (h.0, tt)), list_items name (lists_of s) vs h.1)

key_joined : (key : List ℕ) (ks : Keys) (v : Val) → KeyFits key ks (Some v) → Fits (keys_joined ks) v
key_joined key (other_keys s) v h = h
key_joined key (key_then k required s ks) v h = from_test (bytes_eq key k) (first_fits s (keys_joined ks) v) (λ x. second_fits s (keys_joined ks) v (key_joined key ks v x)) h

entry_items : (key value : Ident) (s : Shape) (es : List (List ℕ × Val)) → ((k : List ℕ) (v : Val) → IsAmong (k, v) es → Fits s v) → ItemsFit (name_shape key.text loop_key ∷ name_shape value.text (value_of s) ∷ []) (map (entry_binds key value) es)
entry_items key value s [] h = tt
entry_items key value s (e ∷ es) h = ((refl, (tt, (refl, (h e.0 e.1 (inl refl), tt)))), entry_items key value s es (λ k v x. h k v (inr x)))

map_items : (key value : Ident) (m : Maps) (es : Entries) → MapFits m es → ItemsFit (name_shape key.text loop_key ∷ name_shape value.text (value_of (value_shape m)) ∷ []) (map (entry_binds key value) (entry_list es))
map_items key value no_map es h = absurd h
map_items key value (maps_of ks) es h =
    let order = goes_in_order key value es h.0 in
    let bs = name_shape key.text loop_key ∷ name_shape value.text (value_of (keys_joined ks)) ∷ [] in
    subst (λ (items : List (List Binding)). ItemsFit bs items) (sym order.bound)
    (entry_items key value (keys_joined ks) order.entries (λ k v among. key_joined k ks v (subst (λ (o : Option Val). KeyFits k ks o) ((order.all k v).1 among) (h.1 k))))

list_only : (p : Plain) (l : Lists) (m : Maps) (name : Ident) (v : Val) (at : Span) → Fits (one_of p l m) v → (takes_plain p || takes_maps m) ≡ false → Finds (ItemsFit (name_shape name.text (value_of (item_shape l)) ∷ [])) (items_of (item name) v at)
list_only p l m name none_val at h e = absurd (taken p (takes_maps m) e (none_taken p h))
list_only p l m name (bool_val b) at h e = absurd (taken p (takes_maps m) e (truth_taken p h))
list_only p l m name (int_val n) at h e = absurd (taken p (takes_maps m) e (integer_taken p h))
list_only p l m name (text_val bytes) at h e = absurd (taken p (takes_maps m) e (text_taken p h))
list_only p l m name (list_val vs) at h e = list_items name l vs h
list_only p l m name (map_val es) at h e = absurd (no_map_there (takes_plain p) m es e h)

map_only : (p : Plain) (l : Lists) (m : Maps) (key value : Ident) (both : Span) (v : Val) (at : Span) → Fits (one_of p l m) v → (takes_plain p || takes_lists l) ≡ false → Finds (ItemsFit (name_shape key.text loop_key ∷ name_shape value.text (value_of (value_shape m)) ∷ [])) (items_of (key_value key value both) v at)
map_only p l m key value both none_val at h e = absurd (taken p (takes_lists l) e (none_taken p h))
map_only p l m key value both (bool_val b) at h e = absurd (taken p (takes_lists l) e (truth_taken p h))
map_only p l m key value both (int_val n) at h e = absurd (taken p (takes_lists l) e (integer_taken p h))
map_only p l m key value both (text_val bytes) at h e = absurd (taken p (takes_lists l) e (text_taken p h))
map_only p l m key value both (list_val vs) at h e = absurd (no_list_there (takes_plain p) l vs e h)
map_only p l m key value both (map_val es) at h e = map_items key value m es h

pub loop_fits : (names : LoopVars) (s : Shape) (v : Val) (at : Span) → Fits s v → LoopFits (loop_names names s) (items_of names v at)
loop_fits (item name) any_shape v at h = tt
loop_fits (key_value key value both) any_shape v at h = tt
loop_fits (item name) (one_of p l m) v at h = loop_if (takes_plain p || takes_maps m) (name_shape name.text (value_of (item_shape l)) ∷ []) (items_of (item name) v at) (list_only p l m name v at h)
loop_fits (key_value key value both) (one_of p l m) v at h = loop_if (takes_plain p || takes_lists l) (name_shape key.text loop_key ∷ name_shape value.text (value_of (value_shape m)) ∷ []) (items_of (key_value key value both) v at) (map_only p l m key value both v at h)

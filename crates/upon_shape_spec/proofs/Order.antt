-- To be at least as wide is an order of shapes: of each to itself, and from one over another to a third.
use Rattle.std.proofs.Common.{◌≡◌, ℕ, List, [], ◌∷◌, Bool, true, false, ◌&&◌, Option, Some, None, refl, bytes_eq}
use Rattle.upon_shape_spec.specs.Scope.{BoundShape, value_of, loop_key, a_loop, NameShape, Scope, first_bound_shape, bound_wider, both_wider, names_wider, scope_wider}
use Rattle.upon_shape_spec.specs.Shape.{Plain, Shape, any_shape, one_of, Lists, no_list, lists_of, Maps, no_map, maps_of, Keys, other_keys, key_then, KeyShape, key_shape, at_key}
use Rattle.upon_shape_spec.specs.Wider.{implies, plain_wider, wider, lists_wider, maps_wider}
use Rattle.upon_shape_spec.proofs.KeyByKey.{both, chosen, others_of, keys_at, keys_other, keys_from}
use Rattle.upon_shape_spec.proofs.Tests.{and_first, and_second}

-- ---- itself
pub implies_itself : (a : Bool) → implies a a ≡ true
implies_itself true = refl
implies_itself false = refl

pub plain_itself : (p : Plain) → plain_wider p p ≡ true
plain_itself p = both (implies p.none p.none) _ (implies_itself p.none) (both (implies p.truth p.truth) _ (implies_itself p.truth) (both (implies p.integer p.integer) _ (implies_itself p.integer) (implies_itself p.text)))

mutual
  pub itself : (s : Shape) → wider s s ≡ true
  itself any_shape = refl
  itself (one_of p l m) = both (plain_wider p p) (lists_wider l l && maps_wider m m) (plain_itself p) (both (lists_wider l l) (maps_wider m m) (list_itself l) (map_itself m))

  list_itself : (l : Lists) → lists_wider l l ≡ true
  list_itself no_list = refl
  list_itself (lists_of s) = itself s

  pub map_itself : (m : Maps) → maps_wider m m ≡ true
  map_itself no_map = refl
  map_itself (maps_of ks) = keys_from [] ks ks (λ key un. (implies_itself (at_key key ks).required, at_itself ks key)) (others_itself ks)

  at_itself : (ks : Keys) (key : List ℕ) → wider (at_key key ks).shape (at_key key ks).shape ≡ true
  at_itself (other_keys s) key = itself s
  at_itself (key_then k required s ks) key = chosen (λ (x : KeyShape). wider x.shape x.shape ≡ true) (bytes_eq key k) (key_shape required s) (at_key key ks) (λ same. itself s) (λ other. at_itself ks key)

  others_itself : (ks : Keys) → wider (others_of ks) (others_of ks) ≡ true
  others_itself (other_keys s) = itself s
  others_itself (key_then k required s ks) = others_itself ks

-- ---- from one over another to a third
implies_then : (a b c : Bool) → implies a b ≡ true → implies b c ≡ true → implies a c ≡ true
implies_then true true c e f = f
implies_then true false c e f = absurd (cc)
implies_then false b c e f = refl

plain_then : (p q r : Plain) → plain_wider p q ≡ true → plain_wider q r ≡ true → plain_wider p r ≡ true
plain_then p q r e f =
    let e1 = and_second (implies q.none p.none) _ e in
    let f1 = and_second (implies r.none q.none) _ f in
    let e2 = and_second (implies q.truth p.truth) _ e1 in
    let f2 = and_second (implies r.truth q.truth) _ f1 in
    both (implies r.none p.none) _ (implies_then r.none q.none p.none (and_first (implies r.none q.none) _ f) (and_first (implies q.none p.none) _ e))
    (both (implies r.truth p.truth) _ (implies_then r.truth q.truth p.truth (and_first (implies r.truth q.truth) _ f1) (and_first (implies q.truth p.truth) _ e1))
    (both (implies r.integer p.integer) _ (implies_then r.integer q.integer p.integer (and_first (implies r.integer q.integer) _ f2) (and_first (implies q.integer p.integer) _ e2))
    (implies_then r.text q.text p.text (and_second (implies r.integer q.integer) _ f2) (and_second (implies q.integer p.integer) _ e2))))

-- whatever is between
abbrev Over : Shape → Type 0
Over s = (t u : Shape) → wider s t ≡ true → wider t u ≡ true → wider s u ≡ true

mutual
  pub over : (s : Shape) → Over s
  over any_shape t u e f = refl
  over (one_of p l m) any_shape u e f = absurd (cc)
  over (one_of p l m) (one_of q k n) any_shape e f = absurd (cc)
  over (one_of p l m) (one_of q k n) (one_of r j o) e f =
      let e1 = and_second (plain_wider p q) (lists_wider l k && maps_wider m n) e in
      let f1 = and_second (plain_wider q r) (lists_wider k j && maps_wider n o) f in
      both (plain_wider p r) (lists_wider l j && maps_wider m o) (plain_then p q r (and_first (plain_wider p q) (lists_wider l k && maps_wider m n) e) (and_first (plain_wider q r) (lists_wider k j && maps_wider n o) f))
      (both (lists_wider l j) (maps_wider m o)
      (list_over l k j (and_first (lists_wider l k) (maps_wider m n) e1) (and_first (lists_wider k j) (maps_wider n o) f1))
      (map_over m n o (and_second (lists_wider l k) (maps_wider m n) e1) (and_second (lists_wider k j) (maps_wider n o) f1)))

  list_over : (l k j : Lists) → lists_wider l k ≡ true → lists_wider k j ≡ true → lists_wider l j ≡ true
  list_over no_list no_list no_list e f = refl
  list_over no_list no_list (lists_of u) e f = absurd (cc)
  list_over no_list (lists_of t) j e f = absurd (cc)
  list_over (lists_of s) k no_list e f = refl
  list_over (lists_of s) no_list (lists_of u) e f = absurd (cc)
  list_over (lists_of s) (lists_of t) (lists_of u) e f = over s t u e f

  map_over : (m n o : Maps) → maps_wider m n ≡ true → maps_wider n o ≡ true → maps_wider m o ≡ true
  map_over no_map no_map no_map e f = refl
  map_over no_map no_map (maps_of os) e f = absurd (cc)
  map_over no_map (maps_of ns) o e f = absurd (cc)
  map_over (maps_of ks) n no_map e f = refl
  map_over (maps_of ks) no_map (maps_of os) e f = absurd (cc)
  map_over (maps_of ks) (maps_of ns) (maps_of os) e f =
      keys_from [] ks os
      (λ key un. let one = keys_at [] ks ns key un e in let next = keys_at [] ns os key un f in
      (implies_then (at_key key ks).required (at_key key ns).required (at_key key os).required one.0 next.0, at_over ks key (at_key key ns).shape (at_key key os).shape one.1 next.1))
      (others_over ks (others_of ns) (others_of os) (keys_other [] ks ns e) (keys_other [] ns os f))

  at_over : (ks : Keys) (key : List ℕ) → Over (at_key key ks).shape
  at_over (other_keys s) key = over s
  at_over (key_then k required s ks) key = chosen (λ (x : KeyShape). Over x.shape) (bytes_eq key k) (key_shape required s) (at_key key ks) (λ same. over s) (λ other. at_over ks key)

  others_over : (ks : Keys) → Over (others_of ks)
  others_over (other_keys s) = over s
  others_over (key_then k required s ks) = others_over ks

-- ---- scopes
bound_itself : (b : BoundShape) → bound_wider b b ≡ true
bound_itself (value_of s) = itself s
bound_itself loop_key = refl
bound_itself a_loop = refl

both_itself : (o : Option BoundShape) → both_wider o o ≡ true
both_itself None = refl
both_itself (Some b) = bound_itself b

names_itself : (as' bs : List NameShape) → names_wider as' bs bs ≡ true
names_itself [] bs = refl
names_itself (a ∷ as') bs = both (both_wider (first_bound_shape a.name bs) (first_bound_shape a.name bs)) (names_wider as' bs bs) (both_itself (first_bound_shape a.name bs)) (names_itself as' bs)

pub scope_itself : (scope : Scope) → scope_wider scope scope ≡ true
scope_itself scope =
    let bs = scope.names in
    both (wider scope.root scope.root) (names_wider bs bs bs && names_wider bs bs bs) (itself scope.root) (both (names_wider bs bs bs) (names_wider bs bs bs) (names_itself bs bs) (names_itself bs bs))

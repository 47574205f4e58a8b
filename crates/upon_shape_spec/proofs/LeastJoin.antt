-- Two shapes joined are as wide as each, and no wider than what is.
use Rattle.std.proofs.Common.{◌≡◌, ℕ, List, [], Bool, true, false, ◌&&◌, ◌||◌, refl, sym, ap, ◌∙◌, subst, bytes_eq, if◌then◌else◌}
use Rattle.std.proofs.lemmas.Slice.Eq.{bytes_eq-Decides}
use Rattle.upon_shape_spec.specs.Join.{join_plain, joined_others, join_shapes, join_lists, join_maps, join_keys}
use Rattle.upon_shape_spec.specs.Shape.{Plain, Shape, any_shape, one_of, Lists, no_list, lists_of, Maps, no_map, maps_of, Keys, other_keys, key_then, KeyShape, key_shape, at_key, keys_without}
use Rattle.upon_shape_spec.specs.Wider.{implies, plain_wider, wider, lists_wider, maps_wider}
use Rattle.upon_shape_spec.proofs.KeyByKey.{both, chosen, AtWider, others_of, keys_at, keys_other, keys_from}
use Rattle.upon_shape_spec.proofs.Order.{itself, map_itself}
use Rattle.upon_shape_spec.proofs.Tests.{and_first, and_second}

-- ---- what is known of a key in keys that are joined
-- of both
abbrev joined_at : KeyShape → KeyShape → KeyShape
joined_at a b = key_shape (a.required && b.required) (join_shapes a.shape b.shape)

if_joined : (b : Bool) (x y x' y' : KeyShape) (F : KeyShape → KeyShape) → (b ≡ true → x ≡ F x') → (b ≡ false → y ≡ F y') → (if b then x else y) ≡ F (if b then x' else y')
if_joined true x y x' y' F f g = f refl
if_joined false x y x' y' F f g = g refl

other_at : (b : Bool) (x y : KeyShape) → b ≡ false → (if b then x else y) ≡ y
other_at true x y e = absurd (cc)
other_at false x y e = refl

at_one_less : (key k l : List ℕ) (required : Bool) (s : Shape) (ns : Keys) → bytes_eq key k ≡ false → at_key key (keys_without k ns) ≡ at_key key ns → (b : Bool) → bytes_eq k l ≡ b → at_key key (if b then keys_without k ns else key_then l required s (keys_without k ns)) ≡ (if bytes_eq key l then key_shape required s else at_key key ns)
at_one_less key k l required s ns other e true same =
    let differs : bytes_eq key l ≡ false = ap (bytes_eq key) (sym ((bytes_eq-Decides k l).0 same)) ∙ other in
    e ∙ sym (other_at (bytes_eq key l) (key_shape required s) (at_key key ns) differs)
at_one_less key k l required s ns other e false same = ap (λ x. if bytes_eq key l then key_shape required s else x) e

at_without : (key k : List ℕ) (ns : Keys) → bytes_eq key k ≡ false → at_key key (keys_without k ns) ≡ at_key key ns
at_without key k (other_keys s) other = refl
at_without key k (key_then l required s ns) other = at_one_less key k l required s ns other (at_without key k ns other) (bytes_eq k l) refl

at_others : (s : Shape) (ns : Keys) (key : List ℕ) → at_key key (joined_others (join_shapes s) ns) ≡ joined_at (key_shape false s) (at_key key ns)
at_others s (other_keys t) key = refl
at_others s (key_then k required t ns) key = if_joined (bytes_eq key k) (key_shape false (join_shapes s t)) (at_key key (joined_others (join_shapes s) ns)) (key_shape required t) (at_key key ns) (joined_at (key_shape false s)) (λ same. refl) (λ other. at_others s ns key)

at_join : (ks ns : Keys) (key : List ℕ) → at_key key (join_keys ks ns) ≡ joined_at (at_key key ks) (at_key key ns)
at_join (other_keys s) ns key = at_others s ns key
at_join (key_then k required s ks) ns key =
    if_joined (bytes_eq key k) (key_shape (required && (at_key k ns).required) (join_shapes s (at_key k ns).shape)) (at_key key (join_keys ks (keys_without k ns))) (key_shape required s) (at_key key ks) (λ x. joined_at x (at_key key ns))
    (λ same. ap (λ (x : List ℕ). joined_at (key_shape required s) (at_key x ns)) (sym ((bytes_eq-Decides key k).0 same)))
    (λ other. at_join ks (keys_without k ns) key ∙ ap (joined_at (at_key key ks)) (at_without key k ns other))

others_others : (s : Shape) (ns : Keys) → others_of (joined_others (join_shapes s) ns) ≡ join_shapes s (others_of ns)
others_others s (other_keys t) = refl
others_others s (key_then k required t ns) = others_others s ns

others_without : (k : List ℕ) (ns : Keys) → others_of (keys_without k ns) ≡ others_of ns
others_without k (other_keys s) = refl
others_without k (key_then l required s ns) = if_others (bytes_eq k l) (keys_without k ns) (key_then l required s (keys_without k ns)) (others_of ns) (others_without k ns) (others_without k ns)
  where
    if_others : (b : Bool) (x y : Keys) (s : Shape) → others_of x ≡ s → others_of y ≡ s → others_of (if b then x else y) ≡ s
    if_others true x y s e f = e
    if_others false x y s e f = f

others_join : (ks ns : Keys) → others_of (join_keys ks ns) ≡ join_shapes (others_of ks) (others_of ns)
others_join (other_keys s) ns = others_others s ns
others_join (key_then k required s ks) ns = others_join ks (keys_without k ns) ∙ ap (join_shapes (others_of ks)) (others_without k ns)

-- ---- as wide as the first
implies_first : (a b : Bool) → implies a (a || b) ≡ true
implies_first true b = refl
implies_first false b = refl

implies_and_first : (a b : Bool) → implies (a && b) a ≡ true
implies_and_first true true = refl
implies_and_first true false = refl
implies_and_first false b = refl

plain_first : (p q : Plain) → plain_wider (join_plain p q) p ≡ true
plain_first p q = both (implies p.none (p.none || q.none)) _ (implies_first p.none q.none) (both (implies p.truth (p.truth || q.truth)) _ (implies_first p.truth q.truth) (both (implies p.integer (p.integer || q.integer)) _ (implies_first p.integer q.integer) (implies_first p.text q.text)))

pub lists_none : (l : Lists) → lists_wider l no_list ≡ true
lists_none no_list = refl
lists_none (lists_of s) = refl

pub maps_none : (m : Maps) → maps_wider m no_map ≡ true
maps_none no_map = refl
maps_none (maps_of ks) = refl

abbrev First : Shape → Type 0
First s = (t : Shape) → wider (join_shapes s t) s ≡ true

mutual
  pub wider_first : (s : Shape) → First s
  wider_first any_shape t = refl
  wider_first (one_of p l m) any_shape = refl
  wider_first (one_of p l m) (one_of q k n) = both (plain_wider (join_plain p q) p) (lists_wider (join_lists l k) l && maps_wider (join_maps m n) m) (plain_first p q) (both (lists_wider (join_lists l k) l) (maps_wider (join_maps m n) m) (list_first l k) (map_first m n))

  list_first : (l k : Lists) → lists_wider (join_lists l k) l ≡ true
  list_first no_list k = lists_none k
  list_first (lists_of s) no_list = itself s
  list_first (lists_of s) (lists_of t) = wider_first s t

  map_first : (m n : Maps) → maps_wider (join_maps m n) m ≡ true
  map_first no_map n = maps_none n
  map_first (maps_of ks) no_map = map_itself (maps_of ks)
  map_first (maps_of ks) (maps_of ns) =
      keys_from [] (join_keys ks ns) ks
      (λ key un. subst (λ (x : KeyShape). AtWider x (at_key key ks)) (sym (at_join ks ns key)) (implies_and_first (at_key key ks).required (at_key key ns).required, at_first ks key (at_key key ns).shape))
      (subst (λ (x : Shape). wider x (others_of ks) ≡ true) (sym (others_join ks ns)) (others_first ks (others_of ns)))

  at_first : (ks : Keys) (key : List ℕ) → First (at_key key ks).shape
  at_first (other_keys s) key = wider_first s
  at_first (key_then k required s ks) key = chosen (λ (x : KeyShape). First x.shape) (bytes_eq key k) (key_shape required s) (at_key key ks) (λ same. wider_first s) (λ other. at_first ks key)

  others_first : (ks : Keys) → First (others_of ks)
  others_first (other_keys s) = wider_first s
  others_first (key_then k required s ks) = others_first ks

-- ---- as wide as the second
implies_second : (a b : Bool) → implies b (a || b) ≡ true
implies_second true true = refl
implies_second true false = refl
implies_second false true = refl
implies_second false false = refl

implies_and_second : (a b : Bool) → implies (a && b) b ≡ true
implies_and_second true true = refl
implies_and_second true false = refl
implies_and_second false b = refl

plain_second : (p q : Plain) → plain_wider (join_plain p q) q ≡ true
plain_second p q = both (implies q.none (p.none || q.none)) _ (implies_second p.none q.none) (both (implies q.truth (p.truth || q.truth)) _ (implies_second p.truth q.truth) (both (implies q.integer (p.integer || q.integer)) _ (implies_second p.integer q.integer) (implies_second p.text q.text)))

abbrev Second : Shape → Type 0
Second s = (t : Shape) → wider (join_shapes s t) t ≡ true

mutual
  pub wider_second : (s : Shape) → Second s
  wider_second any_shape t = refl
  wider_second (one_of p l m) any_shape = refl
  wider_second (one_of p l m) (one_of q k n) = both (plain_wider (join_plain p q) q) (lists_wider (join_lists l k) k && maps_wider (join_maps m n) n) (plain_second p q) (both (lists_wider (join_lists l k) k) (maps_wider (join_maps m n) n) (list_second l k) (map_second m n))

  list_second : (l k : Lists) → lists_wider (join_lists l k) k ≡ true
  list_second no_list no_list = refl
  list_second no_list (lists_of t) = itself t
  list_second (lists_of s) no_list = refl
  list_second (lists_of s) (lists_of t) = wider_second s t

  map_second : (m n : Maps) → maps_wider (join_maps m n) n ≡ true
  map_second no_map n = map_itself n
  map_second (maps_of ks) no_map = refl
  map_second (maps_of ks) (maps_of ns) =
      keys_from [] (join_keys ks ns) ns
      (λ key un. subst (λ (x : KeyShape). AtWider x (at_key key ns)) (sym (at_join ks ns key)) (implies_and_second (at_key key ks).required (at_key key ns).required, at_second ks key (at_key key ns).shape))
      (subst (λ (x : Shape). wider x (others_of ns) ≡ true) (sym (others_join ks ns)) (others_second ks (others_of ns)))

  at_second : (ks : Keys) (key : List ℕ) → Second (at_key key ks).shape
  at_second (other_keys s) key = wider_second s
  at_second (key_then k required s ks) key = chosen (λ (x : KeyShape). Second x.shape) (bytes_eq key k) (key_shape required s) (at_key key ks) (λ same. wider_second s) (λ other. at_second ks key)

  others_second : (ks : Keys) → Second (others_of ks)
  others_second (other_keys s) = wider_second s
  others_second (key_then k required s ks) = others_second ks

-- ---- no wider than what is as wide as both
implies_or : (a b c : Bool) → implies a c ≡ true → implies b c ≡ true → implies (a || b) c ≡ true
implies_or true b c e f = e
implies_or false b c e f = f

implies_and : (a b c : Bool) → implies a b ≡ true → implies a c ≡ true → implies a (b && c) ≡ true
implies_and true b c e f = both b c e f
implies_and false b c e f = refl

plain_least : (p q r : Plain) → plain_wider p q ≡ true → plain_wider p r ≡ true → plain_wider p (join_plain q r) ≡ true
plain_least p q r e f =
    let e1 = and_second (implies q.none p.none) _ e in
    let f1 = and_second (implies r.none p.none) _ f in
    let e2 = and_second (implies q.truth p.truth) _ e1 in
    let f2 = and_second (implies r.truth p.truth) _ f1 in
    both (implies (q.none || r.none) p.none) _ (implies_or q.none r.none p.none (and_first (implies q.none p.none) _ e) (and_first (implies r.none p.none) _ f))
    (both (implies (q.truth || r.truth) p.truth) _ (implies_or q.truth r.truth p.truth (and_first (implies q.truth p.truth) _ e1) (and_first (implies r.truth p.truth) _ f1))
    (both (implies (q.integer || r.integer) p.integer) _ (implies_or q.integer r.integer p.integer (and_first (implies q.integer p.integer) _ e2) (and_first (implies r.integer p.integer) _ f2))
    (implies_or q.text r.text p.text (and_second (implies q.integer p.integer) _ e2) (and_second (implies r.integer p.integer) _ f2))))

abbrev Least : Shape → Type 0
Least s = (t u : Shape) → wider s t ≡ true → wider s u ≡ true → wider s (join_shapes t u) ≡ true

mutual
  pub least : (s : Shape) → Least s
  least any_shape t u e f = refl
  least (one_of p l m) any_shape u e f = absurd (cc)
  least (one_of p l m) (one_of q k n) any_shape e f = absurd (cc)
  least (one_of p l m) (one_of q k n) (one_of r j o) e f =
      let e1 = and_second (plain_wider p q) (lists_wider l k && maps_wider m n) e in
      let f1 = and_second (plain_wider p r) (lists_wider l j && maps_wider m o) f in
      both (plain_wider p (join_plain q r)) (lists_wider l (join_lists k j) && maps_wider m (join_maps n o)) (plain_least p q r (and_first (plain_wider p q) (lists_wider l k && maps_wider m n) e) (and_first (plain_wider p r) (lists_wider l j && maps_wider m o) f))
      (both (lists_wider l (join_lists k j)) (maps_wider m (join_maps n o))
      (list_least l k j (and_first (lists_wider l k) (maps_wider m n) e1) (and_first (lists_wider l j) (maps_wider m o) f1))
      (map_least m n o (and_second (lists_wider l k) (maps_wider m n) e1) (and_second (lists_wider l j) (maps_wider m o) f1)))

  list_least : (l k j : Lists) → lists_wider l k ≡ true → lists_wider l j ≡ true → lists_wider l (join_lists k j) ≡ true
  list_least l no_list j e f = f
  list_least l (lists_of t) no_list e f = e
  list_least no_list (lists_of t) (lists_of u) e f = absurd (cc)
  list_least (lists_of s) (lists_of t) (lists_of u) e f = least s t u e f

  map_least : (m n o : Maps) → maps_wider m n ≡ true → maps_wider m o ≡ true → maps_wider m (join_maps n o) ≡ true
  map_least m no_map o e f = f
  map_least m (maps_of ns) no_map e f = e
  map_least no_map (maps_of ns) (maps_of os) e f = absurd (cc)
  map_least (maps_of ks) (maps_of ns) (maps_of os) e f =
      keys_from [] ks (join_keys ns os)
      (λ key un. let one = keys_at [] ks ns key un e in let next = keys_at [] ks os key un f in
      subst (λ (x : KeyShape). AtWider (at_key key ks) x) (sym (at_join ns os key)) (implies_and (at_key key ks).required (at_key key ns).required (at_key key os).required one.0 next.0, at_least ks key (at_key key ns).shape (at_key key os).shape one.1 next.1))
      (subst (λ (x : Shape). wider (others_of ks) x ≡ true) (sym (others_join ns os)) (others_least ks (others_of ns) (others_of os) (keys_other [] ks ns e) (keys_other [] ks os f)))

  at_least : (ks : Keys) (key : List ℕ) → Least (at_key key ks).shape
  at_least (other_keys s) key = least s
  at_least (key_then k required s ks) key = chosen (λ (x : KeyShape). Least x.shape) (bytes_eq key k) (key_shape required s) (at_key key ks) (λ same. least s) (λ other. at_least ks key)

  others_least : (ks : Keys) → Least (others_of ks)
  others_least (other_keys s) = least s
  others_least (key_then k required s ks) = others_least ks

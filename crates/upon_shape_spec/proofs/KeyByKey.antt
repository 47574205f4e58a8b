-- Keys are at least as wide as others if what is known of each key is.
use Rattle.std.proofs.Common.{◌≡◌, ℕ, List, ◌∷◌, Bool, true, false, ◌&&◌, ◌||◌, refl, sym, subst, bytes_eq, if◌then◌else◌}
use Rattle.std.proofs.lemmas.Slice.Eq.{bytes_eq-Decides}
use Rattle.upon_shape_spec.specs.Shape.{Shape, Keys, other_keys, key_then, KeyShape, key_shape, at_key}
use Rattle.upon_shape_spec.specs.Wider.{implies, is_listed, each_beside, wider, keys_wider}
use Rattle.upon_shape_spec.proofs.Tests.{and_first, and_second}
use Rattle.upon_shape_spec.proofs.Widths.{or_other, neither, not_listed}

-- ---- tests
pub both : (a b : Bool) → a ≡ true → b ≡ true → (a && b) ≡ true
both true b e f = f
both false b e f = absurd (cc)

first_false : (a b : Bool) → (a || b) ≡ false → a ≡ false
first_false true b e = absurd (cc)
first_false false b e = refl

second_false : (a b : Bool) → (a || b) ≡ false → b ≡ false
second_false true b e = absurd (cc)
second_false false b e = e

if_true : (b : Bool) (x y : KeyShape) → b ≡ true → (if b then x else y) ≡ x
if_true true x y e = refl
if_true false x y e = absurd (cc)

if_false : (b : Bool) (x y : KeyShape) → b ≡ false → (if b then x else y) ≡ y
if_false true x y e = absurd (cc)
if_false false x y e = refl

unless : (a b : Bool) → (a ≡ false → b ≡ true) → (a || b) ≡ true
unless true b f = refl
unless false b f = f refl

same_key : (key : List ℕ) → bytes_eq key key ≡ true
same_key key = (bytes_eq-Decides key key).1 refl

-- what holds of either
pub chosen : (P : KeyShape → Type 0) (b : Bool) (x y : KeyShape) → (b ≡ true → P x) → (b ≡ false → P y) → P (if b then x else y)
chosen P true x y f g = f refl
chosen P false x y f g = g refl

-- ---- what is known of keys
-- what is known of a key is at least as wide
abbrev pub AtWider : KeyShape → KeyShape → Type 0
AtWider a b = (implies a.required b.required ≡ true) × (wider a.shape b.shape ≡ true)

-- of keys that are not named
abbrev pub others_of : Keys → Shape
others_of (other_keys s) = s
others_of (key_then k required s ks) = others_of ks

-- ---- from all keys to one
each_at : (seen : List (List ℕ)) (s : Shape) (ns : Keys) (key : List ℕ) → is_listed key seen ≡ false → each_beside seen (wider s) ns ≡ true → wider s (at_key key ns).shape ≡ true
each_at seen s (other_keys t) key un e = e
each_at seen s (key_then k required t ns) key un e =
    let rest = each_beside (k ∷ seen) (wider s) ns in
    chosen (λ (x : KeyShape). wider s x.shape ≡ true) (bytes_eq key k) (key_shape required t) (at_key key ns)
    (λ same. or_other (is_listed k seen) (wider s t) (not_listed key k seen un same) (and_first (is_listed k seen || wider s t) rest e))
    (λ other. each_at (k ∷ seen) s ns key (neither (bytes_eq key k) (is_listed key seen) other un) (and_second (is_listed k seen || wider s t) rest e))

each_other : (seen : List (List ℕ)) (s : Shape) (ns : Keys) → each_beside seen (wider s) ns ≡ true → wider s (others_of ns) ≡ true
each_other seen s (other_keys t) e = e
each_other seen s (key_then k required t ns) e = each_other (k ∷ seen) s ns (and_second (is_listed k seen || wider s t) (each_beside (k ∷ seen) (wider s) ns) e)

pub keys_at : (seen : List (List ℕ)) (ks ns : Keys) (key : List ℕ) → is_listed key seen ≡ false → keys_wider seen ks ns ≡ true → AtWider (at_key key ks) (at_key key ns)
keys_at seen (other_keys s) ns key un e = (refl, each_at seen s ns key un e)
keys_at seen (key_then k required s ks) ns key un e =
    let at = at_key k ns in
    let one = implies required at.required && wider s at.shape in
    let rest = keys_wider (k ∷ seen) ks ns in
    chosen (λ (x : KeyShape). AtWider x (at_key key ns)) (bytes_eq key k) (key_shape required s) (at_key key ks)
    (λ same. let is = or_other (is_listed k seen) one (not_listed key k seen un same) (and_first (is_listed k seen || one) rest e) in
    subst (λ (x : List ℕ). AtWider (key_shape required s) (at_key x ns)) (sym ((bytes_eq-Decides key k).0 same)) (and_first (implies required at.required) (wider s at.shape) is, and_second (implies required at.required) (wider s at.shape) is))
    (λ other. keys_at (k ∷ seen) ks ns key (neither (bytes_eq key k) (is_listed key seen) other un) (and_second (is_listed k seen || one) rest e))

pub keys_other : (seen : List (List ℕ)) (ks ns : Keys) → keys_wider seen ks ns ≡ true → wider (others_of ks) (others_of ns) ≡ true
keys_other seen (other_keys s) ns e = each_other seen s ns e
keys_other seen (key_then k required s ks) ns e =
    let at = at_key k ns in
    keys_other (k ∷ seen) ks ns (and_second (is_listed k seen || (implies required at.required && wider s at.shape)) (keys_wider (k ∷ seen) ks ns) e)

-- ---- from each key to all
-- what is known of the first key, and of another one
first_at : (k : List ℕ) (required : Bool) (s : Shape) (ks : Keys) → at_key k (key_then k required s ks) ≡ key_shape required s
first_at k required s ks = if_true (bytes_eq k k) (key_shape required s) (at_key k ks) (same_key k)

later_at : (key k : List ℕ) (required : Bool) (s : Shape) (ks : Keys) → bytes_eq key k ≡ false → at_key key (key_then k required s ks) ≡ at_key key ks
later_at key k required s ks other = if_false (bytes_eq key k) (key_shape required s) (at_key key ks) other

each_from : (seen : List (List ℕ)) (s : Shape) (ns : Keys) → ((key : List ℕ) → is_listed key seen ≡ false → wider s (at_key key ns).shape ≡ true) → wider s (others_of ns) ≡ true → each_beside seen (wider s) ns ≡ true
each_from seen s (other_keys t) h o = o
each_from seen s (key_then k required t ns) h o =
    both (is_listed k seen || wider s t) (each_beside (k ∷ seen) (wider s) ns)
    (unless (is_listed k seen) (wider s t) (λ un. subst (λ (x : KeyShape). wider s x.shape ≡ true) (first_at k required t ns) (h k un)))
    (each_from (k ∷ seen) s ns (λ key un. subst (λ (x : KeyShape). wider s x.shape ≡ true) (later_at key k required t ns (first_false (bytes_eq key k) (is_listed key seen) un)) (h key (second_false (bytes_eq key k) (is_listed key seen) un))) o)

pub keys_from : (seen : List (List ℕ)) (ks ns : Keys) → ((key : List ℕ) → is_listed key seen ≡ false → AtWider (at_key key ks) (at_key key ns)) → wider (others_of ks) (others_of ns) ≡ true → keys_wider seen ks ns ≡ true
keys_from seen (other_keys s) ns h o = each_from seen s ns (λ key un. (h key un).1) o
keys_from seen (key_then k required s ks) ns h o =
    let at = at_key k ns in
    both (is_listed k seen || (implies required at.required && wider s at.shape)) (keys_wider (k ∷ seen) ks ns)
    (unless (is_listed k seen) (implies required at.required && wider s at.shape)
    (λ un. let is = subst (λ (x : KeyShape). AtWider x (at_key k ns)) (first_at k required s ks) (h k un) in both (implies required at.required) (wider s at.shape) is.0 is.1))
    (keys_from (k ∷ seen) ks ns (λ key un. subst (λ (x : KeyShape). AtWider x (at_key key ns)) (later_at key k required s ks (first_false (bytes_eq key k) (is_listed key seen) un)) (h key (second_false (bytes_eq key k) (is_listed key seen) un))) o)

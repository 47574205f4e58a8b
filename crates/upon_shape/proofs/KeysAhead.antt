-- Keys by name ahead of others, and what is known of keys beside some that were seen.
use Rattle.std.proofs.Common.{◌≡◌, ℕ, List, [], ◌∷◌, ◌++◌, Bool, true, false, not, ◌||◌, refl, sym, ap, ◌∙◌, bytes_eq, string_bytes, if◌then◌else◌}
use Rattle.std.specs.List.{filter}
use Rattle.std.proofs.lemmas.Bool.{false_from_ne_true, both_ways}
use Rattle.std.proofs.lemmas.Slice.Eq.{bytes_eq-Decides}
use Rattle.upon_shape_spec.specs.Join.{joined_others}
use Rattle.upon_shape_spec.specs.Shape.{Shape as SpecShape, Keys as SpecKeys, other_keys, key_then, KeyShape, key_shape, at_key, keys_without}
use Rattle.upon_shape_spec.specs.Wider.{is_listed}
use Rattle.upon_shape_spec.proofs.KeyByKey.{others_of}
use Rattle.upon_shape.specs.Keys.{keys_and, is_among, without_each, seen_after}
use Rattle.upon_shape.specs.View.{shape_view, ahead}
use Rattle.upon_shape.specs.declared.shape.Key.{Key}
use Rattle.upon_shape.specs.declared.shape.Shape.{Shape}

-- ---- one more
pub ahead-push : (ks : List (Key Shape)) (k : Key Shape) (others : SpecKeys) → ahead (ks ++ k ∷ []) others ≡ ahead ks (key_then (string_bytes k.name) k.required (shape_view k.shape) others)
ahead-push [] k others = refl
ahead-push (l ∷ ks) k others = ap (key_then (string_bytes l.name) l.required (shape_view l.shape)) (ahead-push ks k others)

pub keys_and-ahead : (key : List ℕ) (required : Bool) (t s : SpecShape) (ks : List (Key Shape)) → keys_and key required t (ahead ks (other_keys s)) ≡ ahead ks (key_then key required t (other_keys s))
keys_and-ahead key required t s [] = refl
keys_and-ahead key required t s (k ∷ ks) = ap (key_then (string_bytes k.name) k.required (shape_view k.shape)) (keys_and-ahead key required t s ks)

pub without_each-push : (ks : List (Key Shape)) (k : Key Shape) (ns : SpecKeys) → without_each (ks ++ k ∷ []) ns ≡ keys_without (string_bytes k.name) (without_each ks ns)
without_each-push [] k ns = refl
without_each-push (l ∷ ks) k ns = without_each-push ks k (keys_without (string_bytes l.name) ns)

pub seen_after-push : (ks : List (Key Shape)) (k : Key Shape) (seen : List (List ℕ)) → seen_after (ks ++ k ∷ []) seen ≡ string_bytes k.name ∷ seen_after ks seen
seen_after-push [] k seen = refl
seen_after-push (l ∷ ks) k seen = seen_after-push ks k (string_bytes l.name ∷ seen)

or_turned : (a b c : Bool) → (b || (a || c)) ≡ ((a || b) || c)
or_turned true true c = refl
or_turned true false c = refl
or_turned false true c = refl
or_turned false false c = refl

pub is_listed-seen_after : (name : List ℕ) (ks : List (Key Shape)) (seen : List (List ℕ)) → is_listed name (seen_after ks seen) ≡ (is_among name ks || is_listed name seen)
is_listed-seen_after name [] seen = refl
is_listed-seen_after name (k ∷ ks) seen = is_listed-seen_after name ks (string_bytes k.name ∷ seen) ∙ or_turned (bytes_eq name (string_bytes k.name)) (is_among name ks) (is_listed name seen)

-- ---- texts that are the same, either way round
same_bool : (x y : Bool) → (x ≡ true → y ≡ true) → (y ≡ true → x ≡ true) → x ≡ y
same_bool true y f g = sym (f refl)
same_bool false true f g = g refl
same_bool false false f g = refl

turned : (a b : List ℕ) → bytes_eq a b ≡ true → bytes_eq b a ≡ true
turned a b e = (bytes_eq-Decides b a).1 (sym ((bytes_eq-Decides a b).0 e))

bytes_eq-turned : (a b : List ℕ) → bytes_eq a b ≡ bytes_eq b a
bytes_eq-turned a b = same_bool (bytes_eq a b) (bytes_eq b a) (turned a b) (turned b a)

-- ---- keys beside one
-- what is known of a key that is not named
abbrev pub others_known : SpecKeys → KeyShape
others_known ns = key_shape false (others_of ns)

others_chosen : (b : Bool) (x y : SpecKeys) (s : SpecShape) → others_of x ≡ s → others_of y ≡ s → others_of (if b then x else y) ≡ s
others_chosen true x y s e f = e
others_chosen false x y s e f = f

others_of-without : (key : List ℕ) (ns : SpecKeys) → others_of (keys_without key ns) ≡ others_of ns
others_of-without key (other_keys s) = refl
others_of-without key (key_then l required s ns) = others_chosen (bytes_eq key l) (keys_without key ns) (key_then l required s (keys_without key ns)) (others_of ns) (others_of-without key ns) (others_of-without key ns)

at_step : (name l : List ℕ) (required : Bool) (s : SpecShape) (rest : SpecKeys) (F Q : KeyShape) (a b d : Bool) → bytes_eq name l ≡ b → (a ≡ true → d ≡ b) → (a ≡ false → b ≡ true → d ≡ false)
    → at_key name rest ≡ (if d then F else Q)
    → at_key name (if a then rest else key_then l required s rest) ≡ (if d then F else (if b then key_shape required s else Q))
at_step name l required s rest F Q true true true e f g h = h
at_step name l required s rest F Q true true false e f g h = absurd (both_ways false refl (f refl))
at_step name l required s rest F Q true false true e f g h = absurd (both_ways true (f refl) refl)
at_step name l required s rest F Q true false false e f g h = h
at_step name l required s rest F Q false true true e f g h = absurd (both_ways true (g refl refl) refl)
at_step name l required s rest F Q false true false e f g h = ap (λ (x : Bool). if x then key_shape required s else at_key name rest) e
at_step name l required s rest F Q false false true e f g h = ap (λ (x : Bool). if x then key_shape required s else at_key name rest) e ∙ h
at_step name l required s rest F Q false false false e f g h = ap (λ (x : Bool). if x then key_shape required s else at_key name rest) e ∙ h

either_way : (b : Bool) (x : KeyShape) → x ≡ (if b then x else x)
either_way true x = refl
either_way false x = refl

pub at_key-without : (name key : List ℕ) (ns : SpecKeys) → at_key name (keys_without key ns) ≡ (if bytes_eq name key then others_known ns else at_key name ns)
at_key-without name key (other_keys s) = either_way (bytes_eq name key) (key_shape false s)
at_key-without name key (key_then l required s ns) =
    at_step name l required s (keys_without key ns) (others_known ns) (at_key name ns) (bytes_eq key l) (bytes_eq name l) (bytes_eq name key) refl
    (λ same. ap (bytes_eq name) ((bytes_eq-Decides key l).0 same))
    (λ other same. false_from_ne_true (bytes_eq name key) (λ again. both_ways (bytes_eq key l) other ((bytes_eq-Decides key l).1 (sym ((bytes_eq-Decides name key).0 again) ∙ (bytes_eq-Decides name l).0 same))))
    (at_key-without name key ns)

-- a test that a key has another name
abbrev pub differs : List ℕ → Key Shape → Bool
differs name k = not (bytes_eq name (string_bytes k.name))

kept_step : (same : Bool) (k : Key Shape) (ks : List (Key Shape)) (rest others : SpecKeys) → ahead ks others ≡ rest
    → ahead (if not same then k ∷ ks else ks) others ≡ (if same then rest else key_then (string_bytes k.name) k.required (shape_view k.shape) rest)
kept_step true k ks rest others e = e
kept_step false k ks rest others e = ap (key_then (string_bytes k.name) k.required (shape_view k.shape)) e

-- the keys that have other names
pub ahead-kept : (name : List ℕ) (ks : List (Key Shape)) (s : SpecShape) → ahead (filter (differs name) ks) (other_keys s) ≡ keys_without name (ahead ks (other_keys s))
ahead-kept name [] s = refl
ahead-kept name (k ∷ ks) s = kept_step (bytes_eq name (string_bytes k.name)) k (filter (differs name) ks) (keys_without name (ahead ks (other_keys s))) (other_keys s) (ahead-kept name ks s)

-- ---- keys beside each of some
seen_or_later : (b c : Bool) (O' O A' A : KeyShape) → O' ≡ O → A' ≡ (if b then O else A) → (if c then O' else A') ≡ (if (b || c) then O else A)
seen_or_later true true O' O A' A e f = e
seen_or_later true false O' O A' A e f = f
seen_or_later false true O' O A' A e f = e
seen_or_later false false O' O A' A e f = f

at_key-without_each : (name : List ℕ) (ks : List (Key Shape)) (ns : SpecKeys) → at_key name (without_each ks ns) ≡ (if is_among name ks then others_known ns else at_key name ns)
at_key-without_each name [] ns = refl
at_key-without_each name (k ∷ ks) ns =
    at_key-without_each name ks (keys_without (string_bytes k.name) ns)
    ∙ seen_or_later (bytes_eq name (string_bytes k.name)) (is_among name ks) (others_known (keys_without (string_bytes k.name) ns)) (others_known ns) (at_key name (keys_without (string_bytes k.name) ns)) (at_key name ns)
    (ap (key_shape false) (others_of-without (string_bytes k.name) ns)) (at_key-without name (string_bytes k.name) ns)

others_of-ahead : (ks : List (Key Shape)) (s : SpecShape) → others_of (ahead ks (other_keys s)) ≡ s
others_of-ahead [] s = refl
others_of-ahead (k ∷ ks) s = others_of-ahead ks s

-- of a key that was seen, and of one that was not
pub at_seen : (name : List ℕ) (seen ks : List (Key Shape)) (s : SpecShape) → is_among name seen ≡ true → at_key name (without_each seen (ahead ks (other_keys s))) ≡ key_shape false s
at_seen name seen ks s h =
    at_key-without_each name seen (ahead ks (other_keys s))
    ∙ ap (λ (x : Bool). if x then others_known (ahead ks (other_keys s)) else at_key name (ahead ks (other_keys s))) h
    ∙ ap (key_shape false) (others_of-ahead ks s)

pub at_unseen : (name : List ℕ) (seen : List (Key Shape)) (ns : SpecKeys) → is_among name seen ≡ false → at_key name (without_each seen ns) ≡ at_key name ns
at_unseen name seen ns h =
    at_key-without_each name seen ns ∙ ap (λ (x : Bool). if x then others_known ns else at_key name ns) h

pub without_each-others : (ks : List (Key Shape)) (s : SpecShape) → without_each ks (other_keys s) ≡ other_keys s
without_each-others [] s = refl
without_each-others (k ∷ ks) s = without_each-others ks s

left_out : (ks : List (Key Shape)) (key : List ℕ) (required : Bool) (s : SpecShape) (rest : SpecKeys) (a b c : Bool) → a ≡ b
    → without_each ks (key_then key required s rest) ≡ (if c then without_each ks rest else key_then key required s (without_each ks rest))
    → without_each ks (if a then rest else key_then key required s rest) ≡ (if (b || c) then without_each ks rest else key_then key required s (without_each ks rest))
left_out ks key required s rest true true c e h = refl
left_out ks key required s rest true false c e h = absurd (both_ways true e refl)
left_out ks key required s rest false true c e h = absurd (both_ways false refl e)
left_out ks key required s rest false false c e h = h

without_each-key : (ks : List (Key Shape)) (key : List ℕ) (required : Bool) (s : SpecShape) (ns : SpecKeys)
    → without_each ks (key_then key required s ns) ≡ (if is_among key ks then without_each ks ns else key_then key required s (without_each ks ns))
without_each-key [] key required s ns = refl
without_each-key (k ∷ ks) key required s ns =
    left_out ks key required s (keys_without (string_bytes k.name) ns) (bytes_eq (string_bytes k.name) key) (bytes_eq key (string_bytes k.name)) (is_among key ks)
    (bytes_eq-turned (string_bytes k.name) key) (without_each-key ks key required s (keys_without (string_bytes k.name) ns))

-- one that was seen is left out, and one that was not is joined
pub seen_out : (f : SpecShape → SpecShape) (seen : List (Key Shape)) (k : Key Shape) (ns : SpecKeys) → is_among (string_bytes k.name) seen ≡ true
    → joined_others f (without_each seen (key_then (string_bytes k.name) k.required (shape_view k.shape) ns)) ≡ joined_others f (without_each seen ns)
seen_out f seen k ns h =
    ap (joined_others f) (without_each-key seen (string_bytes k.name) k.required (shape_view k.shape) ns
    ∙ ap (λ (x : Bool). if x then without_each seen ns else key_then (string_bytes k.name) k.required (shape_view k.shape) (without_each seen ns)) h)

pub unseen_in : (f : SpecShape → SpecShape) (seen : List (Key Shape)) (k : Key Shape) (ns : SpecKeys) → is_among (string_bytes k.name) seen ≡ false
    → joined_others f (without_each seen (key_then (string_bytes k.name) k.required (shape_view k.shape) ns))
    ≡ key_then (string_bytes k.name) false (f (shape_view k.shape)) (joined_others f (without_each seen ns))
unseen_in f seen k ns h =
    ap (joined_others f) (without_each-key seen (string_bytes k.name) k.required (shape_view k.shape) ns
    ∙ ap (λ (x : Bool). if x then without_each seen ns else key_then (string_bytes k.name) k.required (shape_view k.shape) (without_each seen ns)) h)

pub joined_rest : (f : SpecShape → SpecShape) (seen : List (Key Shape)) (s : SpecShape) → joined_others f (without_each seen (other_keys s)) ≡ other_keys (f s)
joined_rest f seen s = ap (joined_others f) (without_each-others seen s)

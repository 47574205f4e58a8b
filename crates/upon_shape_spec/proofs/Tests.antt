-- Facts that are chosen by a test, and what is held at a key.
use Rattle.std.proofs.Common.{◌≡◌, ℕ, List, Bool, true, false, ◌&&◌, ◌||◌, Option, Some, None, refl, sym, ap, ◌∙◌, subst, bytes_eq, if◌then◌else◌}
use Rattle.std.proofs.lemmas.Slice.Eq.{bytes_eq-Decides}
use Rattle.upon_types.specs.Val.{Val, Vals, no_vals, val_then}
use Rattle.upon_shape_spec.specs.Shape.{Shape, Keys, other_keys, key_then, KeyShape, key_shape, at_key, keys_without}
use Rattle.upon_shape_spec.specs.Fits.{EachValue, ByTest, Held, Fits, KeyFits}

pub or_first : (a b : Bool) → a ≡ true → (a || b) ≡ true
or_first true b h = refl
or_first false b h = absurd (cc)

pub or_second : (a b : Bool) → b ≡ true → (a || b) ≡ true
or_second true b h = refl
or_second false b h = h

pub and_first : (a b : Bool) → (a && b) ≡ true → a ≡ true
and_first true b h = refl
and_first false b h = h

pub and_second : (a b : Bool) → (a && b) ≡ true → b ≡ true
and_second true b h = h
and_second false b h = absurd (cc)

-- one of two facts
pub by_test : {A B : Type 0} (b : Bool) → (b ≡ true → A) → (b ≡ false → B) → ByTest b A B
by_test true f g = f refl
by_test false f g = g refl

pub test_map : {A B C D : Type 0} (b : Bool) → (A → C) → (B → D) → ByTest b A B → ByTest b C D
test_map true f g h = f h
test_map false f g h = g h

pub each_more : (P Q : Val → Type 0) → ((v : Val) → P v → Q v) → (vs : Vals) → EachValue P vs → EachValue Q vs
each_more P Q f no_vals h = tt
each_more P Q f (val_then v vs) h = (f v h.0, each_more P Q f vs h.1)

-- ---- what is held
pub held_more : (required : Bool) (P Q : Val → Type 0) → ((v : Val) → P v → Q v) → (o : Option Val) → Held required P o → Held required Q o
held_more required P Q f (Some v) h = f v h
held_more true P Q f None h = absurd h
held_more false P Q f None h = tt

pub held_either : (required : Bool) (P Q : Val → Type 0) → ((v : Val) → P v → Q v) → (o : Option Val) → Held required P o → Held false Q o
held_either required P Q f (Some v) h = f v h
held_either true P Q f None h = absurd h
held_either false P Q f None h = tt

pub held_first : (a b : Bool) (P Q : Val → Type 0) → ((v : Val) → P v → Q v) → (o : Option Val) → Held a P o → Held (a && b) Q o
held_first true b P Q f (Some v) h = f v h
held_first true b P Q f None h = absurd h
held_first false b P Q f o h = held_more false P Q f o h

pub held_second : (a b : Bool) (P Q : Val → Type 0) → ((v : Val) → P v → Q v) → (o : Option Val) → Held b P o → Held (a && b) Q o
held_second true b P Q f o h = held_more b P Q f o h
held_second false b P Q f o h = held_either b P Q f o h

-- ---- what is at a key
-- it is so as is known of its key
abbrev pub HeldAt : KeyShape → Option Val → Type 0
HeldAt x o = Held x.required (Fits x.shape) o

held_chosen : (b : Bool) (x y : KeyShape) (o : Option Val) → ByTest b (HeldAt x o) (HeldAt y o) → HeldAt (if b then x else y) o
held_chosen true x y o h = h
held_chosen false x y o h = h

same_held : {A : Type 0} → A → A
same_held h = h

pub key_held : (key : List ℕ) (ks : Keys) (o : Option Val) → KeyFits key ks o → HeldAt (at_key key ks) o
key_held key (other_keys s) o h = h
key_held key (key_then k required s ks) o h = held_chosen (bytes_eq key k) (key_shape required s) (at_key key ks) o (test_map (bytes_eq key k) same_held (key_held key ks o) h)

-- what fits at a key fits at any key that is equal to it
pub same_key_held : (key k : List ℕ) (ks : Keys) (o : Option Val) → KeyFits key ks o → bytes_eq key k ≡ true → HeldAt (at_key k ks) o
same_key_held key k ks o h same = subst (λ (x : List ℕ). HeldAt (at_key x ks) o) ((bytes_eq-Decides key k).0 same) (key_held key ks o h)

other_test : (A B : Type 0) (b : Bool) → b ≡ false → ByTest b A B → B
other_test A B true e h = absurd (cc)
other_test A B false e h = h

-- ---- the keys beside one say the same of another
beside_one : (key k l : List ℕ) (required : Bool) (s : Shape) (ns : Keys) (o : Option Val) → bytes_eq key k ≡ false → (KeyFits key ns o → KeyFits key (keys_without k ns) o) → (b : Bool) → bytes_eq k l ≡ b → ByTest (bytes_eq key l) (Held required (Fits s) o) (KeyFits key ns o) → KeyFits key (if b then keys_without k ns else key_then l required s (keys_without k ns)) o
beside_one key k l required s ns o other more true same h =
    let one : k ≡ l = (bytes_eq-Decides k l).0 same in
    more (other_test (Held required (Fits s) o) (KeyFits key ns o) (bytes_eq key l) (ap (bytes_eq key) (sym one) ∙ other) h)
beside_one key k l required s ns o other more false same h = test_map (bytes_eq key l) (λ x. x) more h

pub beside : (key k : List ℕ) (ns : Keys) (o : Option Val) → bytes_eq key k ≡ false → KeyFits key ns o → KeyFits key (keys_without k ns) o
beside key k (other_keys s) o other h = h
beside key k (key_then l required s ns) o other h = beside_one key k l required s ns o other (beside key k ns o other) (bytes_eq k l) refl h

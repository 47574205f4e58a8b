-- Facts on what fits that no schema is in.
use Rattle.std.proofs.Common.{◌≡◌, ℕ, List, Bool, true, false, Option, Some, None, Result, Ok, Err, IfOk, refl, ap, subst, bytes_eq, if◌then◌else◌}
use Rattle.upon_types.specs.Val.{Val, Vals, no_vals, val_then, Entries, no_entries, entry_then, entry_at}
use Rattle.upon_shape_spec.specs.Shape.{Shape, any_shape}
use Rattle.upon_shape_spec.specs.Fits.{EachValue, Held, Fits, MapsRise, AllRise, EntriesRise}
use Rattle.upon_schema.specs.Covers.{Covers}
use Rattle.upon_schema.specs.Valid.{IsThere}

-- ---- any value
pub each_any : (vs : Vals) → EachValue (Fits any_shape) vs
each_any no_vals = tt
each_any (val_then v vs) = (tt, each_any vs)

pub held_any : (o : Option Val) → Held false (Fits any_shape) o
held_any (Some v) = tt
held_any None = tt

-- ---- what is inside has keys in order too
if_true : (b : Bool) (x y : Option Val) → b ≡ true → (if b then x else y) ≡ x
if_true true x y e = refl
if_true false x y e = absurd (cc)

if_false : (b : Bool) (x y : Option Val) → b ≡ false → (if b then x else y) ≡ y
if_false true x y e = absurd (cc)
if_false false x y e = refl

-- what is at the first key, and at another
pub at_first : (key k : List ℕ) (v : Val) (es : Entries) → bytes_eq key k ≡ true → entry_at key (entry_then k v es) ≡ Some v
at_first key k v es same = if_true (bytes_eq key k) (Some v) (entry_at key es) same

pub at_later : (key k : List ℕ) (v : Val) (es : Entries) → bytes_eq key k ≡ false → entry_at key (entry_then k v es) ≡ entry_at key es
at_later key k v es other = if_false (bytes_eq key k) (Some v) (entry_at key es) other

value_in : Val → Option Val → Val
value_in v None = v
value_in v (Some w) = w

-- what is there is one value
pub some_value : (v w : Val) → Some v ≡ Some w → v ≡ w
unfolding value_in
some_value v w e = ap (value_in v) e

rises_by : (b : Bool) (v w : Val) (o : Option Val) → MapsRise v → (o ≡ Some w → MapsRise w) → (if b then Some v else o) ≡ Some w → MapsRise w
rises_by true v w o rise f e = subst MapsRise (some_value v w e) rise
rises_by false v w o rise f e = f e

nothing_at : (w : Val) → None ≡ Some w → MapsRise w
nothing_at w e = absurd (cc)

pub entry_rises : (es : Entries) (key : List ℕ) (w : Val) → EntriesRise es → entry_at key es ≡ Some w → MapsRise w
entry_rises no_entries key w rise e = nothing_at w e
entry_rises (entry_then k v es) key w rise e = rises_by (bytes_eq key k) v w (entry_at key es) rise.0 (entry_rises es key w rise.1) e

pub each_covered : (s : Shape) (P : Val → Type 0) → Covers s P → (vs : Vals) → AllRise vs → EachValue P vs → EachValue (Fits s) vs
each_covered s P f no_vals rise h = tt
each_covered s P f (val_then v vs) rise h = (f v rise.0 h.0, each_covered s P f vs rise.1 h.1)

-- ---- what is held
pub held_if : (o : Option Val) (P : Val → Type 0) → ((v : Val) → o ≡ Some v → P v) → Held false P o
held_if (Some v) P f = f v refl
held_if None P f = tt

pub held_unless : (o : Option Val) (required : Bool) (P : Val → Type 0) → ((v : Val) → o ≡ Some v → P v) → (required ≡ true → IsThere o) → Held required P o
held_unless (Some v) required P f there = f v refl
held_unless None true P f there = absurd (there refl)
held_unless None false P f there = tt

pub held_there : (o : Option Val) (required : Bool) (P : Val → Type 0) → Held false P o → IsThere o → Held required P o
held_there (Some v) required P h there = h
held_there None required P h there = absurd there

-- ---- one result of another
pub ok_more : {A E : Type 0} (r : Result A E) (P Q : A → Type 0) → ((a : A) → P a → Q a) → IfOk r P → IfOk r Q
ok_more (Ok a) P Q f p = f a p
ok_more (Err e) P Q f p = tt

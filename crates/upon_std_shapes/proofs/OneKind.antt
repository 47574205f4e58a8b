-- What is known of a value that fits a shape of one kind.
use Rattle.std.proofs.Common.{◌≡◌, ℕ, ℤ, List, Bool, true, false, Option, Some, None, refl, if◌then◌else◌}
use Rattle.std.specs.Prelude.{unwrap_or}
use Rattle.upon_types.specs.Val.{Val, none_val, bool_val, int_val, text_val, list_val, map_val, Vals, Entries, entry_at, rises}
use Rattle.upon_std.specs.Basic.Choices.{value_or}
use Rattle.upon_shape_spec.specs.Fits.{EachValue, Held, Fits}
use Rattle.upon_shape_spec.specs.Shape.{Shape, any_shape, one_of, integer_shape, list_of, map_each, optional, text_shape}

pub of_text : (P : Val → Type 0) → ((t : List ℕ) → P (text_val t)) → (v : Val) → Fits text_shape v → P v
of_text P f none_val h = absurd (cc)
of_text P f (bool_val b) h = absurd (cc)
of_text P f (int_val z) h = absurd (cc)
of_text P f (text_val t) h = f t
of_text P f (list_val vs) h = absurd h
of_text P f (map_val es) h = absurd h

pub of_integer : (P : Val → Type 0) → ((z : ℤ) → P (int_val z)) → (v : Val) → Fits integer_shape v → P v
of_integer P f none_val h = absurd (cc)
of_integer P f (bool_val b) h = absurd (cc)
of_integer P f (int_val z) h = f z
of_integer P f (text_val t) h = absurd (cc)
of_integer P f (list_val vs) h = absurd h
of_integer P f (map_val es) h = absurd h

pub of_list : (s : Shape) (P : Val → Type 0) → ((vs : Vals) → EachValue (Fits s) vs → P (list_val vs)) → (v : Val) → Fits (list_of s) v → P v
of_list s P f none_val h = absurd (cc)
of_list s P f (bool_val b) h = absurd (cc)
of_list s P f (int_val z) h = absurd (cc)
of_list s P f (text_val t) h = absurd (cc)
of_list s P f (list_val vs) h = f vs h
of_list s P f (map_val es) h = absurd h

pub of_map : (s : Shape) (P : Val → Type 0) → ((es : Entries) → rises es ≡ true → ((key : List ℕ) → Held false (Fits s) (entry_at key es)) → P (map_val es)) → (v : Val) → Fits (map_each s) v → P v
of_map s P f none_val h = absurd (cc)
of_map s P f (bool_val b) h = absurd (cc)
of_map s P f (int_val z) h = absurd (cc)
of_map s P f (text_val t) h = absurd (cc)
of_map s P f (list_val vs) h = absurd h
of_map s P f (map_val es) h = f es h.0 h.1

-- ---- none
pub none_fits : (s : Shape) → Fits (optional s) none_val
none_fits any_shape = tt
none_fits (one_of p l m) = refl

pub some_fits : (s : Shape) (v : Val) → Fits s v → Fits (optional s) v
some_fits any_shape v h = tt
some_fits (one_of p l m) none_val h = refl
some_fits (one_of p l m) (bool_val b) h = h
some_fits (one_of p l m) (int_val z) h = h
some_fits (one_of p l m) (text_val t) h = h
some_fits (one_of p l m) (list_val vs) h = h
some_fits (one_of p l m) (map_val es) h = h

-- what is there, or none
pub held_or_none : (s : Shape) (o : Option Val) → Held false (Fits s) o → Fits (optional s) (unwrap_or o none_val)
held_or_none s None h = none_fits s
held_or_none s (Some v) h = some_fits s v h

-- what is there, or another
pub held_or : (P : Val → Type 0) (o : Option Val) (w : Val) → Held false P o → P w → P (unwrap_or o w)
held_or P None w h k = k
held_or P (Some v) w h k = h

-- a value, or another in place of none
pub value_or_fits : (s : Shape) (v w : Val) → Fits (optional s) v → Fits s w → Fits s (value_or v w)
value_or_fits any_shape v w h k = tt
value_or_fits (one_of p l m) none_val w h k = k
value_or_fits (one_of p l m) (bool_val b) w h k = h
value_or_fits (one_of p l m) (int_val z) w h k = h
value_or_fits (one_of p l m) (text_val t) w h k = h
value_or_fits (one_of p l m) (list_val vs) w h k = h
value_or_fits (one_of p l m) (map_val es) w h k = h

-- one of two
pub chosen : {A : Type 0} (P : A → Type 0) (b : Bool) (x y : A) → P x → P y → P (if b then x else y)
chosen P true x y h k = h
chosen P false x y h k = k

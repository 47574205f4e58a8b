-- The names of the kinds of a shape are those of the types of its values.
use Rattle.std.proofs.Common.{◌≡◌, ℕ, ℤ, List, Bool, true, false, Some, codes, refl, inl, inr}
use Rattle.upon_types.specs.Val.{Val, none_val, bool_val, int_val, text_val, list_val, map_val, Vals, no_vals, val_then, Entries}
use Rattle.upon_meaning_spec.specs.Entries.{with_entry}
use Rattle.upon_shape_spec.specs.Paths.{takes_lists, takes_maps}
use Rattle.upon_shape_spec.specs.Shape.{Plain, one_of, Lists, no_list, lists_of, Maps, no_map, maps_of}
use Rattle.upon_shape_spec.specs.Fits.{Fits, ListFits, MapFits}
use Rattle.upon_schema.specs.Valid.{IsOfType, IsOfTypes, TypeAllows, SchemaHolds}
use Rattle.upon_schema.specs.Written.{name_if, one_or_all, kind_names, typed}

-- ---- one name of some
here : (b : Bool) (k : List ℕ) (names : Vals) (v : Val) → b ≡ true → IsOfType k v → IsOfTypes (name_if b k names) v
here true k names v is h = inl h
here false k names v is h = absurd (cc)

later : (b : Bool) (k : List ℕ) (names : Vals) (v : Val) → IsOfTypes names v → IsOfTypes (name_if b k names) v
later true k names v h = inr h
later false k names v h = h

passed : (b : Bool) (k : List ℕ) (names : Vals) (v : Val) → (IsOfType k v → ⊥) → IsOfTypes (name_if b k names) v → IsOfTypes names v
passed true k names v never_so (inl h) = absurd (never_so h)
passed true k names v never_so (inr h) = h
passed false k names v never_so h = h

only : (b : Bool) (k : List ℕ) (names : Vals) (v : Val) → (IsOfTypes names v → ⊥) → IsOfTypes (name_if b k names) v → b ≡ true
only true k names v never_so h = refl
only false k names v never_so h = absurd (never_so h)

differ : false ≡ true → ⊥
differ h = absurd (cc)

-- ---- of what fits
has_lists : (l : Lists) (vs : Vals) → ListFits l vs → takes_lists l ≡ true
has_lists no_list vs h = absurd h
has_lists (lists_of s) vs h = refl

has_maps : (m : Maps) (es : Entries) → MapFits m es → takes_maps m ≡ true
has_maps no_map es h = absurd h
has_maps (maps_of ks) es h = refl

-- the names from one kind on
abbrev from_null : Plain → Vals
from_null p = name_if p.none (codes "null") no_vals

abbrev from_object : Plain → Maps → Vals
from_object p m = name_if (takes_maps m) (codes "object") (from_null p)

abbrev from_array : Plain → Lists → Maps → Vals
from_array p l m = name_if (takes_lists l) (codes "array") (from_object p m)

abbrev from_string : Plain → Lists → Maps → Vals
from_string p l m = name_if p.text (codes "string") (from_array p l m)

abbrev from_integer : Plain → Lists → Maps → Vals
from_integer p l m = name_if p.integer (codes "integer") (from_string p l m)

pub kind_named : (p : Plain) (l : Lists) (m : Maps) (v : Val) → Fits (one_of p l m) v → IsOfTypes (kind_names p l m) v
kind_named p l m none_val h =
    later p.truth (codes "boolean") (from_integer p l m) none_val (later p.integer (codes "integer") (from_string p l m) none_val
    (later p.text (codes "string") (from_array p l m) none_val (later (takes_lists l) (codes "array") (from_object p m) none_val
    (later (takes_maps m) (codes "object") (from_null p) none_val (here p.none (codes "null") no_vals none_val h refl)))))
kind_named p l m (bool_val b) h = here p.truth (codes "boolean") (from_integer p l m) (bool_val b) h refl
kind_named p l m (int_val n) h = later p.truth (codes "boolean") (from_integer p l m) (int_val n) (here p.integer (codes "integer") (from_string p l m) (int_val n) h refl)
kind_named p l m (text_val bytes) h =
    later p.truth (codes "boolean") (from_integer p l m) (text_val bytes) (later p.integer (codes "integer") (from_string p l m) (text_val bytes)
    (here p.text (codes "string") (from_array p l m) (text_val bytes) h refl))
kind_named p l m (list_val vs) h =
    later p.truth (codes "boolean") (from_integer p l m) (list_val vs) (later p.integer (codes "integer") (from_string p l m) (list_val vs)
    (later p.text (codes "string") (from_array p l m) (list_val vs) (here (takes_lists l) (codes "array") (from_object p m) (list_val vs) (has_lists l vs h) refl)))
kind_named p l m (map_val es) h =
    later p.truth (codes "boolean") (from_integer p l m) (map_val es) (later p.integer (codes "integer") (from_string p l m) (map_val es)
    (later p.text (codes "string") (from_array p l m) (map_val es) (later (takes_lists l) (codes "array") (from_object p m) (map_val es)
    (here (takes_maps m) (codes "object") (from_null p) (map_val es) (has_maps m es h) refl))))

-- ---- of what is of a type
not_null : (p : Plain) (v : Val) → (IsOfType (codes "null") v → ⊥) → IsOfTypes (from_null p) v → ⊥
not_null p v never_so h = passed p.none (codes "null") no_vals v never_so h

pub none_kind : (p : Plain) (l : Lists) (m : Maps) → IsOfTypes (kind_names p l m) none_val → p.none ≡ true
none_kind p l m h =
    only p.none (codes "null") no_vals none_val (λ x. x)
    (passed (takes_maps m) (codes "object") (from_null p) none_val differ (passed (takes_lists l) (codes "array") (from_object p m) none_val differ
    (passed p.text (codes "string") (from_array p l m) none_val differ (passed p.integer (codes "integer") (from_string p l m) none_val differ
    (passed p.truth (codes "boolean") (from_integer p l m) none_val differ h)))))

pub truth_kind : (p : Plain) (l : Lists) (m : Maps) (b : Bool) → IsOfTypes (kind_names p l m) (bool_val b) → p.truth ≡ true
truth_kind p l m b h =
    only p.truth (codes "boolean") (from_integer p l m) (bool_val b)
    (λ x. not_null p (bool_val b) differ (passed (takes_maps m) (codes "object") (from_null p) (bool_val b) differ (passed (takes_lists l) (codes "array") (from_object p m) (bool_val b) differ
    (passed p.text (codes "string") (from_array p l m) (bool_val b) differ (passed p.integer (codes "integer") (from_string p l m) (bool_val b) differ x))))) h

pub integer_kind : (p : Plain) (l : Lists) (m : Maps) (n : ℤ) → IsOfTypes (kind_names p l m) (int_val n) → p.integer ≡ true
integer_kind p l m n h =
    only p.integer (codes "integer") (from_string p l m) (int_val n)
    (λ x. not_null p (int_val n) differ (passed (takes_maps m) (codes "object") (from_null p) (int_val n) differ (passed (takes_lists l) (codes "array") (from_object p m) (int_val n) differ
    (passed p.text (codes "string") (from_array p l m) (int_val n) differ x))))
    (passed p.truth (codes "boolean") (from_integer p l m) (int_val n) differ h)

pub text_kind : (p : Plain) (l : Lists) (m : Maps) (bytes : List ℕ) → IsOfTypes (kind_names p l m) (text_val bytes) → p.text ≡ true
text_kind p l m bytes h =
    only p.text (codes "string") (from_array p l m) (text_val bytes)
    (λ x. not_null p (text_val bytes) differ (passed (takes_maps m) (codes "object") (from_null p) (text_val bytes) differ (passed (takes_lists l) (codes "array") (from_object p m) (text_val bytes) differ x)))
    (passed p.integer (codes "integer") (from_string p l m) (text_val bytes) differ (passed p.truth (codes "boolean") (from_integer p l m) (text_val bytes) differ h))

pub list_kind : (p : Plain) (l : Lists) (m : Maps) (vs : Vals) → IsOfTypes (kind_names p l m) (list_val vs) → takes_lists l ≡ true
list_kind p l m vs h =
    only (takes_lists l) (codes "array") (from_object p m) (list_val vs)
    (λ x. not_null p (list_val vs) differ (passed (takes_maps m) (codes "object") (from_null p) (list_val vs) differ x))
    (passed p.text (codes "string") (from_array p l m) (list_val vs) differ (passed p.integer (codes "integer") (from_string p l m) (list_val vs) differ
    (passed p.truth (codes "boolean") (from_integer p l m) (list_val vs) differ h)))

pub map_kind : (p : Plain) (l : Lists) (m : Maps) (es : Entries) → IsOfTypes (kind_names p l m) (map_val es) → takes_maps m ≡ true
map_kind p l m es h =
    only (takes_maps m) (codes "object") (from_null p) (map_val es)
    (λ x. not_null p (map_val es) differ x)
    (passed (takes_lists l) (codes "array") (from_object p m) (map_val es) differ (passed p.text (codes "string") (from_array p l m) (map_val es) differ
    (passed p.integer (codes "integer") (from_string p l m) (map_val es) differ (passed p.truth (codes "boolean") (from_integer p l m) (map_val es) differ h))))

-- ---- what the keyword has
-- each of these is a text
abbrev AreTexts : Vals → Type 0
AreTexts no_vals = Unit {0}
AreTexts (val_then none_val names) = ⊥
AreTexts (val_then (bool_val b) names) = ⊥
AreTexts (val_then (int_val n) names) = ⊥
AreTexts (val_then (text_val name) names) = AreTexts names
AreTexts (val_then (list_val vs) names) = ⊥
AreTexts (val_then (map_val es) names) = ⊥

text_if : (b : Bool) (k : List ℕ) (names : Vals) → AreTexts names → AreTexts (name_if b k names)
text_if true k names h = h
text_if false k names h = h

are_texts : (p : Plain) (l : Lists) (m : Maps) → AreTexts (kind_names p l m)
are_texts p l m =
    text_if p.truth (codes "boolean") (from_integer p l m) (text_if p.integer (codes "integer") (from_string p l m) (text_if p.text (codes "string") (from_array p l m)
    (text_if (takes_lists l) (codes "array") (from_object p m) (text_if (takes_maps m) (codes "object") (from_null p) (text_if p.none (codes "null") no_vals tt)))))

some_allowed : (names : Vals) (v : Val) → AreTexts names → IsOfTypes names v → TypeAllows (Some (one_or_all names)) v
some_allowed no_vals v texts h = absurd h
some_allowed (val_then none_val no_vals) v texts h = absurd texts
some_allowed (val_then (bool_val b) no_vals) v texts h = absurd texts
some_allowed (val_then (int_val n) no_vals) v texts h = absurd texts
some_allowed (val_then (text_val name) no_vals) v texts (inl h) = h
some_allowed (val_then (text_val name) no_vals) v texts (inr h) = absurd h
some_allowed (val_then (list_val vs) no_vals) v texts h = absurd texts
some_allowed (val_then (map_val es) no_vals) v texts h = absurd texts
some_allowed (val_then name (val_then other names)) v texts h = h

allowed_some : (name : Val) (names : Vals) (v : Val) → AreTexts (val_then name names) → TypeAllows (Some (one_or_all (val_then name names))) v → IsOfTypes (val_then name names) v
allowed_some none_val no_vals v texts h = absurd texts
allowed_some (bool_val b) no_vals v texts h = absurd texts
allowed_some (int_val n) no_vals v texts h = absurd texts
allowed_some (text_val name) no_vals v texts h = inl h
allowed_some (list_val vs) no_vals v texts h = absurd texts
allowed_some (map_val es) no_vals v texts h = absurd texts
allowed_some name (val_then other names) v texts h = h

pub type_allows : (p : Plain) (l : Lists) (m : Maps) (v : Val) → Fits (one_of p l m) v → TypeAllows (Some (one_or_all (kind_names p l m))) v
type_allows p l m v h = some_allowed (kind_names p l m) v (are_texts p l m) (kind_named p l m v h)

-- ---- a schema of some types
abbrev of_types : Vals → Entries → Entries
of_types names es = with_entry (codes "type") (one_or_all names) es

-- where there is a type there are keywords
typed_map : (names : Vals) (es : Entries) (v : Val) → IsOfTypes names v → typed names es ≡ map_val (of_types names es)
typed_map no_vals es v h = absurd h
typed_map (val_then name no_vals) es v h = refl
typed_map (val_then name (val_then other names)) es v h = refl

pub typed_fits : (p : Plain) (l : Lists) (m : Maps) (es : Entries) (v : Val) → Fits (one_of p l m) v → typed (kind_names p l m) es ≡ map_val (with_entry (codes "type") (one_or_all (kind_names p l m)) es)
typed_fits p l m es v h = typed_map (kind_names p l m) es v (kind_named p l m v h)

-- by a schema of no types nothing is valid
typed_valid : (P : Val → Val → Type 0) (root : Val) (names : Vals) (es : Entries) (v : Val) → AreTexts names → SchemaHolds P root (typed names es) v
    → (typed names es ≡ map_val (of_types names es)) × (TypeAllows (Some (one_or_all names)) v → IsOfTypes names v)
typed_valid P root no_vals es v texts h = absurd h
typed_valid P root (val_then name no_vals) es v texts h = (refl, allowed_some name no_vals v texts)
typed_valid P root (val_then name (val_then other names)) es v texts h = (refl, allowed_some name (val_then other names) v texts)

pub typed_holds : (P : Val → Val → Type 0) (root : Val) (p : Plain) (l : Lists) (m : Maps) (es : Entries) (v : Val) → SchemaHolds P root (typed (kind_names p l m) es) v
    → (typed (kind_names p l m) es ≡ map_val (with_entry (codes "type") (one_or_all (kind_names p l m)) es)) × (TypeAllows (Some (one_or_all (kind_names p l m))) v → IsOfTypes (kind_names p l m) v)
typed_holds P root p l m es v h = typed_valid P root (kind_names p l m) es v (are_texts p l m) h

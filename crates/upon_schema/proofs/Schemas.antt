-- What is valid by a schema fits the shape that is made of those of its parts.
use Rattle.std.proofs.Common.{Bor, ◌≡◌, ℕ, suc, ◌+◌, Bool, true, false, Option, Some, List, codes, refl, sym, ap, subst, ◌∙◌, arith}
use Rattle.upon_types.specs.Val.{Val, none_val, bool_val, int_val, text_val, list_val, map_val, Entries, entry_at, key_of}
use Rattle.upon_types.specs.View.{view}
use Rattle.upon_types.specs.declared.value.Value.{Value}
use Rattle.upon_schema.specs.Place.{ValidAt}
use Rattle.upon_schema.specs.declared.place.Place.{Place}
use Rattle.upon_shape_spec.specs.Shape.{Shape, one_of, lists_of, maps_of, Keys, plain}
use Rattle.upon_shape_spec.specs.Fits.{Fits, MapsRise}
use Rattle.upon_schema.specs.Covers.{Covers, CoversMaps}
use Rattle.upon_schema.specs.Kept.{kept}
use Rattle.upon_schema.specs.Reference.{RefersTo}
use Rattle.upon_schema.specs.Valid.{TypeHolds, EnumHolds, ItemsHold, ObjectHolds, EntriesHold, ValidAtKey, KeywordsHold, ReferenceHolds, SchemaHolds, ValidWithin}
use Rattle.upon_schema.proofs.Fitting.{each_covered}
use Rattle.upon_schema.proofs.KeptKinds.{kept_fits}

-- ---- keywords
-- any kind of value, with these items and these keys
abbrev pub of_parts : Shape → Keys → Shape
of_parts s ks = one_of (plain true true true true) (lists_of s) (maps_of ks)

parts_fit : (P : Val → Val → Type 0) (schema : Val) (s : Shape) (ks : Keys) → Covers s (ValidAtKey P (codes "items") schema) → CoversMaps ks (EntriesHold P schema)
    → (v : Val) → MapsRise v → ItemsHold P schema v → ObjectHolds P schema v → Fits (of_parts s ks) v
parts_fit P schema s ks items keys none_val rise h k = refl
parts_fit P schema s ks items keys (bool_val b) rise h k = refl
parts_fit P schema s ks items keys (int_val n) rise h k = refl
parts_fit P schema s ks items keys (text_val bytes) rise h k = refl
parts_fit P schema s ks items keys (list_val vs) rise h k = each_covered s (ValidAtKey P (codes "items") schema) items vs rise h
parts_fit P schema s ks items keys (map_val es) rise h k = (rise.0, keys es rise k)

pub keywords_fit : (P : Val → Val → Type 0) (schema : Val) (types s t u w : Shape) (ks : Keys) → Covers types (TypeHolds schema)
    → Covers s (ValidAtKey P (codes "items") schema) → CoversMaps ks (EntriesHold P schema) → t ≡ kept types (of_parts s ks)
    → ((v : Val) → EnumHolds schema v → Fits t v → Fits u v) → ((v : Val) → Fits u v → Fits w v) → (v : Val) → MapsRise v → KeywordsHold P schema v → Fits w v
keywords_fit P schema types s t u w ks of_types items keys is listed simple v rise h =
    simple v (listed v h.1.0 (subst (λ (x : Shape). Fits x v) (sym is)
    (kept_fits types (of_parts s ks) v (of_types v rise h.0) (parts_fit P schema s ks items keys v rise h.1.1.0 h.1.1.1))))

-- ---- a schema
one_deeper : (depth inner : ℕ) → depth ≡ inner + 1 → depth ≡ suc inner
one_deeper depth inner e = omega arith

pub holds_inside : (depth inner : ℕ) (root schema v : Val) → depth ≡ inner + 1 → ValidWithin depth root schema v → SchemaHolds (ValidWithin inner root) root schema v
holds_inside depth inner root schema v e h = subst (λ (d : ℕ). ValidWithin d root schema v) (one_deeper depth inner e) h

pub map_holds : (P : Val → Val → Type 0) (root schema : Val) (es : Entries) (o : Option Val) → schema ≡ map_val es → o ≡ key_of (codes "$ref") schema → (v : Val) → SchemaHolds P root schema v → ReferenceHolds P root schema o v
map_holds P root schema es o e f v h =
    let at : o ≡ entry_at (codes "$ref") es = f ∙ ap (key_of (codes "$ref")) e in
    let held : ReferenceHolds P root (map_val es) (entry_at (codes "$ref") es) v = subst (λ (x : Val). SchemaHolds P root x v) e h in
    subst (λ (x : Val). ReferenceHolds P root x o v) (sym e) (subst (λ (x : Option Val). ReferenceHolds P root (map_val es) x v) (sym at) held)

pub referred_holds : (P : Val → Val → Type 0) (root schema reference : Val) (bytes : List ℕ) (s : Val) → reference ≡ text_val bytes → RefersTo root bytes s → (v : Val) → ReferenceHolds P root schema (Some reference) v → P s v
referred_holds P root schema reference bytes s e to v h = subst (λ (x : Val). ReferenceHolds P root schema (Some x) v) e h s to

-- with a reference it does not matter what stands beside it
pub other_schema : (P : Val → Val → Type 0) (root schema other reference v : Val) → ReferenceHolds P root schema (Some reference) v → ReferenceHolds P root other (Some reference) v
other_schema P root schema other none_val v h = h
other_schema P root schema other (bool_val b) v h = h
other_schema P root schema other (int_val n) v h = h
other_schema P root schema other (text_val bytes) v h = h
other_schema P root schema other (list_val vs) v h = h
other_schema P root schema other (map_val es) v h = h

-- what is valid at a place holds at the place inside
pub read_inside : (place inner : Place) (schema v : Val) → place.depth ≡ inner.depth + 1 → inner.root ≡ place.root → ValidAt place schema v → SchemaHolds (ValidAt inner) (view inner.root.now) schema v
read_inside place inner schema v e same h =
    subst (λ (r : Bor Value). SchemaHolds (ValidWithin inner.depth (view r.now)) (view r.now) schema v) (sym same) (holds_inside place.depth inner.depth (view place.root.now) schema v e h)

-- ---- truth values
bool_holds : (P : Val → Val → Type 0) (root v : Val) (b : Bool) → SchemaHolds P root (bool_val b) v → b ≡ true
bool_holds P root v true h = refl
bool_holds P root v false h = absurd h

pub truth_covers : (P : Val → Val → Type 0) (root schema : Val) (s : Shape) → ((b : Bool) × (schema ≡ bool_val b) × ((v : Val) → b ≡ true → Fits s v)) → (v : Val) → SchemaHolds P root schema v → Fits s v
truth_covers P root schema s f v h = f.2 v (bool_holds P root v f.0 (subst (λ (x : Val). SchemaHolds P root x v) f.1 h))

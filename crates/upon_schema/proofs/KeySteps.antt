-- Keys of maps that are valid by a schema, as they are made one after the other.
use Rattle.std.proofs.Common.{◌+◌, ◌<◌, ◌||◌, drop, get_or, length, ◌≡◌, ℕ, List, [], ◌∷◌, ◌++◌, true, false, Option, Some, None, string_bytes, sym, ap, subst, ◌∙◌, bytes_eq, codes}
use Rattle.std.proofs.lemmas.Slice.Eq.{bytes_eq-Decides}
use Rattle.upon_types.specs.Val.{Val, text_val, map_val, Vals, val_then, Entries, entry_then, entry_at}
use Rattle.upon_shape_spec.specs.Shape.{Shape as SpecShape, Keys, other_keys, key_then}
use Rattle.upon_shape_spec.specs.Fits.{Held, Fits, KeyFits, MapsRise}
use Rattle.upon_shape.specs.View.{shape_view, ahead}
use Rattle.upon_shape.specs.declared.shape.Key.{Key}
use Rattle.upon_shape.specs.declared.shape.Shape.{Shape}
use Rattle.upon_types.specs.View.{view, vals_view}
use Rattle.upon_types.specs.declared.value.Value.{Value}
use Rattle.upon_shape.proofs.KeysAhead.{ahead-push}
use Rattle.upon_shape.proofs.Steps.{cut_before}
use Rattle.upon_shape_spec.proofs.Tests.{by_test, or_first, or_second}
use Rattle.upon_schema.specs.Covers.{Covers, CoversMaps, FitsAhead}
use Rattle.upon_schema.specs.Valid.{ValidAtKey, EntriesHold, PropertiesHold, RequiredHold, has_text, properties_of, required_of}
use Rattle.upon_schema.proofs.Fitting.{at_first, at_later, entry_rises, held_if, held_unless, held_there}

-- ---- properties
-- where the properties to come say of a key what all say, the keys so far lead to the others
abbrev pub ReadsAhead : (Val → Val → Type 0) → Entries → Vals → Entries → List (Key Shape) → Type 0
ReadsAhead P properties names left named = (es : Entries) → MapsRise (map_val es) → PropertiesHold P properties es → RequiredHold names es
    → (key : List ℕ) (rest : Keys) → (entry_at key left ≡ entry_at key properties → KeyFits key rest (entry_at key es)) → KeyFits key (ahead named rest) (entry_at key es)

-- one more key, ahead of others
pub key_ahead : (named : List (Key Shape)) (x : Key Shape) (rest : Keys) (key : List ℕ) (o : Option Val) → KeyFits key (ahead named (key_then (string_bytes x.name) x.required (shape_view x.shape) rest)) o → KeyFits key (ahead (named ++ x ∷ []) rest) o
key_ahead named x rest key o h = subst (λ (ks : Keys). KeyFits key ks o) (sym (ahead-push named x rest)) h

-- what a property says of a map that is valid
property_held : (P : Val → Val → Type 0) (properties : Entries) (names : Vals) (x : Key Shape) (s : Val) → x.required ≡ has_text (string_bytes x.name) names → Covers (shape_view x.shape) (P s)
    → (es : Entries) → MapsRise (map_val es) → PropertiesHold P properties es → RequiredHold names es → (key : List ℕ) → key ≡ string_bytes x.name → entry_at key properties ≡ Some s → Held x.required (Fits (shape_view x.shape)) (entry_at key es)
property_held P properties names x s required covers es rise hold there key is at =
    held_unless (entry_at key es) x.required (Fits (shape_view x.shape))
    (λ v e. covers v (entry_rises es key v rise.1 e) (hold key s v at e))
    (λ must. there key (ap (λ (k : List ℕ). has_text k names) is ∙ sym required ∙ must))

pub reads_more : (P : Val → Val → Type 0) (properties : Entries) (names : Vals) (k : List ℕ) (s : Val) (left : Entries) (named : List (Key Shape)) (x : Key Shape)
    → string_bytes x.name ≡ k → x.required ≡ has_text k names → Covers (shape_view x.shape) (P s)
    → ReadsAhead P properties names (entry_then k s left) named → ReadsAhead P properties names left (named ++ x ∷ [])
reads_more P properties names k s left named x name required covers before es rise hold there key rest f =
    let n = string_bytes x.name in
    key_ahead named x rest key (entry_at key es)
    (before es rise hold there key (key_then n x.required (shape_view x.shape) rest)
    (λ same. by_test (bytes_eq key n)
    (λ here. property_held P properties names x s (required ∙ ap (λ (l : List ℕ). has_text l names) (sym name)) covers es rise hold there key ((bytes_eq-Decides key n).0 here)
    (sym same ∙ at_first key k s left (ap (bytes_eq key) (sym name) ∙ here)))
    (λ later. f (sym (at_later key k s left (ap (bytes_eq key) (sym name) ∙ later)) ∙ same))))

-- ---- keys that a map must have
pub requires_more : (properties es : Entries) (names : Vals) (key : List ℕ) (others : SpecShape) (named : List (Key Shape)) (x : Key Shape)
    → x.required ≡ true → shape_view x.shape ≡ others → has_text (string_bytes x.name) names ≡ true → RequiredHold names es
    → (entry_at key properties ≡ None → Held false (Fits others) (entry_at key es))
    → FitsAhead properties key (entry_at key es) named → FitsAhead properties key (entry_at key es) (named ++ x ∷ [])
requires_more properties es names key others named x required shape among there held before rest f =
    let n = string_bytes x.name in
    key_ahead named x rest key (entry_at key es)
    (before (key_then n x.required (shape_view x.shape) rest)
    (λ beside. by_test (bytes_eq key n)
    (λ here. held_there (entry_at key es) x.required (Fits (shape_view x.shape))
    (subst (λ (s : SpecShape). Held false (Fits s) (entry_at key es)) (sym shape) (held beside))
    (there key (ap (λ (l : List ℕ). has_text l names) ((bytes_eq-Decides key n).0 here) ∙ among)))
    (λ later. f beside)))

-- ---- all keys
other_held : (P : Val → Val → Type 0) (schema : Val) (others : SpecShape) → Covers others (ValidAtKey P (codes "additionalProperties") schema)
    → (es : Entries) → MapsRise (map_val es) → EntriesHold P schema es → (key : List ℕ) → entry_at key (properties_of schema) ≡ None → Held false (Fits others) (entry_at key es)
other_held P schema others covers es rise hold key beside =
    held_if (entry_at key es) (Fits others) (λ v e. covers v (entry_rises es key v rise.1 e) (hold.1.1 key v beside e))

pub keys_covered : (P : Val → Val → Type 0) (schema : Val) (names : Vals) (others : SpecShape) (old new : List (Key Shape))
    → names ≡ required_of schema
    → Covers others (ValidAtKey P (codes "additionalProperties") schema)
    → ((es : Entries) → MapsRise (map_val es) → PropertiesHold P (properties_of schema) es → RequiredHold names es → (key : List ℕ) → FitsAhead (properties_of schema) key (entry_at key es) old)
    → ((properties : Entries) (es : Entries) (key : List ℕ) → RequiredHold names es → (entry_at key properties ≡ None → Held false (Fits others) (entry_at key es))
    → FitsAhead properties key (entry_at key es) old → FitsAhead properties key (entry_at key es) new)
    → CoversMaps (ahead new (other_keys others)) (EntriesHold P schema)
keys_covered P schema names others old new is covers first more es rise hold key =
    let there : RequiredHold names es = subst (λ (ns : Vals). RequiredHold ns es) (sym is) hold.1.0 in
    let held = other_held P schema others covers es rise hold key in
    more (properties_of schema) es key there held (first es rise hold.0 there key) (other_keys others) held

-- ---- names of keys that a map must have
cut_names : (key : List ℕ) (vs : List Value) (i : ℕ) (x : Value) (text : List ℕ) → i < length vs → x ≡ get_or vs i x → view x ≡ text_val text
    → has_text key (vals_view (drop i vs)) ≡ (bytes_eq key text || has_text key (vals_view (drop (i + 1) vs)))
cut_names key vs i x text less is e =
    ap (λ (ws : List Value). has_text key (vals_view ws)) (cut_before vs i x less is) ∙ ap (λ (w : Val). has_text key (val_then w (vals_view (drop (i + 1) vs)))) e

pub name_first : (key : List ℕ) (vs : List Value) (i : ℕ) (x : Value) (text : List ℕ) → i < length vs → x ≡ get_or vs i x → view x ≡ text_val text → key ≡ text
    → has_text key (vals_view (drop i vs)) ≡ true
name_first key vs i x text less is e same =
    cut_names key vs i x text less is e ∙ or_first (bytes_eq key text) (has_text key (vals_view (drop (i + 1) vs))) ((bytes_eq-Decides key text).1 same)

pub name_later : (key : List ℕ) (vs : List Value) (i : ℕ) (x : Value) (text : List ℕ) → i < length vs → x ≡ get_or vs i x → view x ≡ text_val text
    → has_text key (vals_view (drop (i + 1) vs)) ≡ true → has_text key (vals_view (drop i vs)) ≡ true
name_later key vs i x text less is e h =
    cut_names key vs i x text less is e ∙ or_second (bytes_eq key text) (has_text key (vals_view (drop (i + 1) vs))) h

-- Schemas as they are written, a keyword and a name at a time.
use Rattle.std.proofs.Common.{◌≡◌, ℕ, ◌==◌, List, [], ◌∷◌, ◌++◌, true, false, length, codes, Result, Ok, Err, OnOk, String, Global, Ordering, Less, Equal, Greater, string_bytes, string_cmp, refl, sym, ap, ◌∙◌}
use Rattle.std.specs.BTreeMap.{insert_entry}
use Rattle.std.specs.Ordering.{match_ordering}
use Rattle.upon_types.specs.Val.{Val, list_val, map_val, Vals, no_vals, val_then, Entries, entry_then}
use Rattle.upon_types.specs.View.{view, vals_view, entries_view}
use Rattle.upon_types.specs.declared.value.Value.{Value}
use Rattle.upon_types.proofs.Views.{Entry}
use Rattle.upon_meaning_spec.specs.Entries.{by_order, with_entry}
use Rattle.upon_shape_spec.specs.Shape.{Shape as SpecShape, Keys, other_keys, maps_of}
use Rattle.upon_shape.specs.View.{ahead}
use Rattle.upon_shape.specs.declared.shape.Key.{Key}
use Rattle.upon_shape.specs.declared.shape.Shape.{Shape}
use Rattle.upon_schema.specs.Written.{vals_ahead, one_or_all, typed, others_value, properties_value, required_in, schema_value, with_keys, with_properties, with_required, with_schema}

-- ---- values ahead of others
pub vals_ahead-push : (vs : List Value) (v : Value) (rest : Vals) → vals_ahead (vs ++ v ∷ []) rest ≡ vals_ahead vs (val_then (view v) rest)
vals_ahead-push [] v rest = refl
vals_ahead-push (w ∷ vs) v rest = ap (val_then (view w)) (vals_ahead-push vs v rest)

pub vals_ahead-none : (vs : List Value) → vals_ahead vs no_vals ≡ vals_view vs
vals_ahead-none [] = refl
vals_ahead-none (v ∷ vs) = ap (val_then (view v)) (vals_ahead-none vs)

-- ---- an insertion
placed : (o : Ordering) (e : Entry) (es behind : List Entry) (k : String Global) (v : Value) (rest : Entries) → entries_view behind ≡ rest
    → entries_view (match_ordering o ((k, v) ∷ e ∷ es) ((e.0, v) ∷ es) (e ∷ behind))
    ≡ by_order o (entry_then (string_bytes k) (view v) (entries_view (e ∷ es))) (entry_then (string_bytes e.0) (view v) (entries_view es)) (entry_then (string_bytes e.0) (view e.1) rest)
placed Less e es behind k v rest is = refl
placed Equal e es behind k v rest is = refl
placed Greater e es behind k v rest is = ap (entry_then (string_bytes e.0) (view e.1)) is

pub entries_view-insert : (es : List Entry) (k : String Global) (v : Value) → entries_view (insert_entry string_cmp es k v) ≡ with_entry (string_bytes k) (view v) (entries_view es)
entries_view-insert [] k v = refl
entries_view-insert (e ∷ es) k v =
    placed (string_cmp k e.0) e es (insert_entry string_cmp es k v) k v (with_entry (string_bytes k) (view v) (entries_view es)) (entries_view-insert es k v)

-- ---- what holds at the good end
pub on_ok_more : {A E : Type 0} (r : Result A E) (P Q : Type 0) → (P → Q) → OnOk r P → OnOk r Q
on_ok_more (Ok a) P Q f p = f p
on_ok_more (Err e) P Q f p = tt

-- ---- what is there
pub some_properties : (es : List Entry) (old : Entries) → (length es ≡ 0 → ⊥) → with_properties (entries_view es) old ≡ with_entry (codes "properties") (map_val (entries_view es)) old
some_properties [] old some = absurd (some refl)
some_properties (e ∷ es) old some = refl

not_none_left : (n : ℕ) → n ≡ 0 → (n == 0) ≡ false → ⊥
not_none_left n none some = let left : true ≡ false = sym (ap (λ m. m == 0) none) ∙ some in absurd cc

pub some_required : (vs : List Value) (n : ℕ) (old : Entries) → n ≡ length vs → (n == 0) ≡ false → with_required (vals_view vs) old ≡ with_entry (codes "required") (list_val (vals_view vs)) old
some_required [] n old len some = absurd (not_none_left n len some)
some_required (v ∷ vs) n old len some = refl

pub some_types : (vs : List Value) (n : ℕ) (es : Entries) → n ≡ length vs → (n == 0) ≡ false → typed (vals_view vs) es ≡ map_val (with_entry (codes "type") (one_or_all (vals_view vs)) es)
some_types [] n es len some = absurd (not_none_left n len some)
some_types (v ∷ vs) n es len some = refl

pub not_one : (vs : List Value) (n : ℕ) → n ≡ length vs → (n ≡ 1 → ⊥) → one_or_all (vals_view vs) ≡ list_val (vals_view vs)
not_one [] n len other = refl
not_one (w ∷ []) n len other = absurd (other len)
not_one (w ∷ u ∷ vs) n len other = refl

-- ---- keys
pub others_value-ahead : (ks : List (Key Shape)) (s : SpecShape) → others_value (ahead ks (other_keys s)) ≡ schema_value s
others_value-ahead [] s = refl
others_value-ahead (k ∷ ks) s = others_value-ahead ks s

pub keys_written : (ks : Keys) (names : Vals) (ps : Entries) (other : Val) (old first second third : Entries) → first ≡ with_schema (codes "additionalProperties") other old
    → second ≡ with_properties ps first → third ≡ with_required names second → names ≡ required_in ks ps → ps ≡ properties_value ks → other ≡ others_value ks → third ≡ with_keys (maps_of ks) old
keys_written ks names ps other old first second third e1 e2 e3 named props others =
    e3 ∙ (λ i. with_required ((named ∙ ap (required_in ks) props) i) ((e2 ∙ (λ j. with_properties (props j) ((e1 ∙ ap (λ (x : Val). with_schema (codes "additionalProperties") x old) others) j))) i))

-- What fits a shape is valid by its schema, and what is valid by it fits.
use Rattle.std.proofs.Common.{◌≡◌, ℕ, zero, suc, List, Bool, true, false, ◌||◌, Option, Some, None, codes, refl, sym, ap, subst, ◌∙◌, bytes_eq, if◌then◌else◌}
use Rattle.std.proofs.lemmas.Slice.Eq.{bytes_eq-Decides}
use Rattle.upon_types.specs.Val.{Val, none_val, bool_val, int_val, text_val, list_val, map_val, Vals, no_vals, val_then, Entries, no_entries, entry_then, entry_at}
use Rattle.upon_meaning_spec.specs.Entries.{with_entry}
use Rattle.upon_meaning_spec.proofs.RisingEntries.{entry_more}
use Rattle.upon_shape_spec.specs.Shape.{Plain, Shape, any_shape, one_of, Lists, no_list, lists_of, Maps, no_map, maps_of, Keys, other_keys, key_then, KeyShape, key_shape, at_key}
use Rattle.upon_shape_spec.specs.Fits.{EachValue, ByTest, Held, Fits, ListFits, MapFits, KeyFits, MapsRise, AllRise}
use Rattle.upon_shape_spec.specs.Paths.{takes_lists, takes_maps}
use Rattle.upon_shape_spec.proofs.Tests.{by_test, each_more, key_held, or_second}
use Rattle.upon_schema.specs.Valid.{TypeAllows, IsOfTypes, ValidAtKey, ItemsHold, PropertiesHold, RequiredHold, EntriesHold, ObjectHolds, KeywordsHold, ReferenceHolds, SchemaHolds, ValidWithin, IsThere, entries_or_none, items_or_none, has_text, properties_of, required_of}
use Rattle.upon_schema.specs.Written.{is_true_schema, name_if, one_or_all, kind_names, typed, required_in, schema_value, properties_value, others_value}
use Rattle.upon_schema.proofs.Fitting.{each_covered, entry_rises, held_if, held_unless, some_value}
use Rattle.upon_schema.proofs.KindNames.{type_allows, typed_fits, typed_holds, none_kind, truth_kind, integer_kind, text_kind, list_kind, map_kind}
use Rattle.upon_schema.proofs.SchemaEntries.{at_same, at_other, said, beside_types, at_ref, at_enum, at_items, at_others, at_properties, at_required}

-- ---- what is at the keywords
-- the entries of the schema of a shape
abbrev entries_of_shape : Plain → Lists → Maps → Entries
entries_of_shape p l m = with_entry (codes "type") (one_or_all (kind_names p l m)) (beside_types l m)

none_some : {A : Type 0} (x : Val) → None ≡ Some x → A
none_some x e = absurd (cc)

no_reference : (p : Plain) (l : Lists) (m : Maps) → entry_at (codes "$ref") (entries_of_shape p l m) ≡ None
no_reference p l m = at_other (codes "$ref") (codes "type") (one_or_all (kind_names p l m)) (beside_types l m) refl ∙ at_ref l m

no_list_of_values : (p : Plain) (l : Lists) (m : Maps) → entry_at (codes "enum") (entries_of_shape p l m) ≡ None
no_list_of_values p l m = at_other (codes "enum") (codes "type") (one_or_all (kind_names p l m)) (beside_types l m) refl ∙ at_enum l m

types_there : (p : Plain) (l : Lists) (m : Maps) → entry_at (codes "type") (entries_of_shape p l m) ≡ Some (one_or_all (kind_names p l m))
types_there p l m = at_same (codes "type") (one_or_all (kind_names p l m)) (beside_types l m) refl

items_there : (p : Plain) (s : Shape) (m : Maps) → entry_at (codes "items") (entries_of_shape p (lists_of s) m) ≡ said (schema_value s)
items_there p s m = at_other (codes "items") (codes "type") (one_or_all (kind_names p (lists_of s) m)) (beside_types (lists_of s) m) refl ∙ at_items s m

others_there : (p : Plain) (l : Lists) (ks : Keys) → entry_at (codes "additionalProperties") (entries_of_shape p l (maps_of ks)) ≡ said (others_value ks)
others_there p l ks =
    at_other (codes "additionalProperties") (codes "type") (one_or_all (kind_names p l (maps_of ks))) (beside_types l (maps_of ks)) refl ∙ at_others l ks

properties_there : (p : Plain) (l : Lists) (ks : Keys) → properties_of (map_val (entries_of_shape p l (maps_of ks))) ≡ properties_value ks
properties_there p l ks =
    ap entries_or_none (at_other (codes "properties") (codes "type") (one_or_all (kind_names p l (maps_of ks))) (beside_types l (maps_of ks)) refl) ∙ at_properties l ks

required_there : (p : Plain) (l : Lists) (ks : Keys) → required_of (map_val (entries_of_shape p l (maps_of ks))) ≡ required_in ks (properties_value ks)
required_there p l ks =
    ap items_or_none (at_other (codes "required") (codes "type") (one_or_all (kind_names p l (maps_of ks))) (beside_types l (maps_of ks)) refl) ∙ at_required l ks

-- ---- a schema that is said
said_by : (b : Bool) (t x : Val) → (if b then None else Some t) ≡ Some x → t ≡ x
said_by true t x e = none_some x e
said_by false t x e = some_value t x e

said_some : (t x : Val) → said t ≡ Some x → t ≡ x
said_some t x e = said_by (is_true_schema t) t x e

not_true : (names : Vals) (es : Entries) → is_true_schema (typed names es) ≡ false
not_true no_vals es = refl
not_true (val_then name names) es = refl

said_shape : (p : Plain) (l : Lists) (m : Maps) → said (schema_value (one_of p l m)) ≡ Some (schema_value (one_of p l m))
said_shape p l m = ap (λ (b : Bool). if b then None else Some (schema_value (one_of p l m))) (not_true (kind_names p l m) (beside_types l m))

-- ---- from shapes to schemas
-- what fits a shape holds of its schema
abbrev Carries : (Val → Val → Type 0) → Type 0
Carries P = (s : Shape) (v : Val) → Fits s v → P (schema_value s) v

said_holds : (P : Val → Val → Type 0) → Carries P → (s : Shape) (o : Option Val) → o ≡ said (schema_value s) → (w : Val) → Fits s w → (x : Val) → o ≡ Some x → P x w
said_holds P carries s o e w h x is = subst (λ (y : Val). P y w) (said_some (schema_value s) x (sym e ∙ is)) (carries s w h)

items_hold : (P : Val → Val → Type 0) → Carries P → (p : Plain) (l : Lists) (m : Maps) (vs : Vals) → ListFits l vs → EachValue (ValidAtKey P (codes "items") (map_val (entries_of_shape p l m))) vs
items_hold P carries p no_list m vs h = absurd h
items_hold P carries p (lists_of s) m vs h =
    each_more (Fits s) (ValidAtKey P (codes "items") (map_val (entries_of_shape p (lists_of s) m)))
    (λ w f. said_holds P carries s (entry_at (codes "items") (entries_of_shape p (lists_of s) m)) (items_there p s m) w f) vs h

by_key : {A K : Type 0} (b : Bool) (t : Shape) (r : Bool) (x s w : Val) (o : Option Val) → (if b then Some x else o) ≡ Some s → ByTest b (Held r (Fits t) (Some w)) K → (x ≡ s → Fits t w → A) → (o ≡ Some s → K → A) → A
by_key true t r x s w o e h f g = f (some_value x s e) h
by_key false t r x s w o e h f g = g e h

property_holds : (P : Val → Val → Type 0) → Carries P → (ks : Keys) (key : List ℕ) (s w : Val) → entry_at key (properties_value ks) ≡ Some s → KeyFits key ks (Some w) → P s w
property_holds P carries (other_keys t) key s w e h = none_some s e
property_holds P carries (key_then k r t ks) key s w e h =
    by_key (bytes_eq key k) t r (schema_value t) s w (entry_at key (properties_value ks)) (sym (entry_more k key (schema_value t) (properties_value ks)) ∙ e) h
    (λ same f. subst (λ (y : Val). P y w) same (carries t w f))
    (λ rest k. property_holds P carries ks key s w rest k)

by_other : {A K : Type 0} (L : Type 0) (b : Bool) (x : Val) (o : Option Val) → (if b then Some x else o) ≡ None → ByTest b L K → (o ≡ None → K → A) → A
by_other L true x o e h f = none_some x (sym e)
by_other L false x o e h f = f e h

other_holds : (P : Val → Val → Type 0) → Carries P → (ks : Keys) (key : List ℕ) (w : Val) → entry_at key (properties_value ks) ≡ None → KeyFits key ks (Some w) → P (others_value ks) w
other_holds P carries (other_keys t) key w e h = carries t w h
other_holds P carries (key_then k r t ks) key w e h =
    by_other (Held r (Fits t) (Some w)) (bytes_eq key k) (schema_value t) (entry_at key (properties_value ks)) (sym (entry_more k key (schema_value t) (properties_value ks)) ∙ e) h
    (λ rest k. other_holds P carries ks key w rest k)

either_name : {A : Type 0} (a b : Bool) → (a || b) ≡ true → (a ≡ true → A) → (b ≡ true → A) → A
either_name true b h f g = f refl
either_name false b h f g = g h

name_flag : {A : Type 0} (b : Bool) (key k : List ℕ) (names : Vals) → has_text key (name_if b k names) ≡ true → (b ≡ true → bytes_eq key k ≡ true → A) → (has_text key names ≡ true → A) → A
name_flag true key k names h f g = either_name (bytes_eq key k) (has_text key names) h (f refl) g
name_flag false key k names h f g = g h

required_flag : (ks : Keys) (ps : Entries) (key : List ℕ) → has_text key (required_in ks ps) ≡ true → (at_key key ks).required ≡ true
required_flag ks no_entries key h = absurd (cc)
required_flag ks (entry_then k v ps) key h =
    name_flag (at_key k ks).required key k (required_in ks ps) h
    (λ flag same. subst (λ (n : List ℕ). (at_key n ks).required ≡ true) (sym ((bytes_eq-Decides key k).0 same)) flag)
    (λ more. required_flag ks ps key more)

held_is_there : (r : Bool) (s : Shape) (o : Option Val) → r ≡ true → Held r (Fits s) o → IsThere o
held_is_there r s (Some v) e h = tt
held_is_there true s None e h = absurd h
held_is_there false s None e h = absurd (cc)

entries_hold : (P : Val → Val → Type 0) → Carries P → (p : Plain) (l : Lists) (m : Maps) (es : Entries) → MapFits m es → EntriesHold P (map_val (entries_of_shape p l m)) es
entries_hold P carries p l no_map es h = absurd h
entries_hold P carries p l (maps_of ks) es h = (
  subst (λ (ps : Entries). PropertiesHold P ps es) (sym (properties_there p l ks))
      (λ key s w at is. property_holds P carries ks key s w at (subst (λ (o : Option Val). KeyFits key ks o) is (h.1 key))),
  (
    subst (λ (names : Vals). RequiredHold names es) (sym (required_there p l ks))
        (λ key named. held_is_there (at_key key ks).required (at_key key ks).shape (entry_at key es) (required_flag ks (properties_value ks) key named) (key_held key ks (entry_at key es) (h.1 key))),
    λ key w beside is s at.
        subst (λ (y : Val). P y w) (said_some (others_value ks) s (sym (others_there p l ks) ∙ at))
        (other_holds P carries ks key w (sym (ap (entry_at key) (properties_there p l ks)) ∙ beside) (subst (λ (o : Option Val). KeyFits key ks o) is (h.1 key))),
  ),
)

parts_hold : (P : Val → Val → Type 0) → Carries P → (p : Plain) (l : Lists) (m : Maps) (v : Val) → Fits (one_of p l m) v
    → ItemsHold P (map_val (entries_of_shape p l m)) v × ObjectHolds P (map_val (entries_of_shape p l m)) v
parts_hold P carries p l m none_val h = (tt, tt)
parts_hold P carries p l m (bool_val b) h = (tt, tt)
parts_hold P carries p l m (int_val n) h = (tt, tt)
parts_hold P carries p l m (text_val bytes) h = (tt, tt)
parts_hold P carries p l m (list_val vs) h = (items_hold P carries p l m vs h, tt)
parts_hold P carries p l m (map_val es) h = (tt, entries_hold P carries p l m es h)

keywords_hold : (P : Val → Val → Type 0) → Carries P → (p : Plain) (l : Lists) (m : Maps) (v : Val) → Fits (one_of p l m) v → KeywordsHold P (map_val (entries_of_shape p l m)) v
keywords_hold P carries p l m v h = (
  subst (λ (o : Option Val). TypeAllows o v) (sym (types_there p l m)) (type_allows p l m v h),
  (λ ws e. none_some (list_val ws) (sym (no_list_of_values p l m) ∙ e), parts_hold P carries p l m v h),
)

schema_holds : (P : Val → Val → Type 0) (root : Val) → Carries P → (s : Shape) (v : Val) → Fits s v → SchemaHolds P root (schema_value s) v
schema_holds P root carries any_shape v h = tt
schema_holds P root carries (one_of p l m) v h =
    let schema = map_val (entries_of_shape p l m) in
    subst (λ (x : Val). SchemaHolds P root x v) (sym (typed_fits p l m (beside_types l m) v h))
    (subst (λ (o : Option Val). ReferenceHolds P root schema o v) (sym (no_reference p l m)) (keywords_hold P carries p l m v h))

pub fits_valid : (depth : ℕ) (root : Val) (s : Shape) (v : Val) → Fits s v → ValidWithin depth root (schema_value s) v
fits_valid zero root s v h = tt
fits_valid (suc depth) root s v h = schema_holds (ValidWithin depth root) root (fits_valid depth root) s v h

-- ---- valid as far as one looks
-- it holds at each depth
abbrev AtEach : (ℕ → Val → Val → Type 0) → Val → Val → Type 0
AtEach R s v = (depth : ℕ) → R depth s v

each_at_each : (R : ℕ → Val → Type 0) (vs : Vals) → ((depth : ℕ) → EachValue (R depth) vs) → EachValue (λ v. (depth : ℕ) → R depth v) vs
each_at_each R no_vals h = tt
each_at_each R (val_then v vs) h = (λ depth. (h depth).0, each_at_each R vs (λ depth. (h depth).1))

items_at_each : (R : ℕ → Val → Val → Type 0) (schema v : Val) → ((depth : ℕ) → ItemsHold (R depth) schema v) → ItemsHold (AtEach R) schema v
items_at_each R schema none_val h = tt
items_at_each R schema (bool_val b) h = tt
items_at_each R schema (int_val n) h = tt
items_at_each R schema (text_val bytes) h = tt
items_at_each R schema (list_val vs) h =
    each_more (λ v. (depth : ℕ) → ValidAtKey (R depth) (codes "items") schema v) (ValidAtKey (AtEach R) (codes "items") schema) (λ v f s e depth. f depth s e) vs
    (each_at_each (λ depth. ValidAtKey (R depth) (codes "items") schema) vs h)
items_at_each R schema (map_val es) h = tt

object_at_each : (R : ℕ → Val → Val → Type 0) (schema v : Val) → ((depth : ℕ) → ObjectHolds (R depth) schema v) → ObjectHolds (AtEach R) schema v
object_at_each R schema none_val h = tt
object_at_each R schema (bool_val b) h = tt
object_at_each R schema (int_val n) h = tt
object_at_each R schema (text_val bytes) h = tt
object_at_each R schema (list_val vs) h = tt
object_at_each R schema (map_val es) h =
    (λ key s v at is depth. (h depth).0 key s v at is, ((h 0).1.0, λ key v beside is s at depth. (h depth).1.1 key v beside is s at))

keywords_at_each : (R : ℕ → Val → Val → Type 0) (schema v : Val) → ((depth : ℕ) → KeywordsHold (R depth) schema v) → KeywordsHold (AtEach R) schema v
keywords_at_each R schema v h =
    ((h 0).0, ((h 0).1.0, (items_at_each R schema v (λ depth. (h depth).1.1.0), object_at_each R schema v (λ depth. (h depth).1.1.1))))

reference_at_each : (R : ℕ → Val → Val → Type 0) (root schema : Val) (o : Option Val) (v : Val) → ((depth : ℕ) → ReferenceHolds (R depth) root schema o v) → ReferenceHolds (AtEach R) root schema o v
reference_at_each R root schema None v h = keywords_at_each R schema v h
reference_at_each R root schema (Some none_val) v h = tt
reference_at_each R root schema (Some (bool_val b)) v h = tt
reference_at_each R root schema (Some (int_val n)) v h = tt
reference_at_each R root schema (Some (text_val bytes)) v h = λ s to depth. h depth s to
reference_at_each R root schema (Some (list_val vs)) v h = tt
reference_at_each R root schema (Some (map_val es)) v h = tt

schema_at_each : (R : ℕ → Val → Val → Type 0) (root schema v : Val) → ((depth : ℕ) → SchemaHolds (R depth) root schema v) → SchemaHolds (AtEach R) root schema v
schema_at_each R root none_val v h = tt
schema_at_each R root (bool_val true) v h = tt
schema_at_each R root (bool_val false) v h = h 0
schema_at_each R root (int_val n) v h = tt
schema_at_each R root (text_val bytes) v h = tt
schema_at_each R root (list_val vs) v h = tt
schema_at_each R root (map_val es) v h = reference_at_each R root (map_val es) (entry_at (codes "$ref") es) v h

-- a value is valid by a schema of a whole
abbrev ValidIn : Val → Val → Val → Type 0
ValidIn root = AtEach (λ depth. ValidWithin depth root)

valid_holds : (root schema v : Val) → ValidIn root schema v → SchemaHolds (ValidIn root) root schema v
valid_holds root schema v h = schema_at_each (λ depth. ValidWithin depth root) root schema v (λ depth. h (suc depth))

-- ---- from schemas to shapes
-- what holds of the schema of a shape fits it, if its maps' keys are in order
abbrev Brings : (Val → Val → Type 0) → Shape → Type 0
Brings P s = (v : Val) → MapsRise v → P (schema_value s) v → Fits s v

said_fits : (P : Val → Val → Type 0) (s : Shape) → Brings P s → (o : Option Val) → o ≡ said (schema_value s) → (w : Val) → MapsRise w → ((x : Val) → o ≡ Some x → P x w) → Fits s w
said_fits P any_shape brings o e w rise f = tt
said_fits P (one_of p l m) brings o e w rise f = brings w rise (f (schema_value (one_of p l m)) (e ∙ said_shape p l m))

name_here : (b : Bool) (key k : List ℕ) (names : Vals) → b ≡ true → bytes_eq key k ≡ true → has_text key (name_if b k names) ≡ true
name_here true key k names e same = ap (λ (x : Bool). x || has_text key names) same
name_here false key k names e same = absurd (cc)

name_later : (b : Bool) (key k : List ℕ) (names : Vals) → has_text key names ≡ true → has_text key (name_if b k names) ≡ true
name_later true key k names h = or_second (bytes_eq key k) (has_text key names) h
name_later false key k names h = h

by_entry : {A : Type 0} (b : Bool) (x s : Val) (o : Option Val) → (if b then Some x else o) ≡ Some s → (b ≡ true → A) → (o ≡ Some s → A) → A
by_entry true x s o e f g = f refl
by_entry false x s o e f g = g e

-- a key that a map must have is among the names of those
required_named : (ks : Keys) (ps : Entries) (key : List ℕ) (s : Val) → entry_at key ps ≡ Some s → (at_key key ks).required ≡ true → has_text key (required_in ks ps) ≡ true
required_named ks no_entries key s e flag = none_some s e
required_named ks (entry_then k v ps) key s e flag =
    by_entry (bytes_eq key k) v s (entry_at key ps) e
    (λ same. name_here (at_key k ks).required key k (required_in ks ps) (subst (λ (n : List ℕ). (at_key n ks).required ≡ true) ((bytes_eq-Decides key k).0 same) flag) same)
    (λ more. name_later (at_key k ks).required key k (required_in ks ps) (required_named ks ps key s more flag))

known_first : (b : Bool) (x y : KeyShape) → b ≡ true → (if b then x else y) ≡ x
known_first true x y e = refl
known_first false x y e = absurd (cc)

known_later : (b : Bool) (x y : KeyShape) → b ≡ false → (if b then x else y) ≡ y
known_later true x y e = absurd (cc)
known_later false x y e = refl

put_first : (key k : List ℕ) (v : Val) (es : Entries) → bytes_eq key k ≡ true → entry_at key (with_entry k v es) ≡ Some v
put_first key k v es same = entry_more k key v es ∙ ap (λ (b : Bool). if b then Some v else entry_at key es) same

by_flag : {A : Type 0} (b : Bool) (x y : KeyShape) → (if b then x else y).required ≡ true → (b ≡ true → A) → (b ≡ false → y.required ≡ true → A) → A
by_flag true x y e f g = f refl
by_flag false x y e f g = g refl e

-- a key that a map must have is named
named_if_required : {A : Type 0} (ks : Keys) (key : List ℕ) → (at_key key ks).required ≡ true → ((s : Val) → entry_at key (properties_value ks) ≡ Some s → A) → A
named_if_required (other_keys t) key flag f = absurd (cc)
named_if_required (key_then k r t ks) key flag f =
    by_flag (bytes_eq key k) (key_shape r t) (at_key key ks) flag
    (λ same. f (schema_value t) (put_first key k (schema_value t) (properties_value ks) same))
    (λ other more. named_if_required ks key more (λ s at. f s (at_other key k (schema_value t) (properties_value ks) other ∙ at)))

must_be_there : (P : Val → Val → Type 0) (p : Plain) (l : Lists) (ks : Keys) (es : Entries) (key : List ℕ) → EntriesHold P (map_val (entries_of_shape p l (maps_of ks))) es → (at_key key ks).required ≡ true → IsThere (entry_at key es)
must_be_there P p l ks es key h flag =
    named_if_required ks key flag (λ s at. h.1.0 key (ap (has_text key) (required_there p l ks) ∙ required_named ks (properties_value ks) key s at flag))

kind_fits : (P : Val → Val → Type 0) (p : Plain) (l : Lists) (m : Maps) (v : Val) → MapsRise v → IsOfTypes (kind_names p l m) v
    → ItemsHold P (map_val (entries_of_shape p l m)) v → ObjectHolds P (map_val (entries_of_shape p l m)) v
    → ((vs : Vals) → AllRise vs → takes_lists l ≡ true → EachValue (ValidAtKey P (codes "items") (map_val (entries_of_shape p l m))) vs → ListFits l vs)
    → ((es : Entries) → MapsRise (map_val es) → takes_maps m ≡ true → EntriesHold P (map_val (entries_of_shape p l m)) es → MapFits m es)
    → Fits (one_of p l m) v
kind_fits P p l m none_val rise t items object f g = none_kind p l m t
kind_fits P p l m (bool_val b) rise t items object f g = truth_kind p l m b t
kind_fits P p l m (int_val n) rise t items object f g = integer_kind p l m n t
kind_fits P p l m (text_val bytes) rise t items object f g = text_kind p l m bytes t
kind_fits P p l m (list_val vs) rise t items object f g = f vs rise (list_kind p l m vs t) items
kind_fits P p l m (map_val es) rise t items object f g = g es rise (map_kind p l m es t) object

keywords_from : (P : Val → Val → Type 0) (root : Val) (p : Plain) (l : Lists) (m : Maps) (v : Val) → schema_value (one_of p l m) ≡ map_val (entries_of_shape p l m)
    → SchemaHolds P root (schema_value (one_of p l m)) v → KeywordsHold P (map_val (entries_of_shape p l m)) v
keywords_from P root p l m v is h =
    subst (λ (o : Option Val). ReferenceHolds P root (map_val (entries_of_shape p l m)) o v) (no_reference p l m) (subst (λ (x : Val). SchemaHolds P root x v) is h)

mutual
  pub valid_fits : (root : Val) (s : Shape) (v : Val) → MapsRise v → ValidIn root (schema_value s) v → Fits s v
  valid_fits root any_shape v rise h = tt
  valid_fits root (one_of p l m) v rise h =
      let holds = valid_holds root (schema_value (one_of p l m)) v h in
      let t = typed_holds (ValidIn root) root p l m (beside_types l m) v holds in
      let held = keywords_from (ValidIn root) root p l m v t.0 holds in
      kind_fits (ValidIn root) p l m v rise (t.1 (subst (λ (o : Option Val). TypeAllows o v) (types_there p l m) held.0)) held.1.1.0 held.1.1.1
      (list_fits root p l m) (map_fits root p l m)

  list_fits : (root : Val) (p : Plain) (l : Lists) (m : Maps) (vs : Vals) → AllRise vs → takes_lists l ≡ true
      → EachValue (ValidAtKey (ValidIn root) (codes "items") (map_val (entries_of_shape p l m))) vs → ListFits l vs
  list_fits root p no_list m vs rise e h = absurd (cc)
  list_fits root p (lists_of s) m vs rise e h =
      let at = entry_at (codes "items") (entries_of_shape p (lists_of s) m) in
      each_covered s (ValidAtKey (ValidIn root) (codes "items") (map_val (entries_of_shape p (lists_of s) m)))
      (λ w r f. said_fits (ValidIn root) s (valid_fits root s) at (items_there p s m) w r f) vs rise h

  map_fits : (root : Val) (p : Plain) (l : Lists) (m : Maps) (es : Entries) → MapsRise (map_val es) → takes_maps m ≡ true
      → EntriesHold (ValidIn root) (map_val (entries_of_shape p l m)) es → MapFits m es
  map_fits root p l no_map es rise e h = absurd (cc)
  map_fits root p l (maps_of ks) es rise e h =
      let same = properties_there p l ks in
      let each : (key : List ℕ) → KeyFits key ks (entry_at key es) =
      λ key. keys_fit root ks key (entry_at key es) (λ w is. entry_rises es key w rise.1 is)
      (λ s w at is. h.0 key s w (ap (entry_at key) same ∙ at) is)
      (must_be_there (ValidIn root) p l ks es key h)
      (λ w beside is x said. h.1.1 key w (ap (entry_at key) same ∙ beside) is x (others_there p l ks ∙ said)) in
      (rise.0, each)

  keys_fit : (root : Val) (ks : Keys) (key : List ℕ) (o : Option Val) → ((w : Val) → o ≡ Some w → MapsRise w)
      → ((s w : Val) → entry_at key (properties_value ks) ≡ Some s → o ≡ Some w → ValidIn root s w)
      → ((at_key key ks).required ≡ true → IsThere o)
      → ((w : Val) → entry_at key (properties_value ks) ≡ None → o ≡ Some w → (x : Val) → said (others_value ks) ≡ Some x → ValidIn root x w) → KeyFits key ks o
  keys_fit root (other_keys t) key o rise f g k =
      held_if o (Fits t) (λ w e. said_fits (ValidIn root) t (valid_fits root t) (said (schema_value t)) refl w (rise w e) (k w refl e))
  keys_fit root (key_then q must t ks) key o rise f g k =
      by_test (bytes_eq key q)
      (λ same. held_unless o must (Fits t)
      (λ w e. valid_fits root t w (rise w e) (f (schema_value t) w (put_first key q (schema_value t) (properties_value ks) same) e))
      (λ flag. g (ap (λ (x : KeyShape). x.required) (known_first (bytes_eq key q) (key_shape must t) (at_key key ks) same) ∙ flag)))
      (λ other. keys_fit root ks key o rise
      (λ s w at e. f s w (at_other key q (schema_value t) (properties_value ks) other ∙ at) e)
      (λ flag. g (ap (λ (x : KeyShape). x.required) (known_later (bytes_eq key q) (key_shape must t) (at_key key ks) other) ∙ flag))
      (λ w beside e. k w (at_other key q (schema_value t) (properties_value ks) other ∙ beside) e))

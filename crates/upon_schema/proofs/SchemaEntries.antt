-- What is at each keyword of the schema of a shape.
use Rattle.std.proofs.Common.{◌≡◌, ℕ, List, Bool, true, false, Option, Some, None, codes, refl, ap, ◌∙◌, bytes_eq, if◌then◌else◌}
use Rattle.upon_types.specs.Val.{Val, map_val, list_val, Vals, no_vals, val_then, Entries, no_entries, entry_then, entry_at}
use Rattle.upon_meaning_spec.specs.Entries.{with_entry}
use Rattle.upon_meaning_spec.proofs.RisingEntries.{entry_more}
use Rattle.upon_shape_spec.specs.Shape.{Shape, Lists, no_list, lists_of, Maps, no_map, maps_of, Keys}
use Rattle.upon_schema.specs.Valid.{entries_or_none, items_or_none}
use Rattle.upon_schema.specs.Written.{is_true_schema, with_schema, with_properties, with_required, required_in, schema_value, with_items, with_keys, properties_value, others_value}

-- ---- an entry more
pub at_same : (keyword : List ℕ) (v : Val) (es : Entries) → bytes_eq keyword keyword ≡ true → entry_at keyword (with_entry keyword v es) ≡ Some v
at_same keyword v es same = entry_more keyword keyword v es ∙ ap (λ (b : Bool). if b then Some v else entry_at keyword es) same

pub at_other : (key keyword : List ℕ) (v : Val) (es : Entries) → bytes_eq key keyword ≡ false → entry_at key (with_entry keyword v es) ≡ entry_at key es
at_other key keyword v es other = entry_more keyword key v es ∙ ap (λ (b : Bool). if b then Some v else entry_at key es) other

-- a schema, unless each value is valid by it
abbrev pub said : Val → Option Val
said s = if is_true_schema s then None else Some s

past_if : (b : Bool) (key keyword : List ℕ) (s : Val) (es : Entries) → bytes_eq key keyword ≡ false → entry_at key (if b then es else with_entry keyword s es) ≡ entry_at key es
past_if true key keyword s es other = refl
past_if false key keyword s es other = at_other key keyword s es other

past_schema : (key keyword : List ℕ) (s : Val) (es : Entries) → bytes_eq key keyword ≡ false → entry_at key (with_schema keyword s es) ≡ entry_at key es
past_schema key keyword s es other = past_if (is_true_schema s) key keyword s es other

said_if : (b : Bool) (keyword : List ℕ) (s : Val) (es : Entries) → bytes_eq keyword keyword ≡ true → entry_at keyword es ≡ None → entry_at keyword (if b then es else with_entry keyword s es) ≡ (if b then None else Some s)
said_if true keyword s es same none = none
said_if false keyword s es same none = at_same keyword s es same

at_schema : (keyword : List ℕ) (s : Val) (es : Entries) → bytes_eq keyword keyword ≡ true → entry_at keyword es ≡ None → entry_at keyword (with_schema keyword s es) ≡ said s
at_schema keyword s es same none = said_if (is_true_schema s) keyword s es same none

past_properties : (key : List ℕ) (ps es : Entries) → bytes_eq key (codes "properties") ≡ false → entry_at key (with_properties ps es) ≡ entry_at key es
past_properties key no_entries es other = refl
past_properties key (entry_then k v ps) es other = at_other key (codes "properties") (map_val (entry_then k v ps)) es other

past_required : (key : List ℕ) (names : Vals) (es : Entries) → bytes_eq key (codes "required") ≡ false → entry_at key (with_required names es) ≡ entry_at key es
past_required key no_vals es other = refl
past_required key (val_then v vs) es other = at_other key (codes "required") (list_val (val_then v vs)) es other

-- ---- keywords other than the types
past_items : (key : List ℕ) (l : Lists) → bytes_eq key (codes "items") ≡ false → entry_at key (with_items l no_entries) ≡ None
past_items key no_list other = refl
past_items key (lists_of s) other = past_schema key (codes "items") (schema_value s) no_entries other

past_keys : (key : List ℕ) (m : Maps) (es : Entries) → bytes_eq key (codes "required") ≡ false → bytes_eq key (codes "properties") ≡ false → bytes_eq key (codes "additionalProperties") ≡ false
    → entry_at key (with_keys m es) ≡ entry_at key es
past_keys key no_map es r p a = refl
past_keys key (maps_of ks) es r p a =
    past_required key (required_in ks (properties_value ks)) (with_properties (properties_value ks) (with_schema (codes "additionalProperties") (others_value ks) es)) r
    ∙ past_properties key (properties_value ks) (with_schema (codes "additionalProperties") (others_value ks) es) p
    ∙ past_schema key (codes "additionalProperties") (others_value ks) es a

-- the entries of a schema beside its types
abbrev pub beside_types : Lists → Maps → Entries
beside_types l m = with_keys m (with_items l no_entries)

pub at_ref : (l : Lists) (m : Maps) → entry_at (codes "$ref") (beside_types l m) ≡ None
at_ref l m = past_keys (codes "$ref") m (with_items l no_entries) refl refl refl ∙ past_items (codes "$ref") l refl

pub at_enum : (l : Lists) (m : Maps) → entry_at (codes "enum") (beside_types l m) ≡ None
at_enum l m = past_keys (codes "enum") m (with_items l no_entries) refl refl refl ∙ past_items (codes "enum") l refl

pub at_items : (s : Shape) (m : Maps) → entry_at (codes "items") (beside_types (lists_of s) m) ≡ said (schema_value s)
at_items s m = past_keys (codes "items") m (with_items (lists_of s) no_entries) refl refl refl ∙ at_schema (codes "items") (schema_value s) no_entries refl refl

pub at_others : (l : Lists) (ks : Keys) → entry_at (codes "additionalProperties") (beside_types l (maps_of ks)) ≡ said (others_value ks)
at_others l ks =
    let es = with_items l no_entries in
    let keyword = codes "additionalProperties" in
    past_required keyword (required_in ks (properties_value ks)) (with_properties (properties_value ks) (with_schema keyword (others_value ks) es)) refl
    ∙ past_properties keyword (properties_value ks) (with_schema keyword (others_value ks) es) refl
    ∙ at_schema keyword (others_value ks) es refl (past_items keyword l refl)

properties_put : (ps es : Entries) → entry_at (codes "properties") es ≡ None → entries_or_none (entry_at (codes "properties") (with_properties ps es)) ≡ ps
properties_put no_entries es none = ap entries_or_none none
properties_put (entry_then k v ps) es none = ap entries_or_none (at_same (codes "properties") (map_val (entry_then k v ps)) es refl)

pub at_properties : (l : Lists) (ks : Keys) → entries_or_none (entry_at (codes "properties") (beside_types l (maps_of ks))) ≡ properties_value ks
at_properties l ks =
    let es = with_schema (codes "additionalProperties") (others_value ks) (with_items l no_entries) in
    ap entries_or_none (past_required (codes "properties") (required_in ks (properties_value ks)) (with_properties (properties_value ks) es) refl)
    ∙ properties_put (properties_value ks) es
    (past_schema (codes "properties") (codes "additionalProperties") (others_value ks) (with_items l no_entries) refl ∙ past_items (codes "properties") l refl)

required_put : (names : Vals) (es : Entries) → entry_at (codes "required") es ≡ None → items_or_none (entry_at (codes "required") (with_required names es)) ≡ names
required_put no_vals es none = ap items_or_none none
required_put (val_then v vs) es none = ap items_or_none (at_same (codes "required") (list_val (val_then v vs)) es refl)

pub at_required : (l : Lists) (ks : Keys) → items_or_none (entry_at (codes "required") (beside_types l (maps_of ks))) ≡ required_in ks (properties_value ks)
at_required l ks =
    let es = with_items l no_entries in
    let keyword = codes "required" in
    required_put (required_in ks (properties_value ks)) (with_properties (properties_value ks) (with_schema (codes "additionalProperties") (others_value ks) es))
    (past_properties keyword (properties_value ks) (with_schema (codes "additionalProperties") (others_value ks) es) refl
    ∙ past_schema keyword (codes "additionalProperties") (others_value ks) es refl ∙ past_items keyword l refl)

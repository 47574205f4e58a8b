-- What is wrong in a schema that is refused, and where: a way leads there from the whole schema.
use Rattle.std.specs.Prelude.{◌≡◌, ◌⊎◌, ◌<◌, ℕ, List, [], ◌∷◌, ◌++◌, codes, length, Bool, true, false, ◌&&◌, ◌||◌, Some, None}
use Rattle.upon_types.specs.Val.{Val, bool_val, text_val, list_val, map_val, Vals, no_vals, val_then, Entries, no_entries, entry_then, key_of}
use Rattle.upon_shape_spec.specs.Wider.{is_listed}
use Rattle.upon_schema.specs.Reference.{RefersTo}
use Rattle.upon_schema.specs.Refusal.{Refusal, unknown_keyword, wrong_value, no_definition, too_deep, too_large, out_of_memory, step_spelled}
use Rattle.upon_schema.specs.Valid.{IsThere, properties_of}
use Rattle.upon_schema.specs.Counted.{schemas_read}

-- ---- ways
-- a step from a schema into it: to what a keyword has, to what `properties` has at a name, or behind `$ref`
pub data Step : Type 0 where
  at_keyword : List ℕ → Step
  at_property : List ℕ → Step
  behind_reference : Step

-- what a step adds to a path
abbrev pub step_path : Step → List ℕ
step_path (at_keyword keyword) = step_spelled keyword
step_path (at_property name) = step_spelled (codes "properties") ++ step_spelled name
step_path behind_reference = step_spelled (codes "$ref")

-- the path of steps one after the other
abbrev pub way_path : List Step → List ℕ
way_path [] = []
way_path (step ∷ steps) = step_path step ++ way_path steps

-- a schema is no reference: what stands beside `$ref` is passed over
abbrev pub IsNoReference : Val → Type 0
IsNoReference schema = key_of (codes "$ref") schema ≡ None

-- the keyword is one that has a schema
abbrev pub HasSchema : List ℕ → Type 0
HasSchema keyword = (keyword ≡ codes "items") ⊎ (keyword ≡ codes "additionalProperties")

-- entries have a key with a value
abbrev pub HasEntry : List ℕ → Val → Entries → Type 0
HasEntry key v no_entries = ⊥
HasEntry key v (entry_then k w es) = ((k ≡ key) × (w ≡ v)) ⊎ HasEntry key v es

-- a step leads from a schema to another
abbrev pub StepsTo : Val → Step → Val → Val → Type 0
StepsTo root (at_keyword keyword) schema s =
    HasSchema keyword × (IsNoReference schema × (key_of keyword schema ≡ Some s))
StepsTo root (at_property name) schema s = IsNoReference schema × HasEntry name s (properties_of schema)
StepsTo root behind_reference schema s =
    (reference : List ℕ) × (key_of (codes "$ref") schema ≡ Some (text_val reference)) × RefersTo root reference s

-- steps lead from a schema to another
abbrev pub WayLeads : Val → List Step → Val → Val → Type 0
WayLeads root [] schema s = schema ≡ s
WayLeads root (step ∷ steps) schema s = (t : Val) × StepsTo root step schema t × WayLeads root steps t s

-- ---- keywords
-- those that say something of values
abbrev pub telling_keywords : List (List ℕ)
telling_keywords = codes "type" ∷ codes "enum" ∷ codes "items" ∷ codes "properties" ∷ codes "required"
    ∷ codes "additionalProperties" ∷ codes "$ref" ∷ []

-- those that are known, and say nothing of values
abbrev pub silent_keywords : List (List ℕ)
silent_keywords = codes "$schema" ∷ codes "$id" ∷ codes "$comment" ∷ codes "$defs" ∷ codes "definitions"
    ∷ codes "title" ∷ codes "description" ∷ codes "default" ∷ codes "examples" ∷ codes "deprecated" ∷ codes "readOnly"
    ∷ codes "writeOnly" ∷ []

-- those that are known
abbrev pub is_known_keyword : List ℕ → Bool
is_known_keyword keyword = is_listed keyword telling_keywords || is_listed keyword silent_keywords

-- the names of types
abbrev pub known_types : List (List ℕ)
known_types = codes "null" ∷ codes "boolean" ∷ codes "integer" ∷ codes "number" ∷ codes "string" ∷ codes "array"
    ∷ codes "object" ∷ []

-- ---- values of the right kind
-- a text
abbrev pub is_text : Val → Bool
is_text (text_val bytes) = true
is_text _ = false

-- a list
abbrev pub is_list : Val → Bool
is_list (list_val vs) = true
is_list _ = false

-- a map
abbrev pub is_map : Val → Bool
is_map (map_val es) = true
is_map _ = false

-- a truth value
abbrev pub is_bool : Val → Bool
is_bool (bool_val b) = true
is_bool _ = false

-- a truth value or a map
abbrev pub is_schema : Val → Bool
is_schema v = is_bool v || is_map v

-- the name of a type
abbrev pub is_type : Val → Bool
is_type (text_val name) = is_listed name known_types
is_type _ = false

-- each value passes the test
abbrev pub each_is : (Val → Bool) → Vals → Bool
each_is test no_vals = true
each_is test (val_then v vs) = test v && each_is test vs

-- the name of a type, or a list of such names
abbrev pub is_type_or_types : Val → Bool
is_type_or_types (text_val name) = is_listed name known_types
is_type_or_types (list_val vs) = each_is is_type vs
is_type_or_types _ = false

-- a list of texts
abbrev pub is_list_of_texts : Val → Bool
is_list_of_texts (list_val vs) = each_is is_text vs
is_list_of_texts _ = false

-- ---- what is wrong
-- a schema has at a keyword what fails the test
abbrev pub Fails : (Val → Bool) → List ℕ → Val → Type 0
Fails test keyword schema = (v : Val) × (key_of keyword schema ≡ Some v) × (test v ≡ false)

-- what a schema that is no reference has at a keyword is of the wrong kind
abbrev pub IsWrongAt : List ℕ → Val → Type 0
IsWrongAt keyword schema = ((keyword ≡ codes "type") × Fails is_type_or_types (codes "type") schema)
    ⊎ (((keyword ≡ codes "enum") × Fails is_list (codes "enum") schema)
    ⊎ (((keyword ≡ codes "required") × Fails is_list_of_texts (codes "required") schema)
    ⊎ ((keyword ≡ codes "properties") × Fails is_map (codes "properties") schema)))

-- a schema has a keyword that is not known; the path is that of the keyword
abbrev pub HasUnknown : Val → List ℕ → Type 0
HasUnknown schema path = (keyword : List ℕ) × (path ≡ step_spelled keyword) × (IsNoReference schema
    × (IsThere (key_of keyword schema) × (is_known_keyword keyword ≡ false)))

-- a value is no schema, or it has at a keyword what is of the wrong kind; the path is that of the keyword
abbrev pub HasWrong : Val → List ℕ → Type 0
HasWrong schema path = ((path ≡ []) × (is_schema schema ≡ false))
    ⊎ (((path ≡ step_spelled (codes "$ref")) × Fails is_text (codes "$ref") schema)
    ⊎ ((keyword : List ℕ) × (path ≡ step_spelled keyword) × (IsNoReference schema × IsWrongAt keyword schema)))

-- a schema has a reference to nothing; the path is that of the keyword
abbrev pub HasNoDefinition : Val → Val → List ℕ → Type 0
HasNoDefinition root schema path = (path ≡ step_spelled (codes "$ref")) × ((reference : List ℕ)
    × (key_of (codes "$ref") schema ≡ Some (text_val reference)) × ((s : Val) → RefersTo root reference s → ⊥))

-- a way leads from a schema to a place where this is; the path is that of the way and that from the place
abbrev pub IsSomewhere : (Val → List ℕ → Type 0) → Val → Val → List ℕ → Type 0
IsSomewhere Has root schema path = (steps : List Step) × (place : Val) × (rest : List ℕ)
    × WayLeads root steps schema place × (Has place rest × (path ≡ way_path steps ++ rest))

-- a way of so many steps leads into a schema
abbrev pub IsDeep : ℕ → Val → Val → Type 0
IsDeep depth root schema =
    (steps : List Step) × (place : Val) × WayLeads root steps schema place × (length steps ≡ depth)

-- a schema inside the whole, where so many more may lie one inside another, is the cause of a refusal
abbrev pub IsCause : ℕ → Val → Val → Refusal → Type 0
IsCause depth root schema (unknown_keyword path) = IsSomewhere HasUnknown root schema path
IsCause depth root schema (wrong_value path) = IsSomewhere HasWrong root schema path
IsCause depth root schema (no_definition path) = IsSomewhere (HasNoDefinition root) root schema path
IsCause depth root schema too_deep = IsDeep depth root schema
IsCause depth root schema too_large = Unit {0}
IsCause depth root schema out_of_memory = Unit {0}

-- a schema that is no reference is itself the cause of a refusal, wherever it is; it is not that there are too many
abbrev pub IsCauseHere : Val → Refusal → Type 0
IsCauseHere schema r =
    (r ≡ too_large → ⊥) × (IsNoReference schema → (depth : ℕ) (root : Val) → IsCause depth root schema r)

-- the whole schema is the cause of a refusal, where so many schemas may lie one inside another, and so many be read
abbrev pub IsRefusedSchema : ℕ → ℕ → Val → Refusal → Type 0
IsRefusedSchema depth most schema r =
    IsCause depth schema schema r × (r ≡ too_large → most < schemas_read depth schema (codes "#" ∷ []) schema)

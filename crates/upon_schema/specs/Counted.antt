-- How many schemas are read where a schema is read: what is behind a reference counts once for each.
use Rattle.std.specs.Prelude.{ℕ, zero, suc, ◌+◌, ◌==◌, List, [], ◌∷◌, ◌++◌, codes, Option, Some, None, bytes_eq, if◌then◌else◌}
use Rattle.upon_types.specs.Val.{Val, text_val, Entries, no_entries, entry_then, key_of}
use Rattle.upon_shape_spec.specs.Wider.{is_listed}
use Rattle.upon_schema.specs.Reference.{spelled}
use Rattle.upon_schema.specs.Valid.{entries_or_none, properties_of}

-- ---- references
-- what is behind the begin of a text, if it begins so
abbrev pub after_begin : List ℕ → List ℕ → Option (List ℕ)
after_begin [] text = Some text
after_begin (byte ∷ begin) [] = None
after_begin (byte ∷ begin) (first ∷ text) = if byte == first then after_begin begin text else None

-- the value at the key that is spelled so
abbrev pub spelled_entry : List ℕ → Entries → Option Val
spelled_entry name no_entries = None
spelled_entry name (entry_then key v es) = if bytes_eq name (spelled key) then Some v else spelled_entry name es

-- the definition that is spelled so, among those that the whole schema has at a key; else another
abbrev pub definition_or : List ℕ → Val → Option (List ℕ) → Option Val → Option Val
definition_or group root None other = other
definition_or group root (Some name) other = spelled_entry name (entries_or_none (key_of group root))

-- the schema that a reference is to
abbrev pub referred_in : Val → List ℕ → Option Val
referred_in root reference = if bytes_eq reference (codes "#") then Some root
    else definition_or (codes "$defs") root (after_begin (codes "#/$defs/") reference)
    (definition_or (codes "definitions") root (after_begin (codes "#/definitions/") reference) None)

-- ---- the count
-- of what may be there
abbrev pub count_there : (Val → ℕ) → Option Val → ℕ
count_there count None = 0
count_there count (Some v) = count v

-- of what each entry has
abbrev pub count_entries : (Val → ℕ) → Entries → ℕ
count_entries count no_entries = 0
count_entries count (entry_then key v es) = count v + count_entries count es

-- of what the keywords on maps have
abbrev pub count_beside : (Val → ℕ) → Val → ℕ
count_beside count schema =
    count_there count (key_of (codes "additionalProperties") schema) + count_entries count (properties_of schema)

-- of what the keywords of a schema have
abbrev pub count_keywords : (Val → ℕ) → Val → ℕ
count_keywords count schema = count_there count (key_of (codes "items") schema) + count_beside count schema

-- of what a reference is to, unless it is one in which it stands
abbrev pub count_reference : (List (List ℕ) → Val → ℕ) → Val → List (List ℕ) → Val → ℕ
count_reference count root opened (text_val reference) = if is_listed reference opened then 0
    else count_there (count (opened ++ reference ∷ [])) (referred_in root reference)
count_reference count root opened _ = 0

-- of what is inside a schema: behind its reference, or at its keywords
abbrev pub count_inside : (List (List ℕ) → Val → ℕ) → Val → List (List ℕ) → Val → Option Val → ℕ
count_inside count root opened schema None = count_keywords (count opened) schema
count_inside count root opened schema (Some reference) = count_reference count root opened reference

-- how many schemas are read, with references open, as far as so many lie one inside another
abbrev pub schemas_read : ℕ → Val → List (List ℕ) → Val → ℕ
schemas_read zero root opened schema = 0
schemas_read (suc depth) root opened schema =
    1 + count_inside (schemas_read depth root) root opened schema (key_of (codes "$ref") schema)

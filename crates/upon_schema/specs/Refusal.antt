-- Why a value is no schema that can be read, and the path of the place.
use Rattle.std.specs.Prelude.{◌≡◌, ◌⊎◌, ◌+◌, ◌<◌, ℕ, List, ◌∷◌, ◌++◌, string_bytes, Result, Ok, Err}
use Rattle.upon_schema.specs.Reference.{spelled}
use Rattle.upon_schema.specs.declared.fault.SchemaFault.{SchemaFault}
use Rattle.upon_schema.specs.declared.fault.SchemaFault.TheVariants.{UnknownKeyword, WrongValue, NoDefinition, TooDeep, TooLarge, OutOfMemory}

-- why: with a path, as bytes, where there is one
pub data Refusal : Type 0 where
  unknown_keyword : List ℕ → Refusal
  wrong_value : List ℕ → Refusal
  no_definition : List ℕ → Refusal
  too_deep : Refusal
  too_large : Refusal
  out_of_memory : Refusal

-- what a fault says
abbrev pub refusal : SchemaFault → Refusal
refusal (UnknownKeyword path) = unknown_keyword (string_bytes path)
refusal (WrongValue path) = wrong_value (string_bytes path)
refusal (NoDefinition path) = no_definition (string_bytes path)
refusal TooDeep = too_deep
refusal TooLarge = too_large
refusal OutOfMemory = out_of_memory

-- how a path spells a keyword or a key: behind `/`, with `~0` for `~` and `~1` for `/`
abbrev pub step_spelled : List ℕ → List ℕ
step_spelled key = 47 ∷ spelled key

-- the same, where the path begins with another
abbrev pub behind : List ℕ → Refusal → Refusal
behind begin (unknown_keyword path) = unknown_keyword (begin ++ path)
behind begin (wrong_value path) = wrong_value (begin ++ path)
behind begin (no_definition path) = no_definition (begin ++ path)
behind begin too_deep = too_deep
behind begin too_large = too_large
behind begin out_of_memory = out_of_memory

-- a fault says this, or there was no memory to say it
abbrev pub SaysRefusal : Refusal → SchemaFault → Type 0
SaysRefusal r fault = (refusal fault ≡ r) ⊎ (refusal fault ≡ out_of_memory)

-- as many schemas were read as are counted; where too many are to be read, more are counted than were left to read
abbrev pub IsCounted : {A : Type 0} → Result A SchemaFault → ℕ → ℕ → ℕ → Type 0
IsCounted (Ok a) left rest count = left ≡ rest + count
IsCounted (Err fault) left rest count = refusal fault ≡ too_large → left < count

-- a fault says that a keyword has a wrong value, which is so, or that there was no memory
abbrev pub SaysWrongIf : List ℕ → Type 0 → SchemaFault → Type 0
SaysWrongIf keyword P fault =
    ((refusal fault ≡ wrong_value (step_spelled keyword)) × P) ⊎ (refusal fault ≡ out_of_memory)

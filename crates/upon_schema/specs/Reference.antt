-- Which schemas a reference of JSON Schema is to: the whole schema, or a definition of it.
use Rattle.std.specs.Prelude.{◌≡◌, ◌⊎◌, ◌++◌, ℕ, ◌==◌, List, [], ◌∷◌, codes, Option, Some, option_and_then, if◌then◌else◌}
use Rattle.upon_types.specs.Val.{Val, key_of}

-- how a byte of a key is spelled in a reference: `~` is `~0`, and `/` is `~1`
abbrev pub spelled_byte : ℕ → List ℕ
spelled_byte byte = if byte == 126 then codes "~0" else if byte == 47 then codes "~1" else byte ∷ []

-- how a key is spelled in a reference
abbrev pub spelled : List ℕ → List ℕ
spelled [] = []
spelled (byte ∷ bytes) = spelled_byte byte ++ spelled bytes

-- the value at a key of the definitions, which a map has at another key
abbrev pub definition_at : List ℕ → List ℕ → Val → Option Val
definition_at group key v = option_and_then (key_of key) (key_of group v)

-- after this begin, the reference spells a key, and the definition at the key is this schema
abbrev pub IsDefinition : List ℕ → List ℕ → Val → List ℕ → Val → Type 0
IsDefinition begin group root reference s =
    (key : List ℕ) × (reference ≡ begin ++ spelled key) × (definition_at group key root ≡ Some s)

-- `#` is a reference to the whole schema, `#/$defs/KEY` and `#/definitions/KEY` are such to the definition at the key
abbrev pub RefersTo : Val → List ℕ → Val → Type 0
RefersTo root reference s = ((reference ≡ codes "#") × (s ≡ root))
    ⊎ (IsDefinition (codes "#/$defs/") (codes "$defs") root reference s
    ⊎ IsDefinition (codes "#/definitions/") (codes "definitions") root reference s)

-- The JSON of arguments.
use Rattle.std.specs.Prelude.{ℕ, List, [], ◌∷◌, Option, Some, None}
use Rattle.upon_types.specs.Val.{Val, text_val}
use Rattle.upon_json.specs.Context.{IsJsonContext}

-- the text that a value is
abbrev pub its_text : Val → Option (List ℕ)
its_text (text_val text) = Some text
its_text _ = None

-- the JSON of an argument: none if it is empty
abbrev pub json_in : List ℕ → Option (List ℕ)
json_in [] = None
json_in (b ∷ bs) = Some (b ∷ bs)

-- the value of an argument's JSON, as contexts have it: an object, or a list at the key `items`; of none, an object
-- without members
abbrev pub IsArgumentValue : List ℕ → Val → Type 0
IsArgumentValue text v = IsJsonContext (json_in text) [] v

-- it has no value
abbrev pub HasNoArgumentValue : List ℕ → Type 0
HasNoArgumentValue text = (v : Val) → IsArgumentValue text v → ⊥

-- What the functions of lists and maps make of values.
use Rattle.std.specs.Prelude.{ℕ, ◌-◌, List, [], ◌∷◌, ◌++◌, Option, Some, None, length, map, reverse, slice_get, unwrap_or, pos, codes}
use Rattle.std.specs.Str.{chars}
use Rattle.upon_functions.specs.Outcome.{Returned, value, refusal}
use Rattle.upon_functions.specs.Adapters.{adapter_answer}
use Rattle.upon_types.specs.Answers.{Answer}
use Rattle.upon_types.specs.Misfits.{map_misfit, str_misfit, any_misfit}
use Rattle.upon_types.specs.Val.{Val, none_val, text_val, list_val, map_val, kind_word, key_of, Vals, no_vals, val_then, Entries, entry_list}
use Rattle.upon_types.specs.View.{vals_of}
use Rattle.upon_std.specs.Basic.Held.{held_integer}

-- the values of a list, side by side
abbrev pub vals_in_list : Vals → List Val
vals_in_list no_vals = []
vals_in_list (val_then v vs) = v ∷ vals_in_list vs

-- how many code points a text has, items a list and entries a map
abbrev pub count_of : Val → Option ℕ
count_of (text_val s) = Some (length (chars s))
count_of (list_val vs) = Some (length (vals_in_list vs))
count_of (map_val es) = Some (length (entry_list es))
count_of v = None

-- a count, or a refusal that names the value's kind
abbrev pub counted : Option ℕ → Val → Returned
counted (Some n) v = held_integer (pos n)
counted None v = refusal (kind_word v ++ codes " has no length")

-- the outcome of `length`
abbrev pub length_outcome : List Val → Returned
length_outcome (v ∷ vs) = counted (count_of v) v
length_outcome vs = refusal []

-- the first value, or none
abbrev pub first_val : Vals → Val
first_val vs = unwrap_or (slice_get (vals_in_list vs) 0) none_val

-- the last value, or none
abbrev pub last_val : Vals → Val
last_val vs = unwrap_or (slice_get (vals_in_list vs) (length (vals_in_list vs) - 1)) none_val

-- the values from the last to the first
abbrev pub reversed : Vals → Vals
reversed vs = vals_of (reverse (vals_in_list vs))

-- the keys, in their order
abbrev pub key_vals : Entries → Vals
key_vals es = vals_of (map (λ e. text_val e.0) (entry_list es))

-- the values, in the order of their keys
abbrev pub value_vals : Entries → Vals
value_vals es = vals_of (map (λ e. e.1) (entry_list es))

-- the outcome of a function of a list
abbrev pub list_outcome : (Vals → Val) → List Val → Returned
list_outcome change ((list_val vs) ∷ ws) = value (change vs)
list_outcome change ws = refusal []

-- the outcome of a function of a map
abbrev pub map_outcome : (Entries → Val) → List Val → Returned
map_outcome change ((map_val es) ∷ ws) = value (change es)
map_outcome change ws = refusal []

-- what is at the key of a value, or none
abbrev pub value_at_key : List ℕ → Val → Val
value_at_key key v = unwrap_or (key_of key v) none_val

-- the outcome of `get`: what is at the key of the map, or the third argument where nothing is
abbrev pub get_outcome : List Val → Returned
get_outcome (v ∷ (text_val key) ∷ w ∷ ws) = value (unwrap_or (key_of key v) w)
get_outcome ws = refusal []

-- what `get` answers
abbrev pub get_answer : List Val → Answer
get_answer = adapter_answer (map_misfit ∷ str_misfit ∷ any_misfit ∷ []) get_outcome

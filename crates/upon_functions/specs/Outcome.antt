-- What a callable makes of arguments that fit: a value, or a refusal with its text. Out of memory is no outcome.
use Rattle.std.specs.Prelude.{◌≡◌, ℕ, List, Option, Some, None, Result, Ok, Err}
use Rattle.upon_types.specs.Answers.{Answer, gives, declines}
use Rattle.upon_types.specs.Val.{Val, none_val}

-- a value, or a refusal with its text
pub data Returned : Type 0 where
  value : Val → Returned
  refusal : List ℕ → Returned

-- the outcome as a function's answer
abbrev pub answer_of : Returned → Answer
answer_of (value v) = gives v
answer_of (refusal text) = declines text

-- what was returned has this outcome; nothing was returned as memory is out
abbrev pub Gives : Option Returned → Returned → Type 0
Gives (Some o) meant = o ≡ meant
Gives None meant = Unit {0}

-- of an option: the outcome of what is returned, else no value
abbrev pub option_outcome : {T : Type 0} → (T → Option Returned) → Option T → Option Returned
option_outcome outcome (Some x) = outcome x
option_outcome outcome None = Some (value none_val)

-- a refusal with this text, if there was memory for it
abbrev pub refusal_of : Option (List ℕ) → Option Returned
refusal_of (Some text) = Some (refusal text)
refusal_of None = None

-- of a result: what its value comes to, else a refusal with the text of its error
abbrev pub result_outcome : {T E : Type 0} → (T → Option Returned) → (E → Option (List ℕ)) → Result T E
    → Option Returned
result_outcome outcome message (Ok x) = outcome x
result_outcome outcome message (Err e) = refusal_of (message e)

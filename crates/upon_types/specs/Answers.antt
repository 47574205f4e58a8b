-- What functions and formatters answer, by the values that they are given. Out of memory is no answer.
use Rattle.std.specs.Prelude.{ℕ, List, Option}
use Rattle.upon_types.specs.Val.{Val}

-- what is wrong with an argument, with the word of the wanted type
pub data Misfit : Type 0 where
  wrong_type : List ℕ → Misfit
  out_of_range : List ℕ → Misfit

-- a value, or why there is none: another number of arguments is wanted, the argument at an index does not fit, or the
-- function refuses
pub data Answer : Type 0 where
  gives : Val → Answer
  wrong_number : ℕ → Answer
  wrong_argument : ℕ → Misfit → Answer
  declines : List ℕ → Answer

-- how formatting ends: well, or refused, with a message or with none
pub data FormatEnd : Type 0 where
  well : FormatEnd
  refused : Option (List ℕ) → FormatEnd

-- the text that a formatter writes, also before it refuses
pub record Formatted : Type 0 where
  pub text : List ℕ
  pub end : FormatEnd

-- what a function answers to values
abbrev pub Function : Type 0
Function = List Val → Answer

-- what a formatter writes for a value
abbrev pub Formatter : Type 0
Formatter = Val → Formatted

-- functions and formatters share their names
pub data Callable : Type 0 where
  formatter : Formatter → Callable
  function : Function → Callable

-- How the results of calls say the pure answers. That memory is out says nothing of them.
use Rattle.std.specs.Prelude.{◌≡◌, ℕ, Bool, true, false, List, Option, Some, None, Result, Ok, Err, map}
use Rattle.std.specs.Prelude.{string_bytes}
use Rattle.upon_functions.specs.Outcome.{Returned, answer_of}
use Rattle.upon_functions.specs.declared.function.ArgError.{ArgError}
use Rattle.upon_functions.specs.declared.function.ArgError.TheVariants.{WrongType, OutOfRange}
use Rattle.upon_functions.specs.declared.function.CallError.{CallError}
use Rattle.upon_functions.specs.declared.function.CallError.TheVariants.{Arity, Arg, Fault, Memory}
use Rattle.upon_types.specs.Answers.{Answer, Misfit, gives, wrong_number, wrong_argument, declines, wrong_type, out_of_range}
use Rattle.upon_types.specs.Cow.{cow_view}
use Rattle.upon_types.specs.Val.{Val}
use Rattle.upon_types.specs.View.{view}
use Rattle.upon_types.specs.declared.value.Value.{Value}
use Rattle.upon_types.specs.declared.value.cow.ValueCow.{ValueCow}

-- what the arguments of a call denote
abbrev pub arguments_view : List ValueCow → List Val
arguments_view = map cow_view

-- the misfit that the code's error denotes
abbrev pub misfit_of : ArgError → Misfit
misfit_of (WrongType word) = wrong_type word.now
misfit_of (OutOfRange word) = out_of_range word.now

-- the result of a call is this answer, or memory is out
abbrev pub Says : Result Value CallError → Answer → Type 0
Says (Ok v) answer = answer ≡ gives (view v)
Says (Err (Arity n)) answer = answer ≡ wrong_number n
Says (Err (Arg i e)) answer = answer ≡ wrong_argument i (misfit_of e)
Says (Err (Fault text)) answer = answer ≡ declines (string_bytes text)
Says (Err Memory) answer = Unit {0}

-- what a callable returned becomes its outcome, and memory is out only when that is a copy; when memory was refused
-- already, that is answered
abbrev pub Returns : Bool → Result Value CallError → Option Returned → Type 0
Returns is_copy result (Some o) = Says result (answer_of o) × (result ≡ Err Memory → is_copy ≡ true)
Returns is_copy result None = result ≡ Err Memory

-- an error becomes a refusal with its text, and memory is out only when that is a copy
abbrev pub DeclinesCall : Bool → CallError → Option (List ℕ) → Type 0
DeclinesCall is_copy e (Some text) = Says (Err e) (declines text) × (e ≡ Memory → is_copy ≡ true)
DeclinesCall is_copy e None = e ≡ Memory

-- an argument that fits is taken as what it denotes, else its misfit is answered, at its index; memory is out only for
-- a copy
abbrev pub Takes : {A : Type 0} → Bool → (A → Val) → Option Misfit → ℕ → Val → Result A CallError → Type 0
Takes is_copy stands_for misfit i v (Ok x) = (misfit ≡ None) × (stands_for x ≡ v)
Takes is_copy stands_for misfit i v (Err (Arg j e)) = (j ≡ i) × (misfit ≡ Some (misfit_of e))
Takes is_copy stands_for misfit i v (Err Memory) = is_copy ≡ true
Takes is_copy stands_for misfit i v (Err (Arity n)) = ⊥
Takes is_copy stands_for misfit i v (Err (Fault text)) = ⊥

-- an argument that is borrowed is taken as what it denotes, or its misfit is answered; no memory is taken for it
abbrev pub TakesLent : {A : Type 0} → (A → Val) → Option Misfit → ℕ → Val → Result A CallError → Type 0
TakesLent = Takes false

-- of an option: whether what is returned is a copy
abbrev pub option_is_copy : {T : Type 0} → (T → Bool) → Option T → Bool
option_is_copy is_copy (Some x) = is_copy x
option_is_copy is_copy None = false

-- of a result: whether its value, or the message of its error, is a copy
abbrev pub result_is_copy : {T E : Type 0} → (T → Bool) → Bool → Result T E → Bool
result_is_copy is_copy of_error (Ok x) = is_copy x
result_is_copy is_copy of_error (Err e) = of_error

-- What a search comes to: something that was found, or a fault; and the answer of one that goes on to a next state.
use Rattle.std.specs.Prelude.{Option, Some, None}
use Rattle.upon_types.specs.Fault.{Fault}

-- something that was found, or a fault
pub data Finding (A : Type 0) : Type 0 where
  found : A → Finding A
  at_fault : Fault → Finding A

-- what was found, if no fault was met
abbrev pub found_only : {A : Type 0} → Finding A → Option A
found_only (found a) = Some a
found_only (at_fault fault) = None

-- an answer, and the next state of the one that was asked
pub record Reply (Q : Type 0) (A : Type 0) : Type 0 where
  pub answer : A
  pub next : Q

-- an answer with a next state
abbrev pub reply : {Q A : Type 0} → A → Q → Reply Q A
reply answer next = record { answer = answer; next = next }

-- on with what was found, or its fault
abbrev pub on_found : {Q A B : Type 0} → Finding A → Q → (A → Q → Reply Q (Finding B)) → Reply Q (Finding B)
on_found (found a) q go = go a q
on_found (at_fault fault) q go = reply (at_fault fault) q

-- on with what was found and the next state, if no fault was met
abbrev pub with_found : {Q A B : Type 0} → Reply Q (Finding A) → (A → Q → Reply Q (Finding B)) → Reply Q (Finding B)
with_found r go = on_found r.answer r.next go

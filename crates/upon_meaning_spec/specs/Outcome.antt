-- What comes out of a part of a template: a text, how it ends, and the next state of what was asked.
use Rattle.std.specs.Prelude.{ℕ, List, [], ◌++◌}
use Rattle.upon_types.specs.Fault.{Fault}

-- well, with a fault, or where an include would be too deep inside others
pub data End : Type 0 where
  good : End
  fails : Fault → End
  too_deep : End

-- a text, how it ends, and the next state
pub record Outcome (Q : Type 0) : Type 0 where
  pub text : List ℕ
  pub end : End
  pub next : Q

-- the states of the value source and of the template source
pub record States (V T : Type 0) : Type 0 where
  pub values : V
  pub templates : T

-- the states of both sources
abbrev pub states : {V T : Type 0} → V → T → States V T
states values templates = record { values = values; templates = templates }

-- a text that ends well
abbrev pub text_outcome : {Q : Type 0} → List ℕ → Q → Outcome Q
text_outcome text next = record { text = text; end = good; next = next }

-- a fault before any text
abbrev pub fault_outcome : {Q : Type 0} → Fault → Q → Outcome Q
fault_outcome f next = record { text = []; end = fails f; next = next }

-- one include too many, before any text
abbrev pub too_deep_outcome : {Q : Type 0} → Q → Outcome Q
too_deep_outcome next = record { text = []; end = too_deep; next = next }

-- an outcome with a text before it
abbrev pub with_text_before : {Q : Type 0} → List ℕ → Outcome Q → Outcome Q
with_text_before text o = record o { text = text ++ o.text }

-- a text that ends so, and then another outcome if it ends well
abbrev pub go_on : {Q : Type 0} → List ℕ → End → Q → (Q → Outcome Q) → Outcome Q
go_on text good q go = with_text_before text (go q)
go_on text (fails f) q go = record { text = text; end = fails f; next = q }
go_on text too_deep q go = record { text = text; end = too_deep; next = q }

-- one outcome and then another, up to the first fault
abbrev pub then_do : {Q : Type 0} → Outcome Q → (Q → Outcome Q) → Outcome Q
then_do first second = go_on first.text first.end first.next second

-- A fault: its kind, the template's name, what is wrong, where, and the picture of that span.
use Rattle.std.specs.Prelude.{◌≡◌, ◌⊎◌, ℕ, List, ◌++◌, Option, Some, None, option_map, codes}
use Rattle.upon_types.specs.Picture.{Picture, picture}
use Rattle.upon_types.specs.declared.types.Span.{Span}

-- the kinds of faults
pub data Kind : Type 0 where
  syntax : Kind
  serialize : Kind
  render : Kind
  function : Kind
  format : Kind
  io : Kind
  memory : Kind
  deriving IsSet as Kind-set

-- a fault: its kind, the template's name, the reason, the span in its source and the picture of that
pub record Fault : Type 0 where
  pub kind : Kind
  pub name : Option (List ℕ)
  pub reason : Option (List ℕ)
  pub span : Option Span
  pub picture : Option Picture

-- a fault without a name and without a picture
abbrev pub bare_fault : Kind → Option (List ℕ) → Option Span → Fault
bare_fault kind reason at = record { kind = kind; name = None; reason = reason; span = at; picture = None }

-- a fault, with the picture of its span in a source
abbrev pub fault_with_picture : List ℕ → Fault → Fault
fault_with_picture source fault = record fault { picture = option_map (picture source) fault.span }

-- a fault without a name, at a span of a source, if they are given
abbrev pub fault_at : Kind → Option (List ℕ) → Option (List ℕ × Span) → Fault
fault_at kind reason None = bare_fault kind reason None
fault_at kind reason (Some at) = fault_with_picture at.0 (bare_fault kind reason (Some at.1))

-- a fault that says its kind alone
abbrev pub fault_of_kind : Kind → Fault
fault_of_kind kind = bare_fault kind None None

-- Out of memory
abbrev pub out_of_memory : Fault
out_of_memory = fault_of_kind memory

-- a fault, in the template of a name
abbrev pub fault_with_name : List ℕ → Fault → Fault
fault_with_name name fault = record fault { name = Some name }

-- it is this fault, or memory was out while it was reported
abbrev pub OrMemory : Fault → Fault → Type 0
OrMemory wanted fault = (fault ≡ wanted) ⊎ (fault ≡ out_of_memory)

-- the words for each kind
abbrev pub kind_text : Kind → List ℕ
kind_text syntax = codes "invalid syntax"
kind_text serialize = codes "serialize error"
kind_text render = codes "render error"
kind_text function = codes "function error"
kind_text format = codes "format error"
kind_text io = codes "io error"
kind_text memory = codes "out of memory"

-- the reason after the kind, if there is one
abbrev pub reason_text : Option (List ℕ) → List ℕ
reason_text None = codes ""
reason_text (Some reason) = codes ": " ++ reason

-- the one line that reports a fault
abbrev pub line : Fault → List ℕ
line fault = kind_text fault.kind ++ reason_text fault.reason

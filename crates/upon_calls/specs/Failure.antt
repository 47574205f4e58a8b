-- The texts and the numbers that say why a call gives no text of its own.
use Rattle.std.specs.Prelude.{◌≡◌, ℕ, List, ◌++◌, codes, Bool, true, false, Option, Some, None, string_bytes}
use Rattle.std.specs.Str.{IsUtf8}
use Rattle.upon_types.specs.Fault.{Kind, syntax, serialize, render, function, format, io, memory, Fault}
use Rattle.upon_types.specs.Pretty.{pretty}
use Rattle.upon_calls.specs.declared.failure.Argument.{Argument}
use Rattle.upon_calls.specs.declared.failure.Argument.TheVariants.{Templates, Source, Context, Name, Options}
use Rattle.upon_calls.specs.declared.failure.Failure.{Failure}
use Rattle.upon_calls.specs.declared.failure.Failure.TheVariants.{Faults, Refused, NotText, OutOfMemory}

-- the word for an argument
abbrev pub argument_word : Argument → List ℕ
argument_word Templates = codes "templates"
argument_word Source = codes "source"
argument_word Context = codes "context"
argument_word Name = codes "name"
argument_word Options = codes "options"

-- the line that says why an argument is refused
abbrev pub refusal_text : Argument → List ℕ → List ℕ
refusal_text argument reason = (argument_word argument ++ codes ": ") ++ reason

-- the line that says which argument is not UTF-8
abbrev pub no_text_text : Argument → List ℕ
no_text_text argument = argument_word argument ++ codes " is not UTF-8"

-- the text that says why; none if memory was out
abbrev pub failure_text : Failure → Option (List ℕ)
failure_text (Faults pictures) = Some (string_bytes pictures)
failure_text (Refused argument reason) = Some (refusal_text argument (string_bytes reason))
failure_text (NotText argument) = Some (no_text_text argument)
failure_text OutOfMemory = None

-- the number that stands for what went wrong
abbrev pub call_status : Failure → ℕ
call_status (Faults pictures) = 1
call_status (Refused argument reason) = 2
call_status (NotText argument) = 3
call_status OutOfMemory = 5

-- whether it is said that memory is out
abbrev pub is_memory_kind : Kind → Bool
is_memory_kind syntax = false
is_memory_kind serialize = false
is_memory_kind render = false
is_memory_kind function = false
is_memory_kind format = false
is_memory_kind io = false
is_memory_kind memory = true

-- a text is the picture of a fault that is so
abbrev pub IsPicture : (Fault → Type 0) → List ℕ → Type 0
IsPicture Is text = (fault : Fault) × (is_memory_kind fault.kind ≡ false) × (text ≡ pretty fault) × Is fault

-- the report of a fault: its picture, unless that is, or memory was out
abbrev pub IsFaultReport : Fault → Failure → Type 0
IsFaultReport fault (Faults pictures) = (is_memory_kind fault.kind ≡ false) × (string_bytes pictures ≡ pretty fault)
IsFaultReport fault (Refused argument reason) = ⊥
IsFaultReport fault (NotText argument) = ⊥
IsFaultReport fault OutOfMemory = Unit {0}

-- an argument is not UTF-8, and that is said
abbrev pub TellsNoText : Argument → List ℕ → Failure → Type 0
TellsNoText argument bytes (Faults pictures) = ⊥
TellsNoText argument bytes (Refused other reason) = ⊥
TellsNoText argument bytes (NotText other) = (other ≡ argument) × (IsUtf8 bytes → ⊥)
TellsNoText argument bytes OutOfMemory = ⊥

-- an argument is refused, and this is so; or memory was out
abbrev pub RefusedIf : Argument → Type 0 → Failure → Type 0
RefusedIf argument Why (Faults pictures) = ⊥
RefusedIf argument Why (Refused other reason) = (other ≡ argument) × Why
RefusedIf argument Why (NotText other) = ⊥
RefusedIf argument Why OutOfMemory = Unit {0}

-- there are faults, of whose pictures this is so; or the options are refused, and that is so; or memory was out
abbrev pub FaultyIf : (List ℕ → Type 0) → Type 0 → Failure → Type 0
FaultyIf Faulty Refuses (Faults pictures) = Faulty (string_bytes pictures)
FaultyIf Faulty Refuses (Refused argument reason) = (argument ≡ Options) × Refuses
FaultyIf Faulty Refuses (NotText argument) = ⊥
FaultyIf Faulty Refuses OutOfMemory = Unit {0}

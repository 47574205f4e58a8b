-- The fault that an `Error` of the code is.
use Rattle.std.specs.Prelude.{◌≡◌, ◌⊎◌, ℕ, List, Option, Some, None, option_map, option_and_then, string_bytes}
use Rattle.std.specs.declared.io.Error.{Error as IoError}
use Rattle.upon_types.specs.Fault.{Kind, syntax, serialize, render, function, format, io, memory, Fault, out_of_memory}
use Rattle.upon_types.specs.Cause.{cause_text}
use Rattle.upon_types.specs.Picture.{Picture}
use Rattle.upon_types.specs.declared.error.cause.Cause.{Cause}
use Rattle.upon_types.specs.declared.error.Details.{Details}
use Rattle.upon_types.specs.declared.error.Error.{Error}
use Rattle.upon_types.specs.declared.error.ErrorKind.{ErrorKind}
use Rattle.upon_types.specs.declared.error.ErrorKind.TheVariants.{Syntax, Serialize, Render, Function, Format, Io, OutOfMemory}
use Rattle.upon_types.specs.declared.error.excerpt.Excerpt.{Excerpt}
use Rattle.upon_types.specs.declared.error.reason.Reason.{Reason}
use Rattle.upon_types.specs.declared.error.reason.Reason.TheVariants.{None as NoReason, Text as TextReason, Cause as CauseReason}

-- the kind of fault that a kind of error is
abbrev pub kind_of : ErrorKind → Kind
kind_of Syntax = syntax
kind_of Serialize = serialize
kind_of Render = render
kind_of Function = function
kind_of Format = format
kind_of (Io e) = io
kind_of OutOfMemory = memory

-- the picture that an excerpt of a source shows
abbrev pub picture_of : Excerpt → Picture
picture_of e = record { number = e.number; column = e.column; width = e.width; line = string_bytes e.line }

-- what is to be said, in words
abbrev pub reason_words : Reason → Option (List ℕ)
reason_words NoReason = None
reason_words (TextReason text) = Some (string_bytes text)
reason_words (CauseReason cause) = Some (cause_text cause.value)

-- its cause, if it is one
abbrev pub reason_cause : Reason → Option Cause
reason_cause NoReason = None
reason_cause (TextReason text) = None
reason_cause (CauseReason cause) = Some cause.value

-- what an error's details say, if it has some
abbrev pub detail : {T : Type 0} → (Details → Option T) → Error → Option T
detail said e = option_and_then (λ details. said details.value) e.details

-- the fault: its kind, the template's name, the reason, the span, and the picture of the span
abbrev pub fault_of : Error → Fault
fault_of e = record {
  kind = kind_of e.kind;
  name = detail (λ details. option_map string_bytes details.name) e;
  reason = detail (λ details. option_map (λ said. string_bytes said.text) details.reason) e;
  span = detail (λ details. details.span) e;
  picture = detail (λ details. option_map picture_of details.excerpt) e;
}

-- why there is the fault, if that is one of the engine's own causes
abbrev pub cause_of : Error → Option Cause
cause_of e = detail (λ details. option_and_then (λ said. said.cause) details.reason) e

-- an error's kind, with the writer's error if it is one of a writer
abbrev pub error_kind : Error → ErrorKind
error_kind e = e.kind

-- the writer's error in a kind of error
abbrev pub io_error_in : ErrorKind → Option IoError
io_error_in Syntax = None
io_error_in Serialize = None
io_error_in Render = None
io_error_in Function = None
io_error_in Format = None
io_error_in (Io e) = Some e
io_error_in OutOfMemory = None

-- the error has this kind, with the same writer's error, or is out of memory
abbrev pub KeepsKind : ErrorKind → Error → Type 0
KeepsKind kind e = (error_kind e ≡ kind) ⊎ (fault_of e ≡ out_of_memory)

-- the error has this cause, or none, or is out of memory
abbrev pub KeepsCause : Option Cause → Error → Type 0
KeepsCause cause e = (cause_of e ≡ cause) ⊎ (fault_of e ≡ out_of_memory)

-- Errors of which nothing is said, as nobody reads it.
use Rattle.std.specs.Prelude.{◌≡◌}
use Rattle.std.specs.IoError.{error_kind as io_kind}
use Rattle.std.specs.declared.io.ErrorKind.TheVariants.{BrokenPipe}
use Rattle.upon_types.specs.Error.{error_kind}
use Rattle.upon_types.specs.declared.error.Error.{Error}
use Rattle.upon_types.specs.declared.error.ErrorKind.{ErrorKind}
use Rattle.upon_types.specs.declared.error.ErrorKind.TheVariants.{Syntax, Serialize, Render, Function, Format}
use Rattle.upon_types.specs.declared.error.ErrorKind.TheVariants.{Io, OutOfMemory}
use Rattle.upon_tool_messages.specs.declared.library.Refusal.{Refusal}
use Rattle.upon_tool_messages.specs.declared.library.Refusal.TheVariants.{Unreadable, NotText, Outside, Fault}

-- a kind of error is that of a write whose reader has gone
abbrev pub IsGoneKind : ErrorKind → Type 0
IsGoneKind Syntax = ⊥
IsGoneKind Serialize = ⊥
IsGoneKind Render = ⊥
IsGoneKind Function = ⊥
IsGoneKind Format = ⊥
IsGoneKind (Io e) = io_kind e ≡ BrokenPipe
IsGoneKind OutOfMemory = ⊥

-- an error is that the reader of the output has gone
abbrev pub IsReaderGone : Error → Type 0
IsReaderGone error = IsGoneKind (error_kind error)

-- why a file is no template is such an error
abbrev pub IsOfGone : Refusal → Type 0
IsOfGone (Unreadable e) = ⊥
IsOfGone NotText = ⊥
IsOfGone Outside = ⊥
IsOfGone (Fault e) = IsReaderGone e

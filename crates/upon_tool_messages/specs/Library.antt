-- The files of a library, and why files are no templates.
use Rattle.std.specs.Prelude.{◌≡◌, ℕ, List, map, true, false, Option, Some, None, Result, Ok, Err, string_bytes}
use Rattle.std.specs.BTreeMap.{get_by_text}
use Rattle.upon_types.specs.declared.error.Error.{Error}
use Rattle.upon_tool_io.specs.declared.files.ReadFault.{ReadFault}
use Rattle.upon_tool_io.specs.declared.files.ReadFault.TheVariants.{Unreadable as FileUnreadable, NotText as FileNotText, Outside as FileOutside, OutOfMemory}
use Rattle.upon_tool_messages.specs.declared.judge.Declared.{Declared}
use Rattle.upon_tool_messages.specs.Status.{is_memory_error}
use Rattle.upon_tool_messages.specs.declared.library.Library.{Library}
use Rattle.upon_tool_messages.specs.declared.library.Refusal.{Refusal}
use Rattle.upon_tool_messages.specs.declared.library.Refusal.TheVariants.{Unreadable, NotText, Outside, Fault}

-- what templates may call
abbrev pub library_callables : Library → Declared
library_callables library = library.callables

-- the names of the files
abbrev pub library_names : Library → List (List ℕ)
library_names library = map string_bytes library.names.items

-- why the file of a name is no template
abbrev pub refused_as : Library → List ℕ → Option Refusal
refused_as library name = get_by_text library.refused name

-- why a file is no template that was not read; none if memory was out
abbrev pub read_refusal : ReadFault → Option Refusal
read_refusal (FileUnreadable error) = Some (Unreadable error)
read_refusal FileNotText = Some NotText
read_refusal FileOutside = Some Outside
read_refusal OutOfMemory = None

-- An engine took the text; or it is refused with the engine's error; or memory was out.
abbrev pub IsOfAdded : {A E : Type 0} → Result A Error → Result (Option Refusal) E → Type 0
IsOfAdded (Ok u) (Ok None) = Unit {0}
IsOfAdded (Ok u) (Ok (Some refusal)) = ⊥
IsOfAdded (Ok u) (Err failed) = ⊥
IsOfAdded (Err error) (Ok None) = ⊥
IsOfAdded (Err error) (Ok (Some refusal)) = (refusal ≡ Fault error) × (is_memory_error error ≡ false)
IsOfAdded (Err error) (Err failed) = is_memory_error error ≡ true

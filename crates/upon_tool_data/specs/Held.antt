-- The values of files in memory.
use Rattle.std.specs.Prelude.{◌≡◌, ℕ, List, Some}
use Rattle.upon_types.specs.Val.{Val}
use Rattle.upon_data.specs.Format.{IsValueIn}
use Rattle.upon_data.specs.declared.format.Format.{Format}
use Rattle.upon_tool_io.specs.Memory.{bytes_under}
use Rattle.upon_tool_io.specs.declared.memory.HeldFile.{HeldFile}

-- the value is that of the text of the first file of a name, in a format
abbrev pub IsHeldValue : List HeldFile → List ℕ → Format → Val → Type 0
IsHeldValue files name format v =
    (text : List ℕ) × (bytes_under name files ≡ Some text) × IsValueIn format text v

-- The files of data, one after the other.
use Rattle.std.specs.Prelude.{◌≡◌, ◌⊎◌, ℕ, List, [], ◌∷◌, ◌++◌, false, Option, Some, None}
use Rattle.std.specs.Borrow.{Bor}
use Rattle.std.specs.declared.io.Error.{Error as IoError}
use Rattle.upon_types.specs.Val.{Val, Entries}
use Rattle.upon_json.specs.Value.{put}
use Rattle.upon_data.specs.Entries.{merged}
use Rattle.upon_data.specs.Format.{HasNoValue, IsValueIn}
use Rattle.upon_data.specs.declared.format.Format.{Format}
use Rattle.upon_tool_io.specs.World.{World}
use Rattle.upon_tool_io.specs.declared.files.ReadFault.TheVariants.{Unreadable as FileUnreadable, NotText as FileNotText, Outside as FileOutside, OutOfMemory as MemoryIsOut}
use Rattle.upon_tool_io.specs.declared.files.ReadFault.{ReadFault}
use Rattle.upon_tool_data.specs.Sources.{is_standard, IsTextOf, IsNoTextOf}
use Rattle.upon_tool_data.specs.Words.{file_of, format_for, word_key}
use Rattle.upon_tool_data.specs.declared.fault.ContextFault.{ContextFault}
use Rattle.upon_tool_data.specs.declared.fault.ContextFault.TheVariants.{LacksText, LacksValue, InputTwice, Unreadable, NotText}
use Rattle.upon_tool_data.specs.declared.fault.ContextFault.TheVariants.{NotOfFormat, NotObject, NotJson, NotMap, OutOfMemory}

-- entries with a value put at a key, or merged in if no key is given
abbrev pub with_file_value : Option (List ℕ) → Val → Entries → Option Entries
with_file_value None v es = merged v es
with_file_value (Some key) v es = Some (put key v es)

-- A file's value can't be merged into entries; or memory is out.
abbrev pub RefusesPut : Option (List ℕ) → List ℕ → Val → Entries → ContextFault → Type 0
RefusesPut key file v es (NotObject name) = (name.now ≡ file) × (with_file_value key v es ≡ None)
RefusesPut key file v es OutOfMemory = Unit {0}
RefusesPut key file v es (LacksText word) = ⊥
RefusesPut key file v es (LacksValue word) = ⊥
RefusesPut key file v es InputTwice = ⊥
RefusesPut key file v es (Unreadable name error) = ⊥
RefusesPut key file v es (NotText name) = ⊥
RefusesPut key file v es (NotOfFormat name refusal) = ⊥
RefusesPut key file v es (NotJson word refusal) = ⊥
RefusesPut key file v es (NotMap word) = ⊥

-- what a fault of reading a file is told as
abbrev pub IsToldAs : Bor (List ℕ) → ReadFault → ContextFault → Type 0
IsToldAs name (FileUnreadable error) told = told ≡ Unreadable name error
IsToldAs name FileNotText told = told ≡ NotText name
IsToldAs name FileOutside told = (error : IoError) × (told ≡ Unreadable name error)
IsToldAs name MemoryIsOut told = told ≡ OutOfMemory

-- A text is not of the format of its file; or memory is out.
abbrev pub HasOtherFormat : Format → List ℕ → List ℕ → ContextFault → Type 0
HasOtherFormat format file text (NotOfFormat name refusal) = (name.now ≡ file) × HasNoValue format text
HasOtherFormat format file text OutOfMemory = Unit {0}
HasOtherFormat format file text (Unreadable name error) = ⊥
HasOtherFormat format file text (NotText name) = ⊥
HasOtherFormat format file text (LacksText word) = ⊥
HasOtherFormat format file text (LacksValue word) = ⊥
HasOtherFormat format file text InputTwice = ⊥
HasOtherFormat format file text (NotObject name) = ⊥
HasOtherFormat format file text (NotJson word refusal) = ⊥
HasOtherFormat format file text (NotMap word) = ⊥

module _ (world : World) where
  -- The value is what the text of a file is in its format, by what standard input had left and has left, if that is
  -- known.
  abbrev pub IsRead : Format → List ℕ → Option (List ℕ) → Val → Option (List ℕ) → Type 0
  IsRead format name input v later = (text : List ℕ) × IsTextOf world name input text × IsValueIn format text v
      × (is_standard name ≡ false → later ≡ input)

  -- the value of a word's file is added to entries
  abbrev pub AddsFile : Option Format → List ℕ → Option (List ℕ) → Entries → Option (List ℕ) → Entries → Type 0
  AddsFile given word input old later new =
      (v : Val) × IsRead (format_for given (file_of word)) (file_of word) input v later
      × (with_file_value (word_key word) v old ≡ Some new)

  -- the values of the files are added, one after the other
  abbrev pub AddsFiles : Option Format → List (Bor (List ℕ)) → Option (List ℕ) → Entries → Option (List ℕ) → Entries
      → Type 0
  AddsFiles given [] input old later new = (later ≡ input) × (new ≡ old)
  AddsFiles given (word ∷ words) input old later new = (next : Option (List ℕ)) × (mid : Entries)
      × AddsFile given word.now input old next mid × AddsFiles given words next mid later new

  -- ---- why one is not

  -- A file is not read, for a reason that there may be, or its text is not of its format; or memory is out.
  abbrev pub RefusesText : Format → List ℕ → Option (List ℕ) → ContextFault → Type 0
  RefusesText format file input (Unreadable name error) = (name.now ≡ file)
      × (IsNoTextOf world file input (FileUnreadable error) ⊎ IsNoTextOf world file input FileOutside)
  RefusesText format file input (NotText name) = (name.now ≡ file) × IsNoTextOf world file input FileNotText
  RefusesText format file input (NotOfFormat name refusal) =
      (name.now ≡ file) × (text : List ℕ) × IsTextOf world file input text × HasNoValue format text
  RefusesText format file input OutOfMemory = Unit {0}
  RefusesText format file input (LacksText word) = ⊥
  RefusesText format file input (LacksValue word) = ⊥
  RefusesText format file input InputTwice = ⊥
  RefusesText format file input (NotObject name) = ⊥
  RefusesText format file input (NotJson word refusal) = ⊥
  RefusesText format file input (NotMap word) = ⊥

  -- A word's file is refused: its text, or the value that was read.
  abbrev pub RefusesFile : Option Format → List ℕ → Option (List ℕ) → Entries → ContextFault → Type 0
  RefusesFile given word input es fault = RefusesText (format_for given (file_of word)) (file_of word) input fault
      ⊎ ((v : Val) × (later : Option (List ℕ)) × IsRead (format_for given (file_of word)) (file_of word) input v later
      × RefusesPut (word_key word) (file_of word) v es fault)

  -- the file of one of the words is refused, after those before it were added
  abbrev pub RefusesFiles : Option Format → List (Bor (List ℕ)) → Option (List ℕ) → Entries → ContextFault → Type 0
  RefusesFiles given words input es fault = (before : List (Bor (List ℕ))) × (word : Bor (List ℕ))
      × (after : List (Bor (List ℕ))) × (words ≡ before ++ word ∷ after)
      × (next : Option (List ℕ)) × (mid : Entries) × AddsFiles given before input es next mid
      × RefusesFile given word.now next mid fault

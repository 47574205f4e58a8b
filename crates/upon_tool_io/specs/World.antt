-- What may be read: files, folders and the environment, as `Sources` gives them.
use Rattle.std.specs.Prelude.{◌≡◌, ◌⊎◌, ℕ, List, map, Bool, Option, Result, Ok, Err, String, Vec, string_bytes}
use Rattle.std.specs.Str.{IsUtf8}
use Rattle.std.specs.declared.alloc.Global.{Global}
use Rattle.upon_tool_io.specs.declared.files.ReadFault.{ReadFault}
use Rattle.upon_tool_io.specs.declared.files.ReadFault.TheVariants.{Unreadable, NotText, Outside, OutOfMemory}

-- What may be read. A file may change between two reads: then it may hold each of the two.
pub record World : Type 1 where
  -- a file of this name may hold these bytes
  pub holds : List ℕ → List ℕ → Type 0
  -- a folder of this name may have these files, with links out of it followed or not: the path of each in it, with why
  -- it can't be read, if that is known
  pub lists : List ℕ → Bool → List (String Global × Option ReadFault) → Type 0
  -- a file or folder of this name may be refused so
  pub refuses : List ℕ → ReadFault → Type 0
  -- whether a folder of this name is another one, or in it, may be answered so
  pub within : List ℕ → List ℕ → Bool → Type 0
  -- the environment may have these variables, each with its text
  pub has : List (List ℕ × List ℕ) → Type 0
  -- the environment may be no UTF-8
  pub garbled : Type 0

-- variables and their texts
abbrev pub variables_of : List (String Global × String Global) → List (List ℕ × List ℕ)
variables_of found = map (λ v. (string_bytes v.0, string_bytes v.1)) found

module _ (world : World) where
  -- A file or folder is refused so. That there is no memory may always be.
  abbrev pub RefusesName : List ℕ → ReadFault → Type 0
  RefusesName name OutOfMemory = Unit {0}
  RefusesName name (Unreadable error) = world.refuses name (Unreadable error)
  RefusesName name NotText = world.refuses name NotText
  RefusesName name Outside = world.refuses name Outside

  -- a file may hold these bytes, or it is refused
  abbrev pub GivesBytes : List ℕ → Result (Vec ℕ Global) ReadFault → Type 0
  GivesBytes name (Ok bytes) = world.holds name bytes.items
  GivesBytes name (Err fault) = RefusesName name fault

  -- A file gives no text: it is refused, or it may hold bytes that are no UTF-8.
  abbrev pub IsNoFileText : List ℕ → ReadFault → Type 0
  IsNoFileText name fault =
      RefusesName name fault ⊎ ((fault ≡ NotText) × (bytes : List ℕ) × world.holds name bytes × ¬ IsUtf8 bytes)

  -- a file may hold this text, or it gives none
  abbrev pub GivesFileText : List ℕ → Result (String Global) ReadFault → Type 0
  GivesFileText name (Ok text) = world.holds name (string_bytes text)
  GivesFileText name (Err fault) = IsNoFileText name fault

  -- the environment may have these variables, or be no UTF-8, or there is no memory
  abbrev pub GivesVariables : Result (Vec (String Global × String Global) Global) ReadFault → Type 0
  GivesVariables (Ok found) = world.has (variables_of found.items)
  GivesVariables (Err OutOfMemory) = Unit {0}
  GivesVariables (Err NotText) = world.garbled
  GivesVariables (Err (Unreadable error)) = ⊥
  GivesVariables (Err Outside) = ⊥

-- The files that a run reads, and why one is not read.
use Rattle.std.specs.Prelude.{◌≡◌, ℕ, List, [], ◌∷◌, Bool, false, Option, Some, None, Result, Err, String, string_bytes}
use Rattle.std.specs.Borrow.{Bor}
use Rattle.std.specs.declared.io.Error.{Error as IoError}
use Rattle.std.specs.declared.alloc.Global.{Global}
use Rattle.upon_tool_io.specs.Paths.{joined_path}
use Rattle.upon_tool_io.specs.World.{World, GivesFileText, RefusesName}
use Rattle.upon_tool_io.specs.declared.files.ReadFault.{ReadFault}
use Rattle.upon_tool_io.specs.declared.files.ReadFault.TheVariants.{Unreadable as FileUnreadable, NotText as FileNotText, Outside as FileOutside, OutOfMemory}
use Rattle.upon_tool_data.specs.Sources.{is_standard, IsNoTextOf, IsTextOf}
use Rattle.upon_tool_many.specs.Pages.{EachWith}
use Rattle.upon_tool_pages.specs.declared.sources.FolderFile.{FolderFile}
use Rattle.upon_tool_messages.specs.Status.{IsMemory}
use Rattle.upon_tool_messages.specs.declared.failure.Failure.{Failure}
use Rattle.upon_tool_messages.specs.declared.failure.Failure.TheVariants.{Unreadable, NotText}

-- the failure that a fault of reading is
abbrev pub Unread : Bor (List ℕ) → ReadFault → Failure → Type 0
Unread name (FileUnreadable error) failure = failure ≡ Unreadable name error
Unread name FileNotText failure = failure ≡ NotText name
Unread name FileOutside failure = (error : IoError) × (failure ≡ Unreadable name error)
Unread name OutOfMemory failure = IsMemory failure

module _ (world : World) where
  -- the file was not read, for a reason that there may be, or memory was out
  abbrev pub IsUnread : Bor (List ℕ) → Option (List ℕ) → Failure → Type 0
  IsUnread name input failure =
      (fault : ReadFault) × Unread name fault failure × IsNoTextOf world name.now input fault

  -- the folder was not read, for a reason that there may be, or memory was out
  abbrev pub IsUnlisted : Bor (List ℕ) → Failure → Type 0
  IsUnlisted name failure = (fault : ReadFault) × Unread name fault failure × RefusesName world name.now fault

  -- the texts of files that are read one after the other, by what standard input had left and has left, if that is
  -- known
  abbrev pub AreTexts : List (Bor (List ℕ)) → Option (List ℕ) → List (List ℕ) → Option (List ℕ) → Type 0
  AreTexts [] input [] later = later ≡ input
  AreTexts [] input (text ∷ texts) later = ⊥
  AreTexts (name ∷ names) input [] later = ⊥
  AreTexts (name ∷ names) input (text ∷ texts) later = (next : Option (List ℕ)) × IsTextOf world name.now input text
      × (is_standard name.now ≡ false → next ≡ input) × AreTexts names next texts later

  -- what was read of the file at a path: why it can't be, if that is known, else what the file may hold, or why it
  -- gives no text
  abbrev pub IsReadBy : Option ReadFault → List ℕ → Result (String Global) ReadFault → Type 0
  IsReadBy None path read = GivesFileText world path read
  IsReadBy (Some fault) path read = read ≡ Err fault

  -- a file that a folder lists, with what was read of it
  abbrev pub IsReadFile : List ℕ → String Global × Option ReadFault → FolderFile → Type 0
  IsReadFile folder listed file =
      (file.name ≡ listed.0) × IsReadBy listed.1 (joined_path folder (string_bytes listed.0)) file.read

  -- the files of a folder, if one is given: just those that it may list, in their order
  abbrev pub AreFolderFiles : Option (Bor (List ℕ)) → Bool → List FolderFile → Type 0
  AreFolderFiles None follows files = files ≡ []
  AreFolderFiles (Some folder) follows files = (listed : List (String Global × Option ReadFault))
      × world.lists folder.now follows listed × EachWith (IsReadFile folder.now) listed files

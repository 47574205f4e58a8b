-- What files in memory hold.
use Rattle.std.specs.Prelude.{◌≡◌, ℕ, List, [], ◌∷◌, map, false, Option, Some, None, bytes_eq, string_bytes, if◌then◌else◌}
use Rattle.std.specs.IoError.{error_kind}
use Rattle.std.specs.declared.io.ErrorKind.TheVariants.{NotFound}
use Rattle.std.specs.Str.{IsUtf8}
use Rattle.upon_tool_io.specs.World.{World, variables_of}
use Rattle.upon_tool_io.specs.Written.{written_as, Written}
use Rattle.upon_tool_io.specs.declared.files.ReadFault.{ReadFault}
use Rattle.upon_tool_io.specs.declared.files.ReadFault.TheVariants.{Unreadable, NotText, Outside, OutOfMemory}
use Rattle.upon_tool_io.specs.declared.memory.HeldFile.{HeldFile}
use Rattle.upon_tool_io.specs.declared.memory.Memory.{Memory}

-- the bytes of the first file of a name
abbrev pub bytes_under : List ℕ → List HeldFile → Option (List ℕ)
bytes_under name [] = None
bytes_under name (file ∷ files) =
    if bytes_eq (string_bytes file.name) name then Some file.bytes.items else bytes_under name files

-- each file's bytes, under its name
abbrev pub written_files : List HeldFile → List Written
written_files files = map (λ file. written_as (string_bytes file.name) file.bytes.items) files

-- no file has the name
abbrev pub HasNoFile : List HeldFile → List ℕ → ReadFault → Type 0
HasNoFile files name (Unreadable error) = (error_kind error ≡ NotFound) × (bytes_under name files ≡ None)
HasNoFile files name NotText = ⊥
HasNoFile files name Outside = ⊥
HasNoFile files name OutOfMemory = ⊥

-- Why the file of a name gives no text: there is none; or its bytes are no UTF-8; or memory was out.
abbrev pub IsNoHeldText : List HeldFile → List ℕ → ReadFault → Type 0
IsNoHeldText files name (Unreadable error) = (error_kind error ≡ NotFound) × (bytes_under name files ≡ None)
IsNoHeldText files name NotText = (bytes : List ℕ) × (bytes_under name files ≡ Some bytes) × ¬ IsUtf8 bytes
IsNoHeldText files name Outside = ⊥
IsNoHeldText files name OutOfMemory = Unit {0}

-- What may be read is just what is in memory. Each folder is empty.
abbrev pub memory_world : Memory → World
memory_world memory = record {
  holds = λ name bytes. bytes_under name memory.files.items ≡ Some bytes;
  lists = λ folder follows files. files ≡ [];
  refuses = λ name fault. HasNoFile memory.files.items name fault;
  within = λ folder other result. result ≡ false;
  has = λ found. found ≡ variables_of memory.variables.items;
  garbled = ⊥;
}

-- What is written to files, as `Targets` takes it.
use Rattle.std.specs.Prelude.{◌≡◌, ℕ, List, [], ◌∷◌, ◌++◌, Bool, true, false, Option, Some, None, Result, Ok, Err}
use Rattle.std.specs.declared.io.Error.{Error as IoError}
use Rattle.upon_tool_io.specs.World.{World}
use Rattle.upon_tool_io.specs.declared.output.WriteFault.{WriteFault}

-- bytes that were written, under the name of their file
pub record Written : Type 0 where
  pub name : List ℕ
  pub bytes : List ℕ

-- all that was written, the first first, if that is known
abbrev pub Log : Type 0
Log = Option (List Written)

-- bytes under a name
abbrev pub written_as : List ℕ → List ℕ → Written
written_as name bytes = record { name = name; bytes = bytes }

-- these were written, and nothing else, if what was written is known
abbrev pub Grows : Log → Log → List Written → Type 0
Grows None new more = Unit {0}
Grows (Some old) None more = ⊥
Grows (Some old) (Some new) more = new ≡ old ++ more

-- the bytes of a new file were written under a name, if they are known
abbrev pub Adds : Option (List ℕ) → List ℕ → Log → Log → Type 0
Adds None name old new = Unit {0}
Adds (Some bytes) name old new = Grows old new (written_as name bytes ∷ [])

-- a new file was put in the place of the one of a name, or nothing was written
abbrev pub KeepsFile : Option (List ℕ) → List ℕ → Result (Unit {0}) IoError → Log → Log → Type 0
KeepsFile contents name (Ok u) old new = Adds contents name old new
KeepsFile contents name (Err error) old new = new ≡ old

-- Bytes were written under a name, and nothing else; or the file of that name may have held them already, and nothing
-- was written; or nothing was.
abbrev pub Changes : World → List ℕ → List ℕ → Result Bool WriteFault → Log → Log → Type 0
Changes world name bytes (Ok true) old new = Grows old new (written_as name bytes ∷ [])
Changes world name bytes (Ok false) old new = world.holds name bytes × (new ≡ old)
Changes world name bytes (Err fault) old new = new ≡ old

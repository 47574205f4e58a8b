-- What is read and written of the files of paths.
use Rattle.std.proofs.Common.{◌≡◌, ℕ, List, Bool, true, false, String, Vec, Global, Result, Ok, Err, IsErrAnd, sym, subst, inl, ◌∙◌}
use Rattle.upon_tool_io.specs.World.{World, GivesBytes, GivesFileText, RefusesName}
use Rattle.upon_tool_io.specs.Written.{Changes, Log}
use Rattle.upon_tool_io.specs.declared.files.ReadFault.{ReadFault}
use Rattle.upon_tool_io.specs.declared.files.ReadFault.TheVariants.{OutOfMemory}
use Rattle.upon_tool_io.specs.declared.output.WriteFault.{WriteFault}

-- memory was out
pub text_refused : (world : World) (path : List ℕ) (r : Result (String Global) ReadFault) → IsErrAnd r (λ fault. fault ≡ OutOfMemory) → GivesFileText world path r
text_refused world path (Ok text) is = absurd is
text_refused world path (Err fault) is = inl (subst (RefusesName world path) (sym is) tt)

pub bytes_refused : (world : World) (path : List ℕ) (r : Result (Vec ℕ Global) ReadFault) → IsErrAnd r (λ fault. fault ≡ OutOfMemory) → GivesBytes world path r
bytes_refused world path (Ok bytes) is = absurd is
bytes_refused world path (Err fault) is = subst (RefusesName world path) (sym is) tt

-- what was written at a path after nothing was is the same at an equal one
pub changes_from : (world : World) (bytes : List ℕ) (r : Result Bool WriteFault) (was mid now : Log) (path name : List ℕ) → path ≡ name → mid ≡ was → Changes world path bytes r mid now → Changes world name bytes r was now
changes_from world bytes r was mid now path name is same changes = subst (λ was. Changes world name bytes r was now) same (subst (λ path. Changes world path bytes r mid now) is changes)

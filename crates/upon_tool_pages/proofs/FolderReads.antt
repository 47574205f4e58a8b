-- A file of a folder that is read.
use Rattle.std.proofs.Common.{◌≡◌, ℕ, List, Option, Some, None, Result, Err, String, Global, refl, sym, subst}
use Rattle.upon_tool_io.specs.World.{World, GivesFileText}
use Rattle.upon_tool_io.specs.declared.files.ReadFault.{ReadFault}
use Rattle.upon_tool_pages.specs.Sources.{IsReadBy}

module _ (world : World) where
  pub known_fault : (known : Option ReadFault) (fault : ReadFault) (path : List ℕ) → known ≡ Some fault → IsReadBy world known path (Err fault)
  known_fault known fault path is = subst (λ known. IsReadBy world known path (Err fault)) (sym is) refl

  pub no_fault : (known : Option ReadFault) (path : List ℕ) (read : Result (String Global) ReadFault) → known ≡ None → GivesFileText world path read → IsReadBy world known path read
  no_fault known path read none gives = subst (λ known. IsReadBy world known path read) (sym none) gives

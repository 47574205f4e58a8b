-- Errors that say a fault.
use Rattle.std.proofs.Common.{◌≡◌, ℕ, List, Option, Some, None}
use Rattle.upon_types.specs.Error.{fault_of}
use Rattle.upon_types.specs.Fault.{Fault, fault_with_picture, OrMemory}
use Rattle.upon_types.specs.Val.{Val}
use Rattle.upon_types.specs.declared.error.Error.{Error}
use Rattle.upon_types.specs.declared.types.ast.path.AccessOp.{AccessOp}
use Rattle.upon_types.specs.declared.types.ast.path.AccessOp.TheVariants.{Direct, Optional}
use Rattle.upon_lookup.specs.Answer.{TellsFault}
use Rattle.upon_lookup.specs.Finding.{found_only}
use Rattle.upon_lookup.specs.Walk.{found_or_missed}

-- what is not found, and not missed by `?.`, is the fault
pub tells_missed : (found : Option Val) (op : AccessOp) (fault : Fault) (source : List ℕ) (error : Error) → found_only (found_or_missed found op fault) ≡ None
    → OrMemory (fault_with_picture source fault) (fault_of error) → TellsFault source (found_or_missed found op fault) error
tells_missed (Some v) op fault source error missed told = absurd cc
tells_missed None Direct fault source error missed told = told
tells_missed None Optional fault source error missed told = absurd cc

use Rattle.std.proofs.Common.{ℕ, List, ◌++◌, subst, codes}
use Rattle.upon_types.specs.Error.{fault_of}
use Rattle.upon_types.specs.Fault.{fault_with_picture, OrMemory}
use Rattle.upon_lookup.specs.LookupFaults.{wrong}
use Rattle.upon_lookup.proofs.faults.no_index_access.Goals as goal

pub returns : goal.returns
returns c =
    let F : List ℕ → Type 0 = λ word. OrMemory (fault_with_picture c.args.source.now (wrong (word ++ codes " does not support integer-based access") c.args.at)) (fault_of c.caused.result) in
    subst F c.kind.ensures c.caused.ensures

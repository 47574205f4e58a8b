use Rattle.std.proofs.Common.{rules}
use Rattle.upon_vm.proofs.WithinWrites.{within_any}
use Rattle.upon_engine.proofs.engine.Engine.send_within.Goals as goal

pub returns-clause-means : goal.returns-clause-means
returns-clause-means g c =
    let said = within_any _ _ _ _ _ _ _ c.write_within.result c.write_within.ensures.means in
    search rules

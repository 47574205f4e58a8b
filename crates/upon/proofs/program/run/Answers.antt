use Rattle.std.proofs.Common.{Ok, Err, refl}
use Rattle.upon.proofs.Ended.{ends_kept}
use Rattle.upon.proofs.program.run.Goals as goal

pub returns-in-Ok-clause-ends : goal.returns-in-Ok-clause-ends
returns-in-Ok-clause-ends g c = (Ok tt, refl, c.in-Ok.ensures.ends)

pub returns-clause-ends : goal.returns-clause-ends
returns-clause-ends g c =
    (Err c.in-Err.failure, c.report.ensures, ends_kept c.args.args.now _ c.in-Err.failure _ _ _ c.flush.ensures.bytes c.in-Err.ensures.ends)

use Rattle.std.proofs.Common.{sym}
use Rattle.upon_shape_check.specs.Known.{known_view}
use Rattle.upon_shape_check.proofs.Stepping.{fewer}
use Rattle.upon_shape_check.proofs.known.Known.leave_ended.Goals as goal

pub loop-self-smaller : goal.loop-self-smaller
loop-self-smaller c = fewer c.args.number (known_view c.loop-self.self) (known_view c.leave.new.self) (sym c.loop-self-test.ensures) c.leave.ensures

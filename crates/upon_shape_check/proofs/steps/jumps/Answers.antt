use Rattle.std.proofs.lemmas.Bool.{le-leb, lt-leb}
use Rattle.upon_shape_check.specs.Known.{known_view}
use Rattle.upon_shape_check.proofs.Acting.{jumped_on, jumped_out}
use Rattle.upon_shape_check.proofs.steps.jumps.Goals as goal

pub returns-then-to-number : goal.returns-then-to-number
returns-then-to-number c = λ d inc. jumped_out d inc c.args.number c.args.to (known_view c.args.known.now) (known_view c.leave.new.self) (le-leb c.args.to c.args.number c.if-to-number.true) c.leave.ensures

pub returns-in_ok-begin_other : goal.returns-in_ok-begin_other
returns-in_ok-begin_other c = λ d inc. jumped_on d inc c.args.number c.args.to (known_view c.args.known.now) (known_view c.begin_other.new.self) (lt-leb c.args.to c.args.number c.if-to-number.false) c.in_ok-begin_other.ensures

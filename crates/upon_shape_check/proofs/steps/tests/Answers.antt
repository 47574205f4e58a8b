use Rattle.std.proofs.Common.{[], cond, refl}
use Rattle.upon_machine_spec.specs.Instr.{jump_if_false, jump_if_true}
use Rattle.upon_shape_check.specs.Known.{known_view, operand_view}
use Rattle.upon_shape_check.proofs.Acting.{after_pop, tested_none, tested_so, where_none}
use Rattle.upon_shape_check.proofs.steps.tests.Goals as goal

pub returns-in-None : goal.returns-in-None
returns-in-None c = λ number d inc.
    where_none d inc number (known_view c.args.known.now) (known_view c.pop.new.self) (cond c.args.so (jump_if_false c.args.to) (jump_if_true c.args.to)) c.in-None.ensures.0 c.in-None.ensures.1
    (tested_none d inc number c.args.so c.args.to (known_view c.args.known.now))

pub returns-in_ok-test-in-Some : goal.returns-in_ok-test-in-Some
returns-in_ok-test-in-Some c = λ number d inc.
    let o = operand_view c.in-Some.operand in
    after_pop d inc number (known_view c.args.known.now) (known_view c.pop.new.self) (known_view c.test.new.self) o (cond c.args.so (jump_if_false c.args.to) (jump_if_true c.args.to)) [] c.in-Some.ensures
    (tested_so d inc number c.args.so c.args.to (known_view c.pop.new.self) (known_view c.test.new.self) o (c.in_ok-test-in-Some.ensures o refl))

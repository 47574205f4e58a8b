use Rattle.std.proofs.Common.{refl}
use Rattle.upon_shape_spec.specs.Known.{with_operand}
use Rattle.upon_shape_check.specs.Known.{known_view, operand_view}
use Rattle.upon_shape_check.specs.Puts.{part_instr, with_part}
use Rattle.upon_shape_check.proofs.Acting.{put_alone, put_so}
use Rattle.upon_shape_check.proofs.Putting.{put_both, put_one}
use Rattle.upon_shape_check.proofs.puts.put_into.Goals as goal

pub returns-in_ok-push-in-None-clause-steps : goal.returns-in_ok-push-in-None-clause-steps
returns-in_ok-push-in-None-clause-steps c = λ number d inc.
    let o = operand_view c.args.added in
    let mid = known_view c.args.known.now in
    put_alone d inc number (part_instr c.args.part) (with_operand o mid) mid (known_view c.pop.new.self) (known_view c.push.new.self) o refl c.in-None.ensures.0 c.in-None.ensures.1 c.in_ok-push-in-None.ensures
    (put_one d inc number c.args.part mid o)

pub returns-in_ok-push-in-Some-clause-steps : goal.returns-in_ok-push-in-Some-clause-steps
returns-in_ok-push-in-Some-clause-steps c = λ number d inc.
    let o = operand_view c.args.added in
    let into = operand_view c.in-Some.into in
    let mid = known_view c.args.known.now in
    let low = known_view c.pop.new.self in
    put_so d inc number (with_part c.args.part) (part_instr c.args.part) (with_operand o mid) mid low (known_view c.push-in-Some.new.self) o into _ refl c.in-Some.ensures c.in_ok-shape-in-Some.ensures.shape c.in_ok-push-in-Some.ensures
    (put_both d inc number c.args.part low o into)

use Rattle.upon_shape_check.specs.Doubt.{maybe_doubt}
use Rattle.upon_shape_check.specs.Known.{known_view, operand_view}
use Rattle.upon_shape_check.specs.Puts.{part_instr}
use Rattle.upon_shape_check.proofs.Acting.{after_pop, if_ok_map, where_none}
use Rattle.upon_shape_check.proofs.Putting.{put_none}
use Rattle.upon_shape_check.proofs.puts.puts.Goals as goal

pub returns-in-None-clause-steps : goal.returns-in-None-clause-steps
returns-in-None-clause-steps c = λ number d inc.
    where_none d inc number (known_view c.args.known.now) (known_view c.pop.new.self) (part_instr c.args.part) c.in-None.ensures.0 c.in-None.ensures.1 (put_none d inc number c.args.part (known_view c.args.known.now))

pub returns-in-Some-clause-steps : goal.returns-in-Some-clause-steps
returns-in-Some-clause-steps c =
    if_ok_map c.put_into.result
    (λ ds h number d inc. after_pop d inc number (known_view c.args.known.now) (known_view c.pop.new.self) (known_view c.put_into.new.known) (operand_view c.in-Some.added) (part_instr c.args.part) (maybe_doubt ds) c.in-Some.ensures (h number d inc))
    c.put_into.ensures.steps

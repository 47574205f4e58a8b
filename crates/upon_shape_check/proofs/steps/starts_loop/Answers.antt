use Rattle.std.proofs.Common.{refl}
use Rattle.upon_types.specs.AstPath.{loop_vars_of}
use Rattle.upon_machine_spec.specs.Instr.{loop_start}
use Rattle.upon_shape_check.specs.Doubt.{maybe_doubt}
use Rattle.upon_shape_check.specs.Known.{known_view, operand_view}
use Rattle.upon_shape_check.proofs.Acting.{after_pop, if_ok_map, where_none}
use Rattle.upon_shape_check.proofs.steps.starts_loop.Goals as goal

pub returns-in-None : goal.returns-in-None
returns-in-None c = λ number d inc. where_none d inc number (known_view c.args.known.now) (known_view c.pop.new.self) (loop_start (loop_vars_of c.args.names.now) c.args.span) c.in-None.ensures.0 c.in-None.ensures.1 (refl, refl)

pub returns-in-Some : goal.returns-in-Some
returns-in-Some c =
    let o = operand_view c.in-Some.operand in
    if_ok_map c.loops_over.result
    (λ ds h number d inc. after_pop d inc number (known_view c.args.known.now) (known_view c.pop.new.self) (known_view c.loops_over.new.known) o (loop_start (loop_vars_of c.args.names.now) c.args.span) (maybe_doubt ds) c.in-Some.ensures
    (h number o c.or_never.ensures d inc))
    c.loops_over.ensures

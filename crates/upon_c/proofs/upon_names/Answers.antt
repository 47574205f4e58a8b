use Rattle.std.proofs.Common.{string_bytes}
use Rattle.upon_calls.specs.Calls.{ListFaults, ListNotText, ListRefuses, ListsNeeds}
use Rattle.upon_c.proofs.Ends.{done_ends, failure_ends, gives_by}
use Rattle.upon_c.proofs.upon_names.Goals as goal

pub returns-in-Ok : goal.returns-in-Ok
returns-in-Ok c =
    let e = done_ends (ListsNeeds c.args.templates.now c.args.name.now c.args.options.now) (ListFaults c.args.templates.now c.args.name.now c.args.options.now) (ListRefuses c.args.templates.now c.args.name.now c.args.options.now) (ListNotText c.args.templates.now c.args.name.now c.args.options.now) c.give.result c.give.new.size c.args.out.now c.give.new.out (string_bytes c.in-Ok.text) _ c.as_bytes.ensures.value c.in-Ok.ensures.lists (gives_by _ _ c.give.result c.give.new.size c.args.out.now c.give.new.out c.give.ensures.size c.give.ensures.status c.give.ensures.text c.give.ensures.rest c.give.ensures.small c.give.ensures.same) in
    record { range = e.range; listed = e.done; faulty = e.faulty; refused = e.refused; not_text = e.not_text; small = e.small; memory = e.memory }

pub returns-in-Err : goal.returns-in-Err
returns-in-Err c =
    let e = failure_ends (ListsNeeds c.args.templates.now c.args.name.now c.args.options.now) (ListFaults c.args.templates.now c.args.name.now c.args.options.now) (ListRefuses c.args.templates.now c.args.name.now c.args.options.now) (ListNotText c.args.templates.now c.args.name.now c.args.options.now) c.give_failure.result c.give_failure.new.size c.args.out.now c.give_failure.new.out c.in-Err.failure c.in-Err.ensures.fails c.give_failure.ensures in
    record { range = e.range; listed = e.done; faulty = e.faulty; refused = e.refused; not_text = e.not_text; small = e.small; memory = e.memory }

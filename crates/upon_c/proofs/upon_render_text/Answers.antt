use Rattle.std.proofs.Common.{string_bytes}
use Rattle.upon_calls.specs.Calls.{RendersText, TextFaults, TextNotText, TextRefuses}
use Rattle.upon_c.proofs.Ends.{done_ends, failure_ends, gives_by}
use Rattle.upon_c.proofs.upon_render_text.Goals as goal

pub returns-in-Ok : goal.returns-in-Ok
returns-in-Ok c =
    let e = done_ends (RendersText c.args.source.now c.args.context.now c.args.options.now) (TextFaults c.args.source.now c.args.context.now c.args.options.now) (TextRefuses c.args.source.now c.args.context.now c.args.options.now) (TextNotText c.args.source.now c.args.context.now c.args.options.now) c.give.result c.give.new.size c.args.out.now c.give.new.out (string_bytes c.in-Ok.text) _ c.as_bytes.ensures.value c.in-Ok.ensures.renders (gives_by _ _ c.give.result c.give.new.size c.args.out.now c.give.new.out c.give.ensures.size c.give.ensures.status c.give.ensures.text c.give.ensures.rest c.give.ensures.small c.give.ensures.same) in
    record { range = e.range; rendered = e.done; faulty = e.faulty; refused = e.refused; not_text = e.not_text; small = e.small; memory = e.memory }

pub returns-in-Err : goal.returns-in-Err
returns-in-Err c =
    let e = failure_ends (RendersText c.args.source.now c.args.context.now c.args.options.now) (TextFaults c.args.source.now c.args.context.now c.args.options.now) (TextRefuses c.args.source.now c.args.context.now c.args.options.now) (TextNotText c.args.source.now c.args.context.now c.args.options.now) c.give_failure.result c.give_failure.new.size c.args.out.now c.give_failure.new.out c.in-Err.failure c.in-Err.ensures.fails c.give_failure.ensures in
    record { range = e.range; rendered = e.done; faulty = e.faulty; refused = e.refused; not_text = e.not_text; small = e.small; memory = e.memory }

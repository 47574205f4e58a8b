use Rattle.std.proofs.Common.{rules, ◌<◌, length, ap}
use Rattle.upon_needs.specs.Names.{has_name}
use Rattle.upon_needs.specs.OpenBlocks.{blocks}
use Rattle.upon_needs.proofs.OpenBlocks.{walk_puts}
use Rattle.upon_needs.proofs.template_names.free_names.Goals as goal

pub loop-at-preserved : goal.loop-at-preserved
loop-at-preserved c = λ name.
    let instrs = c.instrs-instrs.result.now in
    let inside : c.loop-at.at < length instrs = search rules in
    walk_puts name c.loop-at.at (blocks c.loop-at.opened.items) (blocks c.as_slice.result.now) instrs c.index-instrs-at.result (has_name c.loop-at.names name) (has_name c.insert_free.new.names name) _ _ (ap blocks c.as_slice.ensures.value) inside c.index-instrs-at.is
    (c.in_ok-insert_free.ensures name) (c.in_ok-open_after.ensures name) (c.loop-at.invariant name)

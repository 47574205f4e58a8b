use Rattle.std.proofs.Common.{ap, sym, ◌∙◌}
use Rattle.upon_types.specs.View.{vals_of}
use Rattle.upon_std.proofs.BasicLemmas.Items.{copied_all, value_list}
use Rattle.upon_std.proofs.basic.lists.values_of.Goals as goal

pub returns : goal.returns
returns c =
    let all = copied_all _ c.loop-value.values.items c.loop-value.value-iterator _ c.in-None.ensures.steps.0 c.loop-value.invariant in
    ap vals_of (all ∙ sym (value_list c.args.entries.now.entries))

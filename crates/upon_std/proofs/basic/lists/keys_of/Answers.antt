use Rattle.std.proofs.Common.{ap, sym, ◌∙◌}
use Rattle.upon_types.specs.View.{vals_of}
use Rattle.upon_std.proofs.BasicLemmas.Items.{copied_all, key_list}
use Rattle.upon_std.proofs.basic.lists.keys_of.Goals as goal

pub returns : goal.returns
returns c =
    let all = copied_all _ c.loop-key.keys.items c.loop-key.key-iterator _ c.in-None.ensures.steps.0 c.loop-key.invariant in
    ap vals_of (all ∙ sym (key_list c.args.entries.now.entries))

use Rattle.std.proofs.Common.{ap, ◌∙◌}
use Rattle.upon_types.specs.View.{vals_view}
use Rattle.upon_std.proofs.BasicLemmas.Items.{vals_view-reverse}
use Rattle.upon_std.proofs.basic.lists.backwards.Goals as goal

pub returns : goal.returns
returns c = ap vals_view c.reverse.ensures.items ∙ vals_view-reverse c.args.items.items

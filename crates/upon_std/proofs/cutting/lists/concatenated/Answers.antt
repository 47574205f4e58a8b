use Rattle.std.proofs.Common.{ap, ◌∙◌}
use Rattle.upon_types.specs.View.{vals_view}
use Rattle.upon_std.proofs.CuttingLemmas.Items.{concatenated_view}
use Rattle.upon_std.proofs.cutting.lists.concatenated.Goals as goal

pub returns : goal.returns
returns c = ap vals_view c.in_ok-append.ensures.items ∙ concatenated_view c.args.first.items c.args.second.items

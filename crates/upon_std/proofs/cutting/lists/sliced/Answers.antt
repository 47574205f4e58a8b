use Rattle.std.proofs.Common.{ap, ◌∙◌}
use Rattle.std.proofs.lemmas.Result.{IfOk-weaker}
use Rattle.upon_types.specs.View.{vals_of}
use Rattle.upon_std.proofs.CuttingLemmas.Items.{cut_view}
use Rattle.upon_std.proofs.cutting.lists.sliced.Goals as goal

pub returns : goal.returns
returns c =
    IfOk-weaker c.copy_items.result _ _
    (λ made same. ap vals_of same ∙ cut_view c.args.from c.args.to c.min-start.result c.min-end.result c.args.items.now c.min-end.ensures c.min-start.ensures)
    c.copy_items.ensures

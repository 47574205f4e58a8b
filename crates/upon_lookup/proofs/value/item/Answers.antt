use Rattle.upon_lookup.proofs.ValueItems.{lent_view-item}
use Rattle.upon_lookup.proofs.value.item.Goals as goal

pub returns : goal.returns
returns c = rw c.deref.ensures.value at (lent_view-item c.deref.result.now c.args.index c.get.result c.get.ensures.lookup.3)

use Rattle.upon_meaning_spec.proofs.RisingEntries.{any_order}
use Rattle.upon_meaning_spec.proofs.laws.maps.entries_in_any_order.Goals as goal

pub returns : goal.returns
returns c = any_order

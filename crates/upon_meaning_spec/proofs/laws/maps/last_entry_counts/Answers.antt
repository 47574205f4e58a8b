use Rattle.upon_meaning_spec.proofs.RisingEntries.{entry_more}
use Rattle.upon_meaning_spec.proofs.laws.maps.last_entry_counts.Goals as goal

pub returns : goal.returns
returns c = entry_more

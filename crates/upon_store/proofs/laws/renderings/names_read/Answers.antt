use Rattle.upon_store.specs.Stored.{folder_table, from_store}
use Rattle.upon_store.proofs.HandingOn.{store_hands_on}
use Rattle.upon_store.proofs.laws.renderings.names_read.Goals as goal

pub returns : goal.returns
returns g c = λ calls store path limit t name these those s agree. c.names_read.ensures calls (folder_table store path) (from_store store path) limit t name these those s (store_hands_on store path) agree

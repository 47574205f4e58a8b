use Rattle.upon_store.specs.Stored.{folder_table, from_store}
use Rattle.upon_store.proofs.HandingOn.{store_hands_on}
use Rattle.upon_store.proofs.laws.renderings.numbered_depth.Goals as goal

pub returns : goal.returns
returns g c = λ calls store path limit number k t name root s is above. c.numbered_depth.ensures calls (folder_table store path) (from_store store path) limit number k t name root s (store_hands_on store path) is above

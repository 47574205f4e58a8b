use Rattle.upon_store.specs.Stored.{folder_table, from_store}
use Rattle.upon_store.proofs.HandingOn.{store_hands_on, stores_alike}
use Rattle.upon_store.proofs.laws.renderings.templates_reached.Goals as goal

pub returns : goal.returns
returns g c = λ calls these those path limit t name root s agree. c.templates_reached.ensures calls (folder_table these path) (from_store these path) (from_store those path) limit t name root s (store_hands_on these path) (stores_alike these those path t.tree agree)

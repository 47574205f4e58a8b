use Rattle.std.proofs.Common.{map, refl}
use Rattle.upon_types.specs.Val.{entry_list}
use Rattle.upon_lookup.specs.Items.{entry_binds}
use Rattle.upon_meaning_spec.proofs.MapOrder.{goes_in_order}
use Rattle.upon_meaning_spec.proofs.laws.maps.map_in_order.Goals as goal

pub returns : goal.returns
returns c = λ key value both es at h. (map (entry_binds key value) (entry_list es), refl, goes_in_order key value es h)

use Rattle.std.proofs.Common.{map}
use Rattle.upon_types.specs.Val.{entry_list}
use Rattle.upon_lookup.specs.Items.{entry_binds}
use Rattle.upon_meaning_spec.proofs.MapOrder.{literal_goes_in_order}
use Rattle.upon_meaning_spec.proofs.laws.maps.literal_goes_in_order.Goals as goal

pub returns : goal.returns
returns g c = λ calls items span env q o key value both at e.
    let literal = literal_goes_in_order calls env items span q o key value both at e in
    (literal.0, literal.1, map (entry_binds key value) (entry_list literal.0), literal.2, literal.3)

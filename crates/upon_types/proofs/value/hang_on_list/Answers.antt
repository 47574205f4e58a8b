use Rattle.std.proofs.Common.{◌-◌, ◌<◌, arith, vec_len, length, ap}
use Rattle.upon_types.specs.Weight.{bulk}
use Rattle.upon_types.proofs.Weights.{items_weight-set, items_weight-part}
use Rattle.upon_types.proofs.value.hang_on_list.Goals as goal

pub returns-in-Some-clause-last : goal.returns-in-Some-clause-last
returns-in-Some-clause-last c =
    let items = c.args.items.now in
    let at : vec_len items - 1 < length items.items = omega (arith, c.in-Some.ensures.item) in
    let is = c.in-Some.ensures.value in
    let set = items_weight-set items.items (vec_len items - 1) c.replace.new.dest c.in-Some.place.now at in
    omega (arith, set, ap bulk is, ap bulk c.replace.ensures.value, ap bulk c.replace.ensures.after)

pub returns-in-Some-clause-part : goal.returns-in-Some-clause-part
returns-in-Some-clause-part c =
    let items = c.args.items.now in
    let at : vec_len items - 1 < length items.items = omega (arith, c.in-Some.ensures.item) in
    omega (arith, items_weight-part items.items (vec_len items - 1) c.in-Some.place.now at, ap bulk c.in-Some.ensures.value, ap bulk c.replace.ensures.value)

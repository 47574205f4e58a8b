use Rattle.std.proofs.Common.{◌-◌, ◌<◌, arith, vec_len, length, ap}
use Rattle.upon_tree.specs.Weight.{base_weight}
use Rattle.upon_tree.proofs.Weights.{items_weight-set, items_weight-part}
use Rattle.upon_tree.proofs.ast.expression.taking_apart.hang_on_items.Goals as goal

pub returns-in-Some-clause-last : goal.returns-in-Some-clause-last
returns-in-Some-clause-last c =
    let items = c.drop_last_items.new.items in
    let at : vec_len items - 1 < length items.items = omega (arith, c.in-Some.ensures.item) in
    let is = c.in-Some.ensures.value in
    let set = items_weight-set items.items (vec_len items - 1) c.replace.new.dest c.in-Some.place.now at in
    omega (arith, set, c.drop_last_items.ensures, ap base_weight is, ap base_weight c.replace.ensures.value, ap base_weight c.replace.ensures.after)

pub returns-in-Some-clause-part : goal.returns-in-Some-clause-part
returns-in-Some-clause-part c =
    let items = c.drop_last_items.new.items in
    let at : vec_len items - 1 < length items.items = omega (arith, c.in-Some.ensures.item) in
    omega (arith, c.drop_last_items.ensures, items_weight-part items.items (vec_len items - 1) c.in-Some.place.now at, ap base_weight c.in-Some.ensures.value, ap base_weight c.replace.ensures.value)

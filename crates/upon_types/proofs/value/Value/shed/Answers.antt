use Rattle.std.proofs.Common.{◌<◌, inr, rules, vec_len}
use Rattle.upon_types.proofs.value.Value.shed.Goals as goal

pub returns-else-is_empty-clause-left : goal.returns-else-is_empty-clause-left
returns-else-is_empty-clause-left c =
    let some : 0 < vec_len c.shed_items.new.items = search rules in
    inr (c.in-List.items, c.in-List.is, c.shed_items.ensures.left some)

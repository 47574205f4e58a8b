use Rattle.std.proofs.Common.{◌≡◌, length, sym, ap, arith, ◌∙◌}
use Rattle.upon_types.specs.Cow.{cow_view}
use Rattle.upon_types.specs.View.{view}
use Rattle.upon_vm_steps.proofs.Rows.{only_pair, two_items}
use Rattle.upon_vm_steps.proofs.operands.Operands.only_entry.Goals as goal

pub returns-then-is_empty_map : goal.returns-then-is_empty_map
returns-then-is_empty_map c =
    let o = c.args.self.now in
    let two : length c.as_slice.result.now ≡ 2 = omega (arith, c.in-len2.len_at_least, c.in-len2.len_below) in
    let items = two_items c.as_slice.result.now c.below-item.result c.top-item.result two c.below-item.is c.top-item.is in
    only_pair o.values.items o.spans.items c.below-item.result c.top-item.result (view c.in-Borrowed.value.now) (sym c.as_slice.ensures.value ∙ items) o.paired
    (ap cow_view c.in-Borrowed.is) (c.is_empty_map.ensures c.if-is_empty_map.true)

use Rattle.std.proofs.Common.{map, ap, subst, rules, ◌∙◌}
use Rattle.std.specs.Ordering.{is_lt}
use Rattle.upon_types.specs.View.{view}
use Rattle.upon_std.specs.Ordering.Keys.{key_val}
use Rattle.upon_std.specs.Ordering.Ranks.{rank_cmp}
use Rattle.upon_std.specs.Ordering.Rows.{row_item, row_key, AreRowsOrRefusal}
use Rattle.upon_std.specs.declared.ordering.sorting.Row.{Row}
use Rattle.upon_std.proofs.OrderingLemmas.Ranks.{rank_weak}
use Rattle.upon_std.proofs.OrderingLemmas.Rising.{sorted_by_closure}
use Rattle.upon_std.proofs.OrderingLemmas.SortedRows.{rows_sorted}
use Rattle.upon_std.proofs.ordering.sorting.sorted.Goals as goal

pub returns : goal.returns
returns c =
    let key = key_val c.args.key in
    let vs = map view c.args.items.now in
    let made = subst (λ r. AreRowsOrRefusal r key vs) c.in-Ok.is c.in_ok-rows.ensures in
    let in_order = sorted_by_closure (λ (one other : Row). is_lt (rank_cmp (row_key one) (row_key other))) (rank_weak row_key)
    c.in-Ok.rows.items c.sort_by.new.self.items c.in_ok-sort_by.ensures.sorted c.sort_by.ensures.stable (λ a r f' q. search rules) in
    rows_sorted key vs (map view c.in_ok-copied.field-0.items) c.in-Ok.rows.items c.sort_by.new.self.items made.0 made.1
    in_order (c.in_ok-copied.ensures ∙ ap (map row_item) c.deref.ensures.value)

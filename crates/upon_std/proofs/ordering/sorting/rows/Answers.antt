use Rattle.std.proofs.Common.{Bor, Some, ap, sym, ◌∙◌, arith}
use Rattle.std.specs.Prelude.{is_some, not}
use Rattle.upon_types.specs.View.{view}
use Rattle.upon_types.specs.declared.value.Value.{Value}
use Rattle.upon_types.proofs.Views.{view-None}
use Rattle.upon_std.specs.Ordering.Keys.{key_val}
use Rattle.upon_std.specs.Ordering.Rows.{ranked}
use Rattle.upon_std.proofs.OrderingLemmas.Absent.{value_or_none}
use Rattle.upon_std.proofs.OrderingLemmas.SortedRows.{one_row_more, all_rows, one_like_more, refused_at}
use Rattle.upon_std.proofs.ordering.sorting.rows.Goals as goal

pub loop-item-preserved : goal.loop-item-preserved
loop-item-preserved c = record {
  unlike =
      let value = ap (λ (r : Bor Value). view r.now) c.unwrap_or-other.ensures ∙ value_or_none c.of-other_key.result _ view-None ∙ c.of-other_key.ensures in
      one_like_more (key_val c.args.key) c.in-Some.others.now c.item-item.result (view c.unwrap_or-first_value.result.now) (view c.unwrap_or-other.result.now)
      c.loop-item.item-index _ (omega arith) c.item-item.is value
      (ap is_some (sym c.order.ensures) ∙ c.is_none.ensures ∙ ap not c.if-is_none.false) c.loop-item.invariant.unlike;
  rows = one_row_more (key_val c.args.key) c.args.items.now c.in-Some.others.now c.in-Some.first.now c.item-item.result c.loop-item.item-index c.loop-item.rows.items
      c.push-in-loop-item.new.self.items _ c.in-Some.ensures.cases.0 (omega arith) c.item-item.is c.row_of-in-loop-item.ensures.item
      (c.row_of-in-loop-item.ensures.rank ∙ ap ranked c.of-other_key.ensures) c.in_ok-push-2.ensures.items c.loop-item.invariant.rows;
}

pub returns-then-is_none : goal.returns-then-is_none
returns-then-is_none c =
    let first = ap (λ (r : Bor Value). view r.now) c.unwrap_or-first_value.ensures ∙ value_or_none c.of-first_key.result _ view-None ∙ c.of-first_key.ensures in
    let other = ap (λ (r : Bor Value). view r.now) c.unwrap_or-other.ensures ∙ value_or_none c.of-other_key.result _ view-None ∙ c.of-other_key.ensures in
    refused_at (key_val c.args.key) c.args.items.now c.in-Some.others.now c.in-Some.first.now c.item-item.result (view c.unwrap_or-first_value.result.now)
    (view c.unwrap_or-other.result.now) c.loop-item.item-index c.in-Some.ensures.cases.0 (omega arith) c.item-item.is first other
    (ap is_some (sym c.order.ensures) ∙ c.is_none.ensures ∙ ap not c.if-is_none.true) c.loop-item.invariant.unlike
    ∙ ap Some (sym c.in_ok-refusal.ensures)

pub returns : goal.returns
returns c =
    let value = ap (λ (r : Bor Value). view r.now) c.unwrap_or-first_value.ensures ∙ value_or_none c.of-first_key.result _ view-None ∙ c.of-first_key.ensures in
    all_rows (key_val c.args.key) c.args.items.now c.in-Some.others.now c.in-Some.first.now (view c.unwrap_or-first_value.result.now) c.loop-item.item-index
    c.loop-item.rows.items c.in-Some.ensures.cases.0 value c.loop-item-test.false c.loop-item.invariant.unlike c.loop-item.invariant.rows

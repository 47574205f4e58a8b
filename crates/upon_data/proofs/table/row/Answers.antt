use Rattle.std.proofs.Common.{◌≡◌, ◌+◌, drop, inl, inr, Some, sym, ap, ◌∙◌}
use Rattle.csv.specs.Records.{field_at, fields_of}
use Rattle.upon_types.specs.Val.{text_val, map_val}
use Rattle.upon_types.specs.View.{view, entries_view}
use Rattle.upon_types.proofs.Views.{view-Map}
use Rattle.upon_json.specs.Value.{put}
use Rattle.upon_json.proofs.Rising.{entries_view-insert}
use Rattle.upon_data.specs.Table.{fields_over}
use Rattle.upon_data.proofs.Rows.{field_next, no_field, no_key}
use Rattle.upon_data.proofs.table.row.Goals as goal

pub loop-key-preserved : goal.loop-key-preserved
loop-key-preserved c =
    let inv = c.loop-key.invariant in
    let head = fields_of c.args.head.now in
    let fields = fields_of c.args.record.now in
    let at = c.loop-key.key-iterator.a.at in
    let es = entries_view c.loop-key.entries.entries in
    let more = put c.in-Some.key.now (text_val c.in-Some.field.now) es in
    let (of_key, of_field) = c.in-Some.ensures.steps in
    let (same_head, key_is, key_goes) = of_key in
    let (same_record, field_is, field_goes) = of_field in
    let key : Some c.in-Some.key.now ≡ field_at head at = key_is ∙ ap (λ row. field_at (fields_of row) at) inv.2 in
    let field : Some c.in-Some.field.now ≡ field_at fields at =
    field_is ∙ ap (λ row. field_at (fields_of row) c.loop-key.key-iterator.b.at) inv.3 ∙ ap (field_at fields) inv.4 in
    let is_put : entries_view c.insert.new.self.entries ≡ more =
    ap entries_view c.in_ok-insert.ensures.entries
    ∙ entries_view-insert c.loop-key.entries.entries c.in_ok-from_str.field-0 c.in_ok-value.value
    ∙ ap (λ name. put name (view c.in_ok-value.value) es) c.in_ok-from_str.ensures.ok
    ∙ ap (λ v. put c.in-Some.key.now v es) c.in_ok-value.ensures in (
      (tt, tt),
      tt,
      ap (λ row. row.now) same_head ∙ inv.2,
      ap (λ row. row.now) same_record ∙ inv.3,
      field_goes ∙ ap (λ n. n + 1) inv.4 ∙ sym key_goes,
      inv.5 ∙ field_next head fields at c.in-Some.key.now c.in-Some.field.now es key field
          ∙ ap (λ n. fields_over (drop n head) (drop n fields) more) (sym key_goes)
          ∙ ap (fields_over (drop c.next.new.self.a.at head) (drop c.next.new.self.a.at fields)) (sym is_put),
    )

pub returns : goal.returns
returns c =
    let inv = c.loop-key.invariant in
    let head = fields_of c.args.head.now in
    let fields = fields_of c.args.record.now in
    let at = c.loop-key.key-iterator.a.at in
    let es = entries_view c.loop-key.entries.entries in
    let rest : fields_over (drop at head) (drop at fields) es ≡ es = elim c.in-None.ensures.steps [
      | inl of_key ↦
          let (u, facts) = of_key in
          let (same, none, goes) = facts in
          no_key head fields at es (none ∙ ap (λ row. field_at (fields_of row) at) inv.2)
      | inr of_field ↦
          let (u, facts) = of_field in
          let (same, none, goes) = facts in
          no_field head fields at es (none ∙ ap (λ row. field_at (fields_of row) c.loop-key.key-iterator.b.at) inv.3 ∙ ap (field_at fields) inv.4)
    ] in
    view-Map c.loop-key.entries ∙ ap map_val (sym (inv.5 ∙ rest))

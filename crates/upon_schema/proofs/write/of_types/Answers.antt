use Rattle.std.proofs.Common.{codes, sym, ap, ◌∙◌}
use Rattle.upon_types.specs.Val.{Val, map_val}
use Rattle.upon_types.specs.View.{entries_view}
use Rattle.upon_types.proofs.Views.{view-Map}
use Rattle.upon_meaning_spec.specs.Entries.{with_entry}
use Rattle.upon_schema.proofs.Writing.{some_types}
use Rattle.upon_schema.proofs.write.of_types.Goals as goal

pub returns : goal.returns
returns c =
    let names = c.args.names in
    let es = entries_view c.args.keywords.entries in
    view-Map c.put.new.entries
    ∙ ap map_val (c.in_ok-put.ensures ∙ ap (λ (v : Val). with_entry (codes "type") v es) c.in_ok-one_or_all.ensures)
    ∙ sym (some_types names.items names.len es names.ok.0 (sym c.is_empty.ensures ∙ c.if-is_empty.false))

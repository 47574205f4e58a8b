use Rattle.std.proofs.Common.{◌≡◌, codes, sym, ap, ◌∙◌}
use Rattle.upon_types.specs.View.{view, vals_view, entries_view}
use Rattle.upon_types.specs.declared.value.Value.{List as ListValue}
use Rattle.upon_types.proofs.Views.{view-List}
use Rattle.upon_meaning_spec.specs.Entries.{with_entry}
use Rattle.upon_schema.specs.Written.{with_required}
use Rattle.upon_schema.proofs.Writing.{on_ok_more, some_required}
use Rattle.upon_schema.proofs.write.add_required.Goals as goal

pub returns : goal.returns
returns c =
    let names = c.args.names in
    let old = entries_view c.args.keywords.now.entries in
    let new = entries_view c.put.new.entries.entries in
    on_ok_more c.put.result (new ≡ with_entry (codes "required") (view (ListValue names)) old) (new ≡ with_required (vals_view names.items) old)
    (λ e. e ∙ ap (λ v. with_entry (codes "required") v old) (view-List names) ∙ sym (some_required names.items names.len old names.ok.0 (sym c.is_empty.ensures ∙ c.if-is_empty.false))) c.put.ensures

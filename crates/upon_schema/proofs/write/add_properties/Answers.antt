use Rattle.std.proofs.Common.{◌≡◌, codes, sym, ap, ◌∙◌}
use Rattle.std.proofs.lemmas.Bool.{both_ways}
use Rattle.upon_types.specs.View.{view, entries_view}
use Rattle.upon_types.specs.declared.value.Value.{Map as MapValue}
use Rattle.upon_types.proofs.Views.{view-Map}
use Rattle.upon_meaning_spec.specs.Entries.{with_entry}
use Rattle.upon_schema.specs.Written.{with_properties}
use Rattle.upon_schema.proofs.Writing.{on_ok_more, some_properties}
use Rattle.upon_schema.proofs.write.add_properties.Goals as goal

pub returns : goal.returns
returns c =
    let es = c.args.properties.entries in
    let old = entries_view c.args.keywords.now.entries in
    let new = entries_view c.put.new.entries.entries in
    on_ok_more c.put.result (new ≡ with_entry (codes "properties") (view (MapValue c.args.properties)) old) (new ≡ with_properties (entries_view es) old)
    (λ e. e ∙ ap (λ v. with_entry (codes "properties") v old) (view-Map c.args.properties)
    ∙ sym (some_properties es old (λ none. both_ways c.is_empty.result c.if-is_empty.false (c.is_empty.ensures.1 none)))) c.put.ensures

use Rattle.std.proofs.Common.{ap, ◌∙◌}
use Rattle.upon_types.specs.View.{view, entries_view}
use Rattle.upon_meaning_spec.specs.Entries.{with_entry}
use Rattle.upon_schema.proofs.Writing.{entries_view-insert}
use Rattle.upon_schema.proofs.write.put.Goals as goal

pub returns : goal.returns
returns c =
    let old = c.args.entries.now.entries in
    ap entries_view c.in_ok-insert.ensures.entries
    ∙ entries_view-insert old c.in_ok-from_str.field-0 c.args.value
    ∙ ap (λ key. with_entry key (view c.args.value) (entries_view old)) c.in_ok-from_str.ensures.ok

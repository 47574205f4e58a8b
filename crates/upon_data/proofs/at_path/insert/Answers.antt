use Rattle.std.proofs.Common.{ap, ◌∙◌}
use Rattle.upon_types.specs.View.{view, entries_view}
use Rattle.upon_json.specs.Value.{put}
use Rattle.upon_json.proofs.Rising.{entries_view-insert}
use Rattle.upon_data.proofs.at_path.insert.Goals as goal

pub returns-clause-ok : goal.returns-clause-ok
returns-clause-ok c =
    let old = c.args.entries.now.entries in
    ap entries_view c.in_ok-insert.ensures.entries
    ∙ entries_view-insert old c.in_ok-from_str.field-0 c.args.value
    ∙ ap (λ key. put key (view c.args.value) (entries_view old)) c.in_ok-from_str.ensures.ok

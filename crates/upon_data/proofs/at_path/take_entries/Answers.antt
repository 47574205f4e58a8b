use Rattle.std.proofs.Common.{◌≡◌, ap, ◌∙◌}
use Rattle.upon_types.specs.Val.{map_val}
use Rattle.upon_types.specs.View.{view, entries_view}
use Rattle.upon_types.proofs.Views.{view-Map}
use Rattle.upon_data.proofs.at_path.take_entries.Goals as goal

pub returns-in-Map-clause-taken : goal.returns-in-Map-clause-taken
returns-in-Map-clause-taken c =
    let same : c.in-Map.entries ≡ c.replace.result = cc in
    ap view c.in-Map.is ∙ view-Map c.in-Map.entries ∙ ap (λ m. map_val (entries_view m.entries)) same

use Rattle.std.proofs.Common.{option_map, ap, ◌∙◌}
use Rattle.upon_types.specs.View.{view}
use Rattle.upon_types.proofs.Views.{view-Map, view-lent, view-lookup}
use Rattle.upon_types.proofs.value.look.entry.Goals as goal

pub returns-in-Map : goal.returns-in-Map
returns-in-Map c =
    rw (c.in-Map.is, view-Map) (view-lent c.get.result ∙ ap (option_map view) c.get.ensures.value ∙ view-lookup c.args.key.now c.in-Map.entries.entries)

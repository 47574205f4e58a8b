use Rattle.std.proofs.Common.{ap, sym, ◌∙◌}
use Rattle.upon_serde.specs.Put.{pairs_so_far}
use Rattle.upon_serde.proofs.Putting.{made_at_once}
use Rattle.upon_serde.proofs.entries.Entries.into_map.Goals as goal

pub returns-in_ok-map_of-in-Row : goal.returns-in_ok-map_of-in-Row
returns-in_ok-map_of-in-Row c =
    made_at_once c.in-Row.row.items c.in_ok-map_of-in-Row.field-0 c.in_ok-map_of-in-Row.ensures ∙ sym (ap pairs_so_far c.in-Row.is)

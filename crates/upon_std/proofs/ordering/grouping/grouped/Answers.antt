use Rattle.std.proofs.Common.{map, ap, ◌∙◌}
use Rattle.std.proofs.lemmas.List.{take_all}
use Rattle.upon_types.specs.View.{view}
use Rattle.upon_std.specs.Basic.Items.{value_at_key}
use Rattle.upon_std.specs.Ordering.Grouping.{group_val}
use Rattle.upon_std.specs.Ordering.Groups.{group_parts}
use Rattle.upon_std.proofs.OrderingLemmas.Parting.{maps_of_parted}
use Rattle.upon_std.proofs.ordering.grouping.grouped.Goals as goal

pub returns : goal.returns
returns c =
    c.loop-group.invariant
    ∙ ap (λ groups. map (λ g. group_val g.0 g.1) (map group_parts groups))
    (take_all c.loop-group.group-index c.deref-group-items.result.now c.loop-group-test.false ∙ c.deref-group-items.ensures.value)
    ∙ ap (map (λ g. group_val g.0 g.1)) c.in_ok-groups.ensures ∙ maps_of_parted (value_at_key c.args.name.now) (map view c.args.items.now)

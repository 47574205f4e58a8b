use Rattle.std.proofs.Common.{◌≡◌, ◌+◌, ◌∙◌, ap, arith}
use Rattle.upon_types.specs.Weight.{bulk, items_bulk, entries_bulk}
use Rattle.upon_types.proofs.Weights.{weight-List, weight-Map}
use Rattle.upon_types.proofs.value.Value.enter.Goals as goal

pub returns-in-Ok-clause-all : goal.returns-in-Ok-clause-all
returns-in-Ok-clause-all c =
    let was : bulk c.args.self ≡ items_bulk c.in-List.items.items + 1 = ap bulk c.in-List.is ∙ weight-List c.in-List.items in
    omega (arith, weight-List c.hang_on_list.new.items, was, c.shed_items.ensures.lighter, c.in-Ok.ensures.last)

pub returns-in-Ok-clause-less : goal.returns-in-Ok-clause-less
returns-in-Ok-clause-less c =
    let was : bulk c.args.self ≡ items_bulk c.in-List.items.items + 1 = ap bulk c.in-List.is ∙ weight-List c.in-List.items in
    omega (arith, was, c.shed_items.ensures.lighter, c.in-Ok.ensures.part)

pub returns-in-Ok-hang_on_map-clause-all : goal.returns-in-Ok-hang_on_map-clause-all
returns-in-Ok-hang_on_map-clause-all c =
    let was : bulk c.args.self ≡ entries_bulk c.in-Map.entries.entries + 1 = ap bulk c.in-Map.is ∙ weight-Map c.in-Map.entries in
    omega (arith, weight-Map c.hang_on_map.new.entries, was, c.shed_entries.ensures, c.in-Ok-hang_on_map.ensures.last)

pub returns-in-Ok-hang_on_map-clause-less : goal.returns-in-Ok-hang_on_map-clause-less
returns-in-Ok-hang_on_map-clause-less c =
    let was : bulk c.args.self ≡ entries_bulk c.in-Map.entries.entries + 1 = ap bulk c.in-Map.is ∙ weight-Map c.in-Map.entries in
    omega (arith, was, c.shed_entries.ensures, c.in-Ok-hang_on_map.ensures.part)

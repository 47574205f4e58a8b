use Rattle.std.proofs.Common.{◌≡◌, length, vec_len, arith}
use Rattle.upon_types.proofs.Truths.{truth-list, truth-map}
use Rattle.upon_types.proofs.Views.{view-List, view-Map}
use Rattle.upon_types.proofs.value.cow.is_true.Goals as goal

pub returns-in-List : goal.returns-in-List
returns-in-List c =
    let same : vec_len c.in-List.items ≡ length c.in-List.items.items = omega (arith, c.in-List.items.ok.0) in
    rw (c.in-List.is, view-List, c.is_empty-in-List.ensures, same) (truth-list c.in-List.items.items)

pub returns-in-Map : goal.returns-in-Map
returns-in-Map c = let e = c.is_empty-in-Map.ensures in rw (c.in-Map.is, view-Map) (truth-map _ c.in-Map.entries.entries e.0 e.1)

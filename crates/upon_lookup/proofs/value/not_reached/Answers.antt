use Rattle.std.proofs.Common.{◌≡◌, length, arith}
use Rattle.upon_types.proofs.Views.{view-List}
use Rattle.upon_types.specs.View.{vals_view}
use Rattle.upon_lookup.specs.Vals.{val_list}
use Rattle.upon_lookup.proofs.Tells.{tells_missed}
use Rattle.upon_lookup.proofs.ValueItems.{length-val_list}
use Rattle.upon_lookup.proofs.value.not_reached.Goals as goal

pub returns-in-List-Index : goal.returns-in-List-Index
returns-in-List-Index c =
    let items = c.in-List-Index.items in
    let missed = rw (c.in-List-Index.is-0, view-List, c.in-List-Index.is-1) at c.requires.missed in
    let count : c.len.result ≡ length (val_list (vals_view items.items)) = rw (length-val_list items.items) (omega (arith, items.ok.0, c.len.ensures)) in
    rw (c.in-List-Index.is-0, view-List, c.in-List-Index.is-1) (tells_missed _ _ _ _ _ missed (rw count at c.out_of_bounds.ensures))

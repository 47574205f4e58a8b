use Rattle.std.proofs.Common.{◌≡◌, length, Some, ap, sym, ◌∙◌, arith}
use Rattle.upon_types.specs.View.{vals_view}
use Rattle.upon_std.specs.Basic.Items.{vals_in_list}
use Rattle.upon_types.proofs.Views.{view-List, view-Map}
use Rattle.upon_std.proofs.BasicLemmas.Items.{length-val_list, length-entry_list}
use Rattle.upon_std.proofs.basic.lists.count.Goals as goal

pub returns-in-List : goal.returns-in-List
returns-in-List c =
    let items = c.in-List.items.items in
    let count : c.len.result ≡ length (vals_in_list (vals_view items)) =
    omega (arith, c.len.ensures, c.in-List.items.ok.0, length-val_list items) in
    rw (c.in-List.is, view-List) (ap Some count)

pub returns-in-Map : goal.returns-in-Map
returns-in-Map c =
    rw (c.in-Map.is, view-Map) (ap Some (c.len-in-Map.ensures.len ∙ sym (length-entry_list c.in-Map.entries.entries)))

-- What a walk over a value denotes: the parts of the value that it has yet to give.
use Rattle.std.specs.Prelude.{List, [], ◌∷◌, ◌++◌, Option, Some, None, Bool}
use Rattle.std.specs.Borrow.{Bor}
use Rattle.std.specs.Slice.Iter.{iter_rest}
use Rattle.upon_types.specs.View.{view, vals_view, entries_view}
use Rattle.upon_types.specs.Walk.{ValuePart, leaf, list_begins, item_begins, list_ends, map_begins, entry_begins, map_ends, parts_of_value, parts_of_items, parts_of_entries}
use Rattle.upon_types.specs.declared.value.Value.{Value}
use Rattle.upon_types.specs.declared.value.walk.Inside.{Inside}
use Rattle.upon_types.specs.declared.value.walk.Part.{Part}
use Rattle.upon_types.specs.declared.value.walk.Part.TheVariants.{Leaf, ListBegins, ItemBegins, ListEnds, MapBegins, EntryBegins, MapEnds}
use Rattle.upon_types.specs.declared.value.walk.Rest.{Rest}
use Rattle.upon_types.specs.declared.value.walk.Rest.TheVariants.{List as ListRest, Map as MapRest}
use Rattle.upon_types.specs.declared.value.walk.Walk.{Walk}

-- the part that the code's part denotes
abbrev pub part_of : Part → ValuePart
part_of (Leaf value) = leaf (view value.now)
part_of ListBegins = list_begins
part_of (ItemBegins is_first) = item_begins is_first
part_of ListEnds = list_ends
part_of MapBegins = map_begins
part_of (EntryBegins key is_first) = entry_begins key.now is_first
part_of MapEnds = map_ends

-- the parts of the value that comes next, if there is one
abbrev pub parts_of_next : Option (Bor Value) → List ValuePart
parts_of_next None = []
parts_of_next (Some value) = parts_of_value (view value.now)

-- the parts that are left of a list or a map, whose next item or entry is its first one or not
abbrev pub parts_of_rest : Rest → Bool → List ValuePart
parts_of_rest (ListRest items) is_first = parts_of_items (vals_view (iter_rest items)) is_first
parts_of_rest (MapRest entries) is_first = parts_of_entries (entries_view entries) is_first

-- the parts that are left of a list or a map that a walk is inside of
abbrev pub parts_in : Inside → List ValuePart
parts_in inside = parts_of_rest inside.rest inside.is_first

-- the parts that come after an item or an entry began: its value's, and then those left of the list or the map;
-- none if the list or the map ended
abbrev pub parts_after : Option (Bor Value) → Inside → List ValuePart
parts_after None inside = []
parts_after (Some value) inside = parts_of_value (view value.now) ++ parts_in inside

-- the parts that are left of lists and maps that stand in one another, the innermost last: its parts come first
abbrev pub parts_inside : List Inside → List ValuePart
parts_inside [] = []
parts_inside (outer ∷ inner) = parts_inside inner ++ parts_in outer

-- the parts that a walk has yet to give
abbrev pub parts_left : Walk → List ValuePart
parts_left walk = parts_of_next walk.next ++ parts_inside walk.inside.items

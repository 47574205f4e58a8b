-- The spelling of each part of a value, as a walk over the value gives them.
use Rattle.std.specs.Prelude.{ℕ, List, [], ◌∷◌}
use Rattle.upon_types.specs.Val.{Val, none_val, bool_val, int_val, text_val, list_val, map_val}
use Rattle.upon_types.specs.Walk.{ValuePart, leaf, list_begins, item_begins, list_ends, map_begins, entry_begins, map_ends}
use Rattle.upon_std.specs.Ordering.Spelling.{text_spelling, spelling}

-- the spelling of a value in which there is no other; a list or a map is none, and has no such spelling
abbrev pub leaf_spelling : Val → List ℕ
leaf_spelling none_val = spelling none_val
leaf_spelling (bool_val b) = spelling (bool_val b)
leaf_spelling (int_val z) = spelling (int_val z)
leaf_spelling (text_val text) = spelling (text_val text)
leaf_spelling (list_val vs) = []
leaf_spelling (map_val es) = []

-- the spelling of a part
abbrev pub part_spelling : ValuePart → List ℕ
part_spelling (leaf v) = leaf_spelling v
part_spelling list_begins = 4 ∷ []
part_spelling (item_begins is_first) = 1 ∷ []
part_spelling list_ends = 0 ∷ []
part_spelling map_begins = 5 ∷ []
part_spelling (entry_begins key is_first) = 1 ∷ text_spelling key
part_spelling map_ends = 0 ∷ []

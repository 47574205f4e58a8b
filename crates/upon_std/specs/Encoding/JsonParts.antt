-- The text of JSON that each part of a value is, as a walk over the value gives them.
use Rattle.std.specs.Prelude.{ℕ, List, [], ◌∷◌, ◌++◌, Bool}
use Rattle.std.specs.Str.{byte}
use Rattle.upon_types.specs.Val.{Val, none_val, bool_val, int_val, text_val, list_val, map_val}
use Rattle.upon_types.specs.Walk.{ValuePart, leaf, list_begins, item_begins, list_ends, map_begins, entry_begins, map_ends}
use Rattle.upon_std.specs.Encoding.JsonText.{before, entry_name_text, json_text}

-- the text of a value in which there is no other; a list or a map is none, and has no such text
abbrev pub leaf_text : Val → List ℕ
leaf_text none_val = json_text none_val
leaf_text (bool_val b) = json_text (bool_val b)
leaf_text (int_val z) = json_text (int_val z)
leaf_text (text_val text) = json_text (text_val text)
leaf_text (list_val vs) = []
leaf_text (map_val es) = []

-- what stands before the value of an entry: its name, with a comma before it if it is not the first
abbrev pub entry_begin_text : List ℕ → Bool → List ℕ
entry_begin_text key is_first = before is_first ++ entry_name_text key

-- the text of a part
abbrev pub part_text : ValuePart → List ℕ
part_text (leaf v) = leaf_text v
part_text list_begins = byte "[" ∷ []
part_text (item_begins is_first) = before is_first
part_text list_ends = byte "]" ∷ []
part_text map_begins = byte "{" ∷ []
part_text (entry_begins key is_first) = entry_begin_text key is_first
part_text map_ends = byte "}" ∷ []

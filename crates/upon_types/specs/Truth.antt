-- Which values count as true.
use Rattle.std.specs.Prelude.{zero, suc, pos, negsuc, [], ◌∷◌, Bool, true, false}
use Rattle.upon_types.specs.Val.{Val, none_val, bool_val, int_val, text_val, list_val, map_val, no_vals, val_then, no_entries, entry_then}

-- no value, `false`, 0, the empty text, the empty list and the empty map are false; all else is true
abbrev pub truth : Val → Bool
truth none_val = false
truth (bool_val b) = b
truth (int_val (pos zero)) = false
truth (int_val (pos (suc n))) = true
truth (int_val (negsuc n)) = true
truth (text_val []) = false
truth (text_val (c ∷ cs)) = true
truth (list_val no_vals) = false
truth (list_val (val_then v vs)) = true
truth (map_val no_entries) = false
truth (map_val (entry_then k v es)) = true

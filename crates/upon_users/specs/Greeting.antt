-- The context of a greeting.
use Rattle.std.specs.Prelude.{ℕ, List, codes}
use Rattle.upon_types.specs.Val.{Val, text_val, map_val, no_entries, entry_then}

-- a map of one text, under `name`
abbrev pub names : List ℕ → Val
names name = map_val (entry_then (codes "name") (text_val name) no_entries)

use Rattle.std.proofs.Common.{◌≡◌, ◌++◌, map, string_bytes}
use Rattle.upon_types.specs.Val.{text_val}
use Rattle.upon_types.specs.View.{view}
use Rattle.upon_std.proofs.basic.lists.keys_of.Given as goal

-- the keys so far and then those that are left are all
abbrev pub invariant-loop-key : goal.invariant-loop-key
invariant-loop-key l = map view l.keys.items ++ map (λ e. text_val (string_bytes e.0)) l.key-iterator ≡ map (λ e. text_val (string_bytes e.0)) l.entries.entries

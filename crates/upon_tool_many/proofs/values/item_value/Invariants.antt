use Rattle.std.proofs.Common.{◌≡◌, ℕ, List}
use Rattle.upon_types.specs.Conversions.{or_else}
use Rattle.upon_types.specs.Val.{entry_at, key_of}
use Rattle.upon_types.specs.View.{view, entries_view}
use Rattle.upon_tool_many.proofs.values.item_value.Given as goal

-- what the entries so far and those that are left have at each key is what the item has there, or the others
abbrev pub invariant-loop-key : goal.invariant-loop-key
invariant-loop-key l = (key : List ℕ) → or_else (entry_at key (entries_view l.entries.entries)) (entry_at key (entries_view l.key-iterator))
    ≡ or_else (key_of key (view l.item)) (entry_at key (entries_view l.others.entries))

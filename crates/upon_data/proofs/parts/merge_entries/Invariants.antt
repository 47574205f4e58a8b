use Rattle.std.proofs.Common.{◌≡◌}
use Rattle.upon_types.specs.View.{entries_view}
use Rattle.upon_data.specs.Entries.{entries_over}
use Rattle.upon_data.proofs.parts.merge_entries.Given as goal

-- the entries with all put over them are those so far with what is left put over them
abbrev pub invariant-loop-key : goal.invariant-loop-key
invariant-loop-key l =
    entries_over (entries_view l.fn.more.entries) (entries_view l.fn.entries.entries) ≡ entries_over (entries_view l.key-iterator) (entries_view l.entries.entries)

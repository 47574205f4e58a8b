use Rattle.std.proofs.Common.{◌≡◌}
use Rattle.upon_types.specs.CopyTasks.{finished, entries_zip, entries_rest}
use Rattle.upon_types.specs.View.{entries_view}
use Rattle.upon_types.proofs.Copies.{joined}
use Rattle.upon_types.proofs.value.copy.gather_entries.Given as goal

-- the entries so far and those that are to come
abbrev pub invariant-loop-key : goal.invariant-loop-key
invariant-loop-key l = record {
  whole : joined (entries_view l.copies.entries) (entries_zip l.key-iterator (finished l.done.items)) ≡ entries_zip l.entries.entries (finished l.initial.done.items);
  left : entries_rest l.key-iterator (finished l.done.items) ≡ entries_rest l.entries.entries (finished l.initial.done.items);
}

use Rattle.std.proofs.Common.{◌≤◌}
use Rattle.std.specs.BTreeMap.{btree_map_len}
use Rattle.upon_types.specs.Weight.{entries_bulk}
use Rattle.upon_types.proofs.value.shed_entries.Given as goal

abbrev pub invariant-loop-last : goal.invariant-loop-last
invariant-loop-last l = entries_bulk l.entries.entries ≤ entries_bulk l.initial.entries.entries

abbrev pub decreases-loop-last : goal.decreases-loop-last
decreases-loop-last l = btree_map_len l.entries

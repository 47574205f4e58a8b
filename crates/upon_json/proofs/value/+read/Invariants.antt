use Rattle.std.proofs.Common.{◌≡◌, ℕ, ◌+◌, ◌*◌, ◌≤◌, length}
use Rattle.upon_types.specs.View.{entries_view}
use Rattle.upon_json.specs.Reads.{reads_items, reads_members}
use Rattle.upon_json.proofs.Reading.{list_from, map_from}
use Rattle.upon_json.proofs.value.+read.Given as goal

abbrev pub decreases-read : goal.decreases-read
decreases-read l = 2 * l.depth

abbrev pub decreases-list : goal.decreases-list
decreases-list l = 2 * l.depth + 1

abbrev pub decreases-map : goal.decreases-map
decreases-map l = 2 * l.depth + 1

-- what the tokens hold is what they held at first, of which the values so far were read
abbrev pub invariant-list-loop-alloc : goal.invariant-list-loop-alloc
invariant-list-loop-alloc l = (turns : ℕ) × (length l.reader ≤ turns) × (length l.reader ≤ length l.initial.reader)
    × (reads_items l.depth l.initial.reader ≡ list_from l.values.items l.depth turns l.reader)

abbrev pub decreases-list-loop-alloc : goal.decreases-list-loop-alloc
decreases-list-loop-alloc l = length l.reader

-- what the tokens hold is what they held at first, of which the entries so far were read
abbrev pub invariant-map-loop-entries : goal.invariant-map-loop-entries
invariant-map-loop-entries l = (turns : ℕ) × (length l.reader ≤ turns) × (length l.reader ≤ length l.initial.reader)
    × (reads_members l.depth l.initial.reader ≡ map_from (entries_view l.entries.entries) l.depth turns l.reader)

abbrev pub decreases-map-loop-entries : goal.decreases-map-loop-entries
decreases-map-loop-entries l = length l.reader

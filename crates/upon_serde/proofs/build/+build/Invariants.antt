use Rattle.std.proofs.Common.{◌+◌, ◌*◌, ◌≤◌, List, ◌++◌, map}
use Rattle.serde.specs.Event.{Event}
use Rattle.upon_types.specs.Val.{Val}
use Rattle.upon_types.specs.View.{view}
use Rattle.upon_serde.specs.Data.{Pairs}
use Rattle.upon_serde.specs.Notes.{notes_left, notes_events}
use Rattle.upon_serde.specs.Reads.{ReadsEntries, ReadsItems}
use Rattle.upon_serde.specs.Put.{pairs_so_far}
use Rattle.upon_serde.proofs.build.+build.Given as goal

-- each call looks at fewer notes, or at the same ones on the way to the value that takes one
abbrev pub decreases-value : goal.decreases-value
decreases-value l = 3 * notes_left l.notes.now

abbrev pub decreases-items : goal.decreases-items
decreases-items l = 3 * notes_left l.notes.now + 1

abbrev pub decreases-map : goal.decreases-map
decreases-map l = 3 * notes_left l.notes.now + 2

abbrev pub decreases-members : goal.decreases-members
decreases-members l = 3 * notes_left l.notes.now + 1

abbrev pub decreases-flattened : goal.decreases-flattened
decreases-flattened l = 3 * notes_left l.notes.now

-- what ends the notes to come ends them all, with the items so far before
abbrev pub invariant-items-loop-alloc : goal.invariant-items-loop-alloc
invariant-items-loop-alloc l =
    (notes_left l.notes ≤ notes_left l.initial.notes)
    × ((after : List Event) (vs : List Val) → ReadsItems (notes_events l.notes) after vs → ReadsItems (notes_events l.initial.notes) after (map view l.items.items ++ vs))

abbrev pub decreases-items-loop-alloc : goal.decreases-items-loop-alloc
decreases-items-loop-alloc l = notes_left l.notes

-- what ends the notes to come ends them all, from the entries as they were at first
abbrev pub invariant-members-loop-note : goal.invariant-members-loop-note
invariant-members-loop-note l =
    (notes_left l.notes ≤ notes_left l.initial.notes)
    × ((after : List Event) (new : Pairs) → ReadsEntries (notes_events l.notes) after (pairs_so_far l.entries) new → ReadsEntries (notes_events l.initial.notes) after (pairs_so_far l.initial.entries) new)

abbrev pub decreases-members-loop-note : goal.decreases-members-loop-note
decreases-members-loop-note l = notes_left l.notes

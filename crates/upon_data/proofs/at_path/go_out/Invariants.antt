use Rattle.std.proofs.Common.{◌≡◌, length}
use Rattle.upon_types.specs.View.{entries_view}
use Rattle.upon_data.specs.AtPath.{rebuilt}
use Rattle.upon_data.proofs.at_path.go_out.Given as goal

-- what is still around, and what was put back, are all
abbrev pub invariant-loop-outer : goal.invariant-loop-outer
invariant-loop-outer l =
    rebuilt l.around.items (entries_view l.entries.entries) ≡ rebuilt l.fn.around.items (entries_view l.fn.entries.entries)

abbrev pub decreases-loop-outer : goal.decreases-loop-outer
decreases-loop-outer l = length l.around.items

use Rattle.std.proofs.Common.{◌≡◌, ◌++◌, length}
use denote.Text.{Utf8}
use denote.Shadow.{shadow}
use Rattle.upon_store.specs.Paths.{folder_of, path_texts}
use Rattle.upon_store.proofs.path.folder_of.Given as goal

abbrev pub invariant-loop-segment : goal.invariant-loop-segment
invariant-loop-segment l = shadow (Utf8 l.rest) × (path_texts l.folder.items ++ folder_of l.rest ≡ folder_of l.fn.path)

abbrev pub decreases-loop-segment : goal.decreases-loop-segment
decreases-loop-segment l = length l.rest

use Rattle.std.proofs.Common.{◌≡◌, length}
use denote.Text.{Utf8}
use denote.Shadow.{shadow}
use Rattle.upon_store.specs.Paths.{path_steps, path_texts, segments}
use Rattle.upon_store.proofs.path.walk.Given as goal

abbrev pub invariant-loop-segment : goal.invariant-loop-segment
invariant-loop-segment l =
    shadow (Utf8 l.rest) × (path_steps (path_texts l.folder.items) (segments l.rest) ≡ path_steps (path_texts l.fn.folder.items) (segments l.fn.name))

abbrev pub decreases-loop-segment : goal.decreases-loop-segment
decreases-loop-segment l = length l.rest

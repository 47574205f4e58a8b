use Rattle.std.proofs.Common.{◌≡◌, length}
use denote.Text.{Utf8}
use denote.Shadow.{shadow}
use Rattle.upon_store.specs.Paths.{is_path}
use Rattle.upon_store.proofs.path.is_path.Given as goal

abbrev pub invariant-loop-segment : goal.invariant-loop-segment
invariant-loop-segment l = shadow (Utf8 l.rest) × (is_path l.rest ≡ is_path l.fn.text)

abbrev pub decreases-loop-segment : goal.decreases-loop-segment
decreases-loop-segment l = length l.rest

use Rattle.std.proofs.Common.{◌≡◌, length}
use denote.Shadow.{shadow}
use denote.Text.{Utf8}
use Rattle.upon_types.specs.Val.{Entries}
use Rattle.upon_types.specs.View.{view}
use Rattle.upon_data.specs.AtPath.{put_inside}
use Rattle.upon_data.specs.Entries.{keys_of}
use Rattle.upon_data.proofs.at_path.put_at.Given as goal

-- to put the value at the path is to put what is around it at what is left of the path
abbrev pub invariant-loop-before : goal.invariant-loop-before
invariant-loop-before l = record {
  text : shadow (Utf8 l.rest);
  puts : (es : Entries) → put_inside (keys_of l.fn.path) (view l.fn.value) es ≡ put_inside (keys_of l.rest) (view l.inner) es;
}

abbrev pub decreases-loop-before : goal.decreases-loop-before
decreases-loop-before l = length l.rest

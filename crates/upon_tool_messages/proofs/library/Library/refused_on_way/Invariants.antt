use Rattle.std.proofs.Common.{◌≡◌, ◌<◌, ℕ, List, None, length}
use denote.Text.{Utf8}
use denote.Shadow.{shadow}
use Rattle.upon_tool_messages.specs.Included.{IsOnWay}
use Rattle.upon_tool_messages.specs.Library.{refused_as}
use Rattle.upon_tool_messages.proofs.library.Library.refused_on_way.Given as goal

-- no longer path on the way is refused
abbrev pub invariant-loop-found : goal.invariant-loop-found
invariant-loop-found l = shadow (Utf8 l.path) × record {
  way : IsOnWay l.path l.fn.name;
  longer : (other : List ℕ) → IsOnWay other l.fn.name → length l.path < length other → refused_as l.self other ≡ None;
}

abbrev pub decreases-loop-found : goal.decreases-loop-found
decreases-loop-found l = length l.path

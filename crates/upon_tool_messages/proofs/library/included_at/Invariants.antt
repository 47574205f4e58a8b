use Rattle.std.proofs.Common.{◌≡◌, None, find, take}
use Rattle.upon_tool_messages.proofs.IncludesFound.{place_is_at}
use Rattle.upon_tool_messages.proofs.library.included_at.Given as goal

-- no include so far is at the span
abbrev pub invariant-loop-place : goal.invariant-loop-place
invariant-loop-place l = find (place_is_at l.span) (take l.place-index l.place-items) ≡ None

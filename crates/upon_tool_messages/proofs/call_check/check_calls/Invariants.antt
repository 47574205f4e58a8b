use Rattle.std.proofs.Common.{◌≡◌, ◌==◌, take}
use Rattle.std.specs.List.{list_all}
use Rattle.upon_needs.specs.Places.{call_at}
use Rattle.upon_needs.specs.declared.places.CallPlace.{CallPlace}
use Rattle.upon_tool_messages.specs.Judged.{is_right_call}
use Rattle.upon_tool_messages.proofs.call_check.check_calls.Given as goal

-- nothing is said as long as no call fails, and none is counted as long as each call is right
abbrev pub invariant-loop-call : goal.invariant-loop-call
invariant-loop-call g l = record {
  silent : l.wrong ≡ 0 → l.err ≡ l.initial.err;
  right : (l.wrong == 0) ≡ list_all (λ (place : CallPlace). is_right_call l.callables (call_at place)) (take l.call-index l.call-items);
}

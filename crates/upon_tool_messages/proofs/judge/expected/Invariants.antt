use Rattle.std.proofs.Common.{◌≡◌, replicate}
use Rattle.upon_functions.specs.Says.{arguments_view}
use Rattle.upon_types.specs.Val.{none_val}
use Rattle.upon_tool_messages.proofs.judge.expected.Given as goal

-- so many values are none
abbrev pub invariant-loop : goal.invariant-loop
invariant-loop l = arguments_view l.nothing.items ≡ replicate l.counter none_val

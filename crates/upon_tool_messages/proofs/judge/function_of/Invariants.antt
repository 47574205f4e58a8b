use Rattle.std.proofs.Common.{◌≡◌, None, take}
use Rattle.upon_tool_messages.specs.Judged.{function_named}
use Rattle.upon_tool_messages.proofs.judge.function_of.Given as goal

-- no function so far has the name
abbrev pub invariant-loop-function : goal.invariant-loop-function
invariant-loop-function l = function_named (take l.function-index l.functions) l.name ≡ None

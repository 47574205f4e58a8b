use Rattle.std.proofs.Common.{◌≡◌, ◌++◌, drop}
use Rattle.upon_tool_io.specs.World.{variables_of}
use Rattle.upon_tool_io.proofs.memory.MemorySources.variables.Given as goal

abbrev pub invariant-loop-variable : goal.invariant-loop-variable
invariant-loop-variable l =
    variables_of l.all.items ++ variables_of (drop l.variable-index l.variable-items) ≡ variables_of l.variable-items

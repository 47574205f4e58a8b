use Rattle.std.proofs.Common.{◌≡◌}
use Rattle.std.specs.Vec.Iter.{into_iter_items}
use Rattle.upon_types.specs.Val.{no_entries}
use Rattle.upon_data.specs.Parts.{data_entries}
use Rattle.upon_tool_io.specs.World.{variables_of}
use Rattle.upon_tool_data.specs.Environment.{with_variables}
use Rattle.upon_tool_data.proofs.environment.as_data.Given as goal

-- the variables that are left, over those so far, are all of them
abbrev pub invariant-loop-variable : goal.invariant-loop-variable
invariant-loop-variable l =
    with_variables (variables_of (into_iter_items l.variable-iterator)) (data_entries l.variables) ≡ with_variables (variables_of (into_iter_items l.initial.variable-iterator)) no_entries

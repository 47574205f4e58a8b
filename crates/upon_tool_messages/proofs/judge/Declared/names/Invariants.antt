use Rattle.std.proofs.Common.{◌≡◌, ◌++◌, map, take}
use Rattle.upon_std.specs.Table.{standard_name}
use Rattle.upon_needs.specs.Names.{texts}
use Rattle.upon_tool_messages.proofs.judge.Declared.names.Given as goal

-- the names of the functions so far are after the others
abbrev pub invariant-loop-function : goal.invariant-loop-function
invariant-loop-function l =
    texts l.names.items ≡ texts l.initial.names.items ++ map standard_name (take l.function-index l.function-items)

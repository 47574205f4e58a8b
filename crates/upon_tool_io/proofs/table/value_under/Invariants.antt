use Rattle.std.proofs.Common.{◌≡◌, drop}
use Rattle.upon_tool_io.specs.Table.{value_under}
use Rattle.upon_tool_io.proofs.table.value_under.Given as goal

-- the name is none of the rows so far
abbrev pub invariant-loop-row : goal.invariant-loop-row
invariant-loop-row g l = value_under l.name (drop l.row-index l.rows) ≡ value_under l.name l.rows

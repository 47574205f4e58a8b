use Rattle.std.proofs.Common.{◌≡◌, drop}
use Rattle.upon_tool_io.specs.Table.{has_flag}
use Rattle.upon_tool_io.proofs.table.has_flag.Given as goal

-- the name is none of the flags so far
abbrev pub invariant-loop-flag : goal.invariant-loop-flag
invariant-loop-flag l = has_flag l.name (drop l.flag-index l.flags) ≡ has_flag l.name l.flags

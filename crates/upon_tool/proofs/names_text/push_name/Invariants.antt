use Rattle.std.proofs.Common.{◌≡◌, ◌++◌, drop}
use Rattle.upon_tool.specs.Names.{one_line}
use Rattle.upon_tool.proofs.names_text.push_name.Given as goal

-- what was appended, with the bytes that are left, is the whole name
abbrev pub invariant-loop-byte : goal.invariant-loop-byte
invariant-loop-byte l = l.text.items ++ one_line (drop l.byte-index l.bytes) ≡ l.initial.text.items ++ one_line l.bytes

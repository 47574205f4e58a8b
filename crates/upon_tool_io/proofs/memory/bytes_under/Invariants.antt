use Rattle.std.proofs.Common.{◌≡◌, drop}
use Rattle.upon_tool_io.specs.Memory.{bytes_under}
use Rattle.upon_tool_io.proofs.memory.bytes_under.Given as goal

-- the name is none of the files so far
abbrev pub invariant-loop-file : goal.invariant-loop-file
invariant-loop-file l = bytes_under l.name (drop l.file-index l.files) ≡ bytes_under l.name l.files

use Rattle.std.proofs.Common.{◌≡◌, ◌++◌, drop}
use Rattle.upon_needs.specs.Names.{texts}
use Rattle.upon_tool.specs.Names.{lines_of}
use Rattle.upon_tool.proofs.names_text.push_lines.Given as goal

-- what was appended, with the lines that are left, is the whole
abbrev pub invariant-loop-name : goal.invariant-loop-name
invariant-loop-name l = l.text.items ++ lines_of l.kind (texts (drop l.name-index l.names)) ≡ l.initial.text.items ++ lines_of l.kind (texts l.names)

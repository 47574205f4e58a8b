use Rattle.upon_tool_many.proofs.Rows.{EachSoFar}
use Rattle.upon_tool_pages.specs.Sources.{IsReadFile}
use Rattle.upon_tool_pages.proofs.sources.read_each.Given as goal

-- each file so far was read
abbrev pub invariant-loop-name : goal.invariant-loop-name
invariant-loop-name g l = EachSoFar (IsReadFile (g.R.Sources.world l.rt) l.folder) l.name-iterator l.fn.listed.entries l.files.items

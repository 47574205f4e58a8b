use Rattle.upon_tool_many.specs.Build.{IsPageOf}
use Rattle.upon_tool_many.proofs.Rows.{EachSoFar}
use Rattle.upon_tool_many.proofs.build.planned.Given as goal

-- each file so far has its page
abbrev pub invariant-loop-path : goal.invariant-loop-path
invariant-loop-path l = EachSoFar IsPageOf l.path-iterator l.fn.files.entries l.pages.items

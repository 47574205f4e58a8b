use Rattle.std.proofs.Common.{take}
use Rattle.upon_engine.specs.Engine.{engine_syntax, engine_templates}
use Rattle.upon_tool.proofs.Checked.{SoFar}
use Rattle.upon_tool.proofs.work.check_each.Given as goal

-- what is known of the files so far
abbrev pub invariant-loop-name : goal.invariant-loop-name
invariant-loop-name g l = SoFar l.callables (g.R.Sources.world l.rt) (engine_syntax l.engine) (engine_templates l.engine) (take l.name-index l.names) (g.I.Read.remaining l.initial.input) (g.I.Read.remaining l.input) l.is_right

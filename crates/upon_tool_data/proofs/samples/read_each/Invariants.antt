use Rattle.std.proofs.Common.{map, take}
use Rattle.upon_types.specs.View.{view}
use Rattle.upon_tool_data.specs.Samples.{AreSamples}
use Rattle.upon_tool_data.proofs.SampleSteps.{groups_in}
use Rattle.upon_tool_data.proofs.samples.read_each.Given as goal

-- the contexts so far were read
abbrev pub invariant-loop-group : goal.invariant-loop-group
invariant-loop-group g l = AreSamples (g.R.Sources.world l.rt) l.words (groups_in (take l.group-index l.groups)) (g.I.Read.remaining l.initial.input) (map view l.all.items) (g.I.Read.remaining l.input)

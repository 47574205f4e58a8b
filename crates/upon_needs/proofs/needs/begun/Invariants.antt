use Rattle.std.proofs.Common.{take}
use Rattle.upon_engine.specs.Engine.{table_in}
use Rattle.upon_engine.specs.Template.{template_tree}
use Rattle.upon_needs.proofs.Begun.{BegunIn}
use Rattle.upon_needs.proofs.needs.begun.Given as goal

abbrev pub invariant-loop-name : goal.invariant-loop-name
invariant-loop-name l = BegunIn (table_in l.templates) (template_tree l.from) l.begun (take l.name-index l.names)

use Rattle.std.proofs.Common.{◌+◌, length}
use Rattle.upon_machine_spec.specs.ProgramNames.{IsListed}
use Rattle.upon_needs.specs.EngineNeeds.{Searched}
use Rattle.upon_engine.specs.Engine.{table_in}
use Rattle.upon_needs.specs.Names.{texts, has_name}
use Rattle.upon_engine.specs.Template.{template_tree}
use Rattle.upon_needs.specs.Unseen.{unseen}
use Rattle.upon_needs.proofs.needs.search.Given as goal

abbrev pub invariant-loop-name : goal.invariant-loop-name
invariant-loop-name l = Searched (table_in l.templates) l.by (template_tree l.from) (has_name l.seen) (IsListed (texts l.waiting.items))

abbrev pub decreases-loop-name : goal.decreases-loop-name
decreases-loop-name l = unseen l.templates l.seen + length l.waiting.items

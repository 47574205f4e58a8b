use Rattle.std.proofs.Common.{◌≡◌, ◌++◌}
use Rattle.upon_meaning_spec.specs.Needs.{NeedsName}
use Rattle.upon_engine.specs.Engine.{table_in}
use Rattle.upon_engine.specs.Template.{template_tree}
use Rattle.upon_needs.proofs.NeededNames.{Chosen}
use Rattle.upon_needs.proofs.needs.needed.Given as goal

abbrev pub invariant-loop-name : goal.invariant-loop-name
invariant-loop-name l = (l.yielded ++ l.name-iterator ≡ l.initial.name-iterator) × Chosen (λ name. NeedsName (table_in l.templates) (template_tree l.from) name) l.needed l.yielded

use Rattle.std.proofs.Common.{◌≡◌, take, is_some}
use Rattle.upon_engine.specs.Engine.{table_in}
use Rattle.upon_needs.proofs.NeededNames.{Chosen}
use Rattle.upon_needs.proofs.needs.with_template.Given as goal

abbrev pub invariant-loop-name : goal.invariant-loop-name
invariant-loop-name l = Chosen (λ name. is_some (table_in l.templates name) ≡ l.have) l.chosen (take l.name-index l.names)

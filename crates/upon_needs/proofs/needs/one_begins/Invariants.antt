use Rattle.std.proofs.Common.{◌≡◌, ◌++◌}
use Rattle.upon_needs.specs.EngineNeeds.{start_of}
use Rattle.upon_engine.specs.Engine.{table_in}
use Rattle.upon_needs.proofs.Begun.{NoneBegins}
use Rattle.upon_needs.proofs.needs.one_begins.Given as goal

abbrev pub invariant-loop-name : goal.invariant-loop-name
invariant-loop-name l = (l.yielded ++ l.name-iterator ≡ l.initial.name-iterator) × NoneBegins (table_in l.templates) l.yielded (start_of l.start)

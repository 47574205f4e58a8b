use Rattle.std.proofs.Common.{None, refl}
use Rattle.upon_engine.proofs.Updates.{holds_nothing}
use Rattle.upon_engine.proofs.engine.Engine.new.Goals as goal

pub returns : goal.returns
returns g c = holds_nothing _ _ (record { alloc = c.args.alloc; searcher = c.new.result; default_formatter = None; callables = c.new-2.result; templates = c.new-3.result; depth = 64 }) c.new-3.ensures.empty c.new-2.ensures.empty refl refl c.new.ensures

use Rattle.std.proofs.Common.{◌∙◌}
use Rattle.upon_engine.proofs.Updates.{refused_stays, callables_after, callables_kept, shown_before}
use Rattle.upon_engine.proofs.engine.Engine.put.Goals as goal

pub returns-in_err-name-clause-engine : goal.returns-in_err-name-clause-engine
returns-in_err-name-clause-engine g c = refused_stays _ c.from_residual.result _ _ c.from_residual.ensures.1

pub returns-in-Ok-clause-engine : goal.returns-in-Ok-clause-engine
returns-in-Ok-clause-engine g c = callables_after _ _ c.args.self.now c.insert.new.self _ _ _ c.in_ok-name.ensures.ok c.in-Ok.ensures.updates

pub returns-in-Ok-clause-replaced : goal.returns-in-Ok-clause-replaced
returns-in-Ok-clause-replaced g c = c.kind_of_old.ensures ∙ shown_before _ _ _ _ c.args.self.now.callables _ c.in_ok-name.ensures.ok c.in-Ok.ensures.old

pub returns-in-Err-clause-engine : goal.returns-in-Err-clause-engine
returns-in-Err-clause-engine g c = callables_kept _ _ c.args.self.now c.insert.new.self c.in-Err.ensures.err

use Rattle.std.proofs.Common.{sym, ◌∙◌}
use Rattle.std.proofs.lemmas.Map.Lookups.{exact_bytes}
use Rattle.upon_engine.proofs.engine.Engine.held_with_name.Goals as goal

pub returns-in-Some-clause-name : goal.returns-in-Some-clause-name
returns-in-Some-clause-name g c = c.as_str.ensures.value ∙ sym (exact_bytes c.args.name.now _ c.in-Some.ensures.same_key)

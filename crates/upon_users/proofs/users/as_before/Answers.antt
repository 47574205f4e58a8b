use Rattle.upon_types.specs.View.{view}
use Rattle.upon_lookup.specs.Environment.{context}
use Rattle.upon_users.proofs.Before.{answers_before}
use Rattle.upon_users.proofs.users.as_before.Goals as goal

pub returns : goal.returns
returns g c before t is alike = answers_before _ _ c.args.engine.now _ (context (view c.args.value.now)) c.on_value.result before t is alike c.on_value.ensures

use Rattle.upon_types.specs.View.{view}
use Rattle.upon_calls.proofs.GivenContexts.{schema_unread}
use Rattle.upon_calls.proofs.contexts.by_schema.Goals as goal

pub returns-in-Err-clause-refused : goal.returns-in-Err-clause-refused
returns-in-Err-clause-refused c = schema_unread (view c.args.schema.now) c.in-Err.fault c.schema_refused.result c.schema_refused.ensures.memory c.schema_refused.ensures.refused c.in-Err.ensures.refused

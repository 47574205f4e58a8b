use Rattle.std.proofs.Common.{sym}
use Rattle.upon_types.specs.View.{view}
use Rattle.upon_calls.specs.declared.failure.Argument.TheVariants.{Options}
use Rattle.upon_calls.proofs.GivenContexts.{lone_pages}
use Rattle.upon_calls.proofs.Refusals.{refused_for}
use Rattle.upon_calls.proofs.contexts.without_contexts.Goals as goal

pub returns-in-Some-clause-refused : goal.returns-in-Some-clause-refused
returns-in-Some-clause-refused c =
    refused_for Options c.wants.result c.wants.ensures (lone_pages (view c.args.value.now) (view c.in-Some.field-0.now) (sym c.in-Some.ensures))

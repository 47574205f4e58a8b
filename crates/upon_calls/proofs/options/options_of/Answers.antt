use Rattle.upon_types.specs.View.{view}
use Rattle.upon_calls.specs.Asked.{AsksNothing}
use Rattle.upon_calls.specs.Failure.{RefusedIf}
use Rattle.upon_calls.specs.declared.failure.Argument.TheVariants.{Options}
use Rattle.upon_calls.proofs.Asking.{no_limits}
use Rattle.upon_calls.proofs.Calls.{handed_on}
use Rattle.upon_calls.proofs.Refusals.{refused_so}
use Rattle.upon_calls.proofs.options.options_of.Goals as goal

pub returns-in_err-limits-clause-refused : goal.returns-in_err-limits-clause-refused
returns-in_err-limits-clause-refused c =
    handed_on (RefusedIf Options (AsksNothing c.args.known (view c.args.value.now))) c.in_err-limits.field-0.0 c.from_residual-in_err-limits.result c.from_residual-in_err-limits.ensures.1 (refused_so Options c.in_err-limits.field-0.0 (no_limits c.args.known (view c.args.value.now)) c.in_err-limits.ensures.refused)

use Rattle.upon_types.specs.View.{view}
use Rattle.upon_calls.specs.Asked.{IsUnasked}
use Rattle.upon_calls.specs.Failure.{RefusedIf}
use Rattle.upon_calls.specs.declared.failure.Argument.TheVariants.{Options}
use Rattle.upon_calls.proofs.Asking.{unasked, unasked_value}
use Rattle.upon_calls.proofs.Calls.{handed_on}
use Rattle.upon_calls.proofs.Refusals.{err_so, refused_so}
use Rattle.upon_calls.proofs.options.options_in.Goals as goal

pub returns-in_err-value-clause-refused : goal.returns-in_err-value-clause-refused
returns-in_err-value-clause-refused c =
    handed_on (RefusedIf Options (IsUnasked c.args.text.now)) c.in_err-value.field-0.0 c.from_residual.result c.from_residual.ensures.1 (refused_so Options c.in_err-value.field-0.0 (unasked_value c.args.text.now) c.in_err-value.ensures.refused)

pub returns-clause-refused : goal.returns-clause-refused
returns-clause-refused c =
    err_so Options c.options_of.result (unasked c.args.text.now (view c.in_ok-value.value) c.in_ok-value.ensures.read) c.options_of.ensures.refused

use Rattle.std.proofs.Common.{refl, ap, subst}
use Rattle.upon_types.specs.View.{view}
use Rattle.upon_data.specs.Fault.{is_data_memory}
use Rattle.upon_data.specs.Format.{HasNoValue, IsValueIn}
use Rattle.upon_tool_data.proofs.files.value_of.Goals as goal

pub returns-in-Ok-clause-read : goal.returns-in-Ok-clause-read
returns-in-Ok-clause-read c = subst (λ format. IsValueIn format c.args.text.now (view c.in-Ok.value)) c.format_for.ensures c.in-Ok.ensures.read

pub returns-in-Err-Refused-clause-refused : goal.returns-in-Err-Refused-clause-refused
returns-in-Err-Refused-clause-refused c =
    (refl, subst (λ format. HasNoValue format c.args.text.now) c.format_for.ensures (c.in-Err-Refused.ensures.refused (ap is_data_memory c.in-Err-Refused.field-0-is)))

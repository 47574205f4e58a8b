use Rattle.std.proofs.Common.{string_bytes, sym, subst}
use Rattle.std.proofs.lemmas.Result.{IfOk-weaker}
use Rattle.upon_types.specs.View.{view}
use Rattle.upon_data.specs.Format.{IsValueIn}
use Rattle.upon_tool_data.specs.Files.{RefusesText}
use Rattle.upon_tool_data.specs.Sources.{IsTextOf}
use Rattle.upon_tool_data.specs.Words.{format_for}
use Rattle.upon_tool_data.proofs.FileSteps.{format_refused, handed_on, on_error}
use Rattle.upon_tool_data.proofs.files.read_value.Goals as goal

pub returns-in_err-text-clause-refused : goal.returns-in_err-text-clause-refused
returns-in_err-text-clause-refused g c =
    handed_on (RefusesText (g.R.Sources.world c.args.rt.now) (format_for c.args.given c.args.name.now) c.args.name.now (g.I.Read.remaining c.args.input.now)) c.in_err-text.field-0.0 c.from_residual.result c.from_residual.ensures.1
    (c.in_err-text.ensures.refused (format_for c.args.given c.args.name.now))

pub returns-clause-read : goal.returns-clause-read
returns-clause-read g c = IfOk-weaker c.value_of.result _ _
    (λ v is. (string_bytes c.in_ok-text.text, c.in_ok-text.ensures.text, subst (λ text. IsValueIn (format_for c.args.given c.args.name.now) text (view v)) c.as_str.ensures.value is, c.text_of.ensures.kept))
    c.value_of.ensures.read

pub returns-clause-refused : goal.returns-clause-refused
returns-clause-refused g c = on_error c.value_of.result _ _
    (λ fault. format_refused (g.R.Sources.world c.args.rt.now) (format_for c.args.given c.args.name.now) (g.I.Read.remaining c.args.input.now) c.args.name.now _ fault (subst (IsTextOf (g.R.Sources.world c.args.rt.now) c.args.name.now (g.I.Read.remaining c.args.input.now)) (sym c.as_str.ensures.value) c.in_ok-text.ensures.text))
    c.value_of.ensures.refused

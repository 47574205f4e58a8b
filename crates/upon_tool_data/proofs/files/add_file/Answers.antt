use Rattle.std.proofs.lemmas.Result.{on_ok_weaker}
use Rattle.upon_types.specs.View.{view}
use Rattle.upon_data.specs.Parts.{data_entries}
use Rattle.upon_tool_data.specs.Files.{RefusesFile}
use Rattle.upon_tool_data.proofs.FileSteps.{added, handed_on, on_error, put_refused, text_refused}
use Rattle.upon_tool_data.proofs.files.add_file.Goals as goal

pub returns-in_err-value-clause-refused : goal.returns-in_err-value-clause-refused
returns-in_err-value-clause-refused g c =
    handed_on (RefusesFile (g.R.Sources.world c.args.rt.now) c.args.given c.args.word.now (g.I.Read.remaining c.args.input.now) (data_entries c.args.data.now)) c.in_err-value.field-0.0 c.from_residual.result c.from_residual.ensures.1
    (text_refused (g.R.Sources.world c.args.rt.now) c.args.given c.args.word.now c.key_and_file.result.1.now (g.I.Read.remaining c.args.input.now) c.key_and_file.ensures.file (data_entries c.args.data.now) c.in_err-value.field-0.0 c.in_err-value.ensures.refused)

pub returns-clause-added : goal.returns-clause-added
returns-clause-added g c = on_ok_weaker c.put.result
    (λ puts. added (g.R.Sources.world c.args.rt.now) c.args.given c.args.word.now c.key_and_file.result.1.now (g.I.Read.remaining c.args.input.now) c.key_and_file.ensures.file _ (view c.in_ok-value.value) _ _ _ c.key_and_file.ensures.key c.in_ok-value.ensures.read puts)
    c.put.ensures.put

pub returns-clause-refused : goal.returns-clause-refused
returns-clause-refused g c = on_error c.put.result _ _
    (λ fault refused. put_refused (g.R.Sources.world c.args.rt.now) c.args.given c.args.word.now c.key_and_file.result.1.now (g.I.Read.remaining c.args.input.now) c.key_and_file.ensures.file _ (view c.in_ok-value.value) _ _ fault c.key_and_file.ensures.key c.in_ok-value.ensures.read refused)
    c.put.ensures.refused

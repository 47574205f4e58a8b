use Rattle.upon_tool_data.specs.Context.{RefusesContext}
use Rattle.upon_tool_data.proofs.FileSteps.{handed_on}
use Rattle.upon_tool_data.proofs.ContextSteps.{context_is, environment_refused, files_refused, texts_refused, values_refused}
use Rattle.upon_tool_data.proofs.context.context.Goals as goal

pub returns-in_err-data-clause-refused : goal.returns-in_err-data-clause-refused
returns-in_err-data-clause-refused g c =
    handed_on (RefusesContext (g.R.Sources.world c.args.rt.now) c.args.words.now.env c.args.words.now.files.now c.args.words.now.format c.args.words.now.values.now c.args.words.now.texts.now (g.I.Read.remaining c.args.input.now)) c.in_err-data.field-0.0 c.from_residual.result c.from_residual.ensures.1
    (environment_refused (g.R.Sources.world c.args.rt.now) c.args.words.now.env c.args.words.now.files.now c.args.words.now.format c.args.words.now.values.now c.args.words.now.texts.now (g.I.Read.remaining c.args.input.now) c.in_err-data.field-0.0 c.in_err-data.ensures.refused)

pub returns-in_err-add_files-clause-refused : goal.returns-in_err-add_files-clause-refused
returns-in_err-add_files-clause-refused g c =
    handed_on (RefusesContext (g.R.Sources.world c.args.rt.now) c.args.words.now.env c.args.words.now.files.now c.args.words.now.format c.args.words.now.values.now c.args.words.now.texts.now (g.I.Read.remaining c.args.input.now)) c.in_err-add_files.field-0.0 c.from_residual-in_err-add_files.result c.from_residual-in_err-add_files.ensures.1
    (files_refused (g.R.Sources.world c.args.rt.now) c.args.words.now.env c.args.words.now.files.now c.args.words.now.format c.args.words.now.values.now c.args.words.now.texts.now (g.I.Read.remaining c.args.input.now) c.format_asked-given.result _ c.format_asked-given.ensures c.in_ok-data.ensures.read c.in_err-add_files.field-0.0 c.in_err-add_files.ensures.refused)

pub returns-in_err-set_each-clause-refused : goal.returns-in_err-set_each-clause-refused
returns-in_err-set_each-clause-refused g c =
    handed_on (RefusesContext (g.R.Sources.world c.args.rt.now) c.args.words.now.env c.args.words.now.files.now c.args.words.now.format c.args.words.now.values.now c.args.words.now.texts.now (g.I.Read.remaining c.args.input.now)) c.in_err-set_each.field-0.0 c.from_residual-in_err-set_each.result c.from_residual-in_err-set_each.ensures.1
    (values_refused (g.R.Sources.world c.args.rt.now) c.args.words.now.env c.args.words.now.files.now c.args.words.now.format c.args.words.now.values.now c.args.words.now.texts.now (g.I.Read.remaining c.args.input.now) c.format_asked-given.result _ c.format_asked-given.ensures c.in_ok-data.ensures.read _ _ c.in_err-set_each.field-0.0 c.in_ok-add_files.ensures.added c.in_err-set_each.ensures.refused)

pub returns-in_err-set_each-2-clause-refused : goal.returns-in_err-set_each-2-clause-refused
returns-in_err-set_each-2-clause-refused g c =
    handed_on (RefusesContext (g.R.Sources.world c.args.rt.now) c.args.words.now.env c.args.words.now.files.now c.args.words.now.format c.args.words.now.values.now c.args.words.now.texts.now (g.I.Read.remaining c.args.input.now)) c.in_err-set_each-2.field-0.0 c.from_residual-in_err-set_each-2.result c.from_residual-in_err-set_each-2.ensures.1
    (texts_refused (g.R.Sources.world c.args.rt.now) c.args.words.now.env c.args.words.now.files.now c.args.words.now.format c.args.words.now.values.now c.args.words.now.texts.now (g.I.Read.remaining c.args.input.now) c.format_asked-given.result _ c.format_asked-given.ensures c.in_ok-data.ensures.read _ _ _ c.in_err-set_each-2.field-0.0 c.in_ok-add_files.ensures.added c.in_ok-set_each.ensures.set c.in_err-set_each-2.ensures.refused)

pub returns-clause-read : goal.returns-clause-read
returns-clause-read g c =
    context_is (g.R.Sources.world c.args.rt.now) c.args.words.now.env c.args.words.now.files.now c.args.words.now.format c.args.words.now.values.now c.args.words.now.texts.now (g.I.Read.remaining c.args.input.now) c.format_asked-given.result _ c.format_asked-given.ensures c.in_ok-data.ensures.read _ _ _ _ _ c.in_ok-add_files.ensures.added c.in_ok-set_each.ensures.set c.in_ok-set_each-2.ensures.set c.into_value.ensures

use Rattle.std.proofs.Common.{refl, ap}
use Rattle.upon_types.specs.View.{view}
use Rattle.upon_data.specs.Parts.{data_entries, is_part_memory}
use Rattle.upon_tool_data.specs.Settings.{RefusesSetting}
use Rattle.upon_tool_data.proofs.FileSteps.{handed_on}
use Rattle.upon_tool_data.proofs.SettingSteps.{lacks_refused, one_set, path_refused, value_refused}
use Rattle.upon_tool_data.proofs.settings.set_one.Goals as goal

pub returns-in_default-clause-refused : goal.returns-in_default-clause-refused
returns-in_default-clause-refused c = lacks_refused c.args.writing c.args.word (data_entries c.args.data.now) c.without_equals.result c.without_equals.ensures (c.in_default.ensures.none refl)

pub returns-in_err-value-clause-refused : goal.returns-in_err-value-clause-refused
returns-in_err-value-clause-refused c =
    handed_on (RefusesSetting c.args.writing c.args.word (data_entries c.args.data.now)) c.in_err-value.field-0.0 c.from_residual.result c.from_residual.ensures.1
    (value_refused c.args.writing c.args.word c.in-Some.text.now (data_entries c.args.data.now) c.in_err-value.field-0.0 c.in-Some.ensures.after c.in_err-value.ensures.refused)

pub returns-in-Ok-clause-set : goal.returns-in-Ok-clause-set
returns-in-Ok-clause-set c =
    one_set c.args.writing c.args.word.now c.in-Some.path.now c.in-Some.text.now (view c.in_ok-value.value) _ _ (c.in-Some.ensures.some refl) c.in-Some.ensures.before c.in-Some.ensures.after c.in_ok-value.ensures.read c.in-Ok.ensures.ok

pub returns-in-Err-NotMap-clause-refused : goal.returns-in-Err-NotMap-clause-refused
returns-in-Err-NotMap-clause-refused c =
    path_refused c.args.writing c.args.word c.in-Some.path.now c.in-Some.text.now (view c.in_ok-value.value) (data_entries c.args.data.now) c.in-Some.ensures.before c.in-Some.ensures.after c.in_ok-value.ensures.read (c.in-Err-NotMap.ensures.refused (ap is_part_memory c.in-Err-NotMap.field-0-is))

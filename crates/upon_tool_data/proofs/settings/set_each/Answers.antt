use Rattle.upon_data.specs.Parts.{data_entries}
use Rattle.upon_tool_data.specs.Settings.{RefusesSettings}
use Rattle.upon_tool_data.proofs.FileSteps.{handed_on}
use Rattle.upon_tool_data.proofs.SettingSteps.{set_more, setting_refused}
use Rattle.upon_tool_data.proofs.settings.set_each.Goals as goal

pub returns-in_err-set_one-clause-refused : goal.returns-in_err-set_one-clause-refused
returns-in_err-set_one-clause-refused c =
    handed_on (RefusesSettings c.args.writing c.args.words.now (data_entries c.args.data.now)) c.in_err-set_one.field-0.0 c.from_residual.result c.from_residual.ensures.1
    (setting_refused c.args.writing c.args.words.now c.loop-word.word-index _ _ _ c.loop-word-test.true c.loop-word.invariant c.in_err-set_one.field-0.0 c.in_err-set_one.ensures.refused)

pub loop-word-preserved : goal.loop-word-preserved
loop-word-preserved c = set_more c.args.writing c.args.words.now c.loop-word.word-index _ _ _ c.loop-word-test.true c.loop-word.invariant _ c.in_ok-set_one.ensures.set

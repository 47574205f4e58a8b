use Rattle.std.proofs.Common.{refl}
use Rattle.upon_data.specs.Parts.{data_entries}
use Rattle.upon_tool_data.specs.Files.{RefusesFiles}
use Rattle.upon_tool_data.proofs.FileSteps.{added_more, handed_on, refused_at}
use Rattle.upon_tool_data.proofs.files.add_files.Goals as goal

pub loop-word-init : goal.loop-word-init
loop-word-init g c = (refl, refl)

pub returns-in_err-add_file-clause-refused : goal.returns-in_err-add_file-clause-refused
returns-in_err-add_file-clause-refused g c =
    handed_on (RefusesFiles (g.R.Sources.world c.args.rt.now) c.args.given c.args.words.now (g.I.Read.remaining c.args.input.now) (data_entries c.args.data.now)) c.in_err-add_file.field-0.0 c.from_residual.result c.from_residual.ensures.1
    (refused_at (g.R.Sources.world c.args.rt.now) c.args.given c.args.words.now c.loop-word.word-index _ _ _ _ _ c.loop-word-test.true c.loop-word.invariant c.in_err-add_file.field-0.0 c.in_err-add_file.ensures.refused)

pub loop-word-preserved : goal.loop-word-preserved
loop-word-preserved g c = added_more (g.R.Sources.world c.args.rt.now) c.args.given c.args.words.now c.loop-word.word-index _ _ _ _ _ c.loop-word-test.true c.loop-word.invariant _ _ c.in_ok-add_file.ensures.added

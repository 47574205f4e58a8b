use Rattle.std.proofs.Common.{subst, ◌∙◌}
use Rattle.upon_tool_io.specs.World.{GivesFileText}
use Rattle.upon_tool_many.proofs.FilesRead.{text_refused}
use Rattle.upon_tool_many.proofs.build.read_source.Goals as goal

pub returns-in_err-path : goal.returns-in_err-path
returns-in_err-path g c = text_refused (g.R.Sources.world c.args.rt.now) _ c.from_residual.result c.from_residual.ensures.1

pub returns : goal.returns
returns g c = subst (λ path. GivesFileText (g.R.Sources.world c.args.rt.now) path c.read_file.result) (c.as_str.ensures.value ∙ c.in_ok-path.ensures) c.read_file.ensures

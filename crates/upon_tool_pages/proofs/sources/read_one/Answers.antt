use Rattle.std.proofs.Common.{refl, ap, subst, ◌∙◌}
use Rattle.upon_tool_io.specs.Paths.{joined_path}
use Rattle.upon_tool_pages.specs.Sources.{IsReadBy}
use Rattle.upon_tool_pages.proofs.sources.read_one.Goals as goal

pub returns : goal.returns
returns g c = (
  refl,
  subst (λ path. IsReadBy (g.R.Sources.world c.args.rt.now) c.args.fault path c.read_unless-read.result) (c.as_str-2.ensures.value ∙ c.in_ok-path.ensures ∙ ap (joined_path c.args.folder.now) c.as_str.ensures.value) c.read_unless-read.ensures,
)

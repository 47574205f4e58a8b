use Rattle.std.proofs.Common.{refl, subst}
use Rattle.upon_tool_io.specs.Paths.{joined_path}
use Rattle.upon_tool_many.specs.Pages.{PageEndsBy}
use Rattle.upon_tool_many.proofs.each.render_page.Goals as goal

pub returns : goal.returns
returns g c = (
  refl,
  (c.item_text-text.result, c.item_text-text.ensures, subst (λ name. PageEndsBy (g.R.Sources.world c.args.rt.now) (joined_path c.args.asked.now.out.now name) c.item_text-text.result c.end_with-end.result (g.T.Targets.written c.args.targets.now) (g.T.Targets.written c.end_with-end.new.targets)) c.as_str.ensures.value c.end_with-end.ensures),
)

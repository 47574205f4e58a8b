use Rattle.std.proofs.Common.{Some}
use Rattle.upon_types.specs.View.{view}
use Rattle.upon_tool_pages.proofs.Sent.{failed, shown}
use Rattle.upon_tool_pages.proofs.rendering.render.Goals as goal

pub returns-in-Ok-clause-means : goal.returns-in-Ok-clause-means
returns-in-Ok-clause-means g c = λ held tree there has.
    let page = c.args.page.now in
    shown _ _ c.args.engine.now page.limits (Some page.name.now) held.text tree (view page.value.now) (g.O.Write.contents c.args.out.now) (g.O.Write.contents c.send_on.new.out) c.in-Some.rendered c.in-Ok.field-0 c.in-Ok.is (c.in-Some.ensures.means held tree there has)

pub returns-in-Err-clause-means : goal.returns-in-Err-clause-means
returns-in-Err-clause-means g c = λ held tree there has.
    let page = c.args.page.now in
    failed _ _ c.args.engine.now page.limits (Some page.name.now) held.text tree (view page.value.now) (g.O.Write.contents c.args.out.now) (g.O.Write.contents c.send_on.new.out) c.in-Some.rendered c.in-Err.error c.in-Err.is (c.in-Some.ensures.means held tree there has)

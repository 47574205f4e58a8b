use Rattle.std.proofs.Common.{Some}
use Rattle.upon_types.specs.View.{view}
use Rattle.upon_tool_pages.proofs.Sent.{handed_on, not_flushed, shows_kept, stays_kept}
use Rattle.upon_tool_pages.proofs.rendering.send.Goals as goal

pub returns-in_err-render-clause-means : goal.returns-in_err-render-clause-means
returns-in_err-render-clause-means g c = λ held tree there has.
    let page = c.args.page.now in
    handed_on _ _ c.args.engine.now page.limits (Some page.name.now) held.text tree (view page.value.now) (g.O.Write.contents c.args.out.now) (g.O.Write.contents c.render.new.out) c.in_err-render.field-0.0 c.from_residual.result c.from_residual.ensures.1 (c.in_err-render.ensures.means held tree there has)

pub returns-in-Ok-clause-means : goal.returns-in-Ok-clause-means
returns-in-Ok-clause-means g c = λ held tree there has.
    let page = c.args.page.now in
    shows_kept _ _ c.args.engine.now page.limits (Some page.name.now) held.text tree (view page.value.now) (g.O.Write.contents c.args.out.now) (g.O.Write.contents c.render.new.out) (g.O.Write.contents c.flush.new.self) c.flush.ensures.bytes (c.in_ok-render.ensures.means held tree there has)

pub returns-in-Err-clause-means : goal.returns-in-Err-clause-means
returns-in-Err-clause-means g c = λ held tree there has.
    let page = c.args.page.now in
    not_flushed _ _ c.args.engine.now page.limits (Some page.name.now) held.text tree (view page.value.now) (g.O.Write.contents c.args.out.now) (g.O.Write.contents c.render.new.out) (g.O.Write.contents c.flush.new.self) c.into.result c.into.ensures.0 c.flush.ensures.bytes (c.in_ok-render.ensures.means held tree there has)

pub returns-in-Ok-clause-bounded : goal.returns-in-Ok-clause-bounded
returns-in-Ok-clause-bounded g c =
    stays_kept c.args.page.now.limits.output (g.O.Write.contents c.args.out.now) (g.O.Write.contents c.render.new.out) (g.O.Write.contents c.flush.new.self) c.flush.ensures.bytes c.render.ensures.bounded

pub returns-in-Err-clause-bounded : goal.returns-in-Err-clause-bounded
returns-in-Err-clause-bounded g c =
    stays_kept c.args.page.now.limits.output (g.O.Write.contents c.args.out.now) (g.O.Write.contents c.render.new.out) (g.O.Write.contents c.flush.new.self) c.flush.ensures.bytes c.render.ensures.bounded

use Rattle.std.proofs.Common.{Some, true, false, sym, ◌∙◌}
use Rattle.upon_types.specs.View.{view}
use Rattle.upon_tool_pages.proofs.Sent.{grown_stays, sent_by, unlimited_stays}
use Rattle.upon_tool_pages.proofs.rendering.send_on.Goals as goal

pub returns-then-is_limited-clause-means : goal.returns-then-is_limited-clause-means
returns-then-is_limited-clause-means g c = λ held tree there has.
    let page = c.args.page.now in
    sent_by _ _ c.args.engine.now page.limits (Some page.name.now) held.text tree (view page.value.now) (g.O.Write.contents c.args.out.now) (g.O.Write.contents c.render_template_to_within.new.out) true c.render_template_to_within.result (sym c.is_limited.ensures ∙ c.if-is_limited.true) (c.render_template_to_within.ensures.means held tree there has)

pub returns-then-is_limited-clause-bounded : goal.returns-then-is_limited-clause-bounded
returns-then-is_limited-clause-bounded g c =
    grown_stays c.args.page.now.limits.output (g.O.Write.contents c.args.out.now) (g.O.Write.contents c.render_template_to_within.new.out) c.render_template_to_within.ensures.bounded

pub returns-else-is_limited-clause-means : goal.returns-else-is_limited-clause-means
returns-else-is_limited-clause-means g c = λ held tree there has.
    let page = c.args.page.now in
    sent_by _ _ c.args.engine.now page.limits (Some page.name.now) held.text tree (view page.value.now) (g.O.Write.contents c.args.out.now) (g.O.Write.contents c.render_template_to.new.out) false c.render_template_to.result (sym c.is_limited.ensures ∙ c.if-is_limited.false) (c.render_template_to.ensures.means held tree there has)

pub returns-else-is_limited-clause-bounded : goal.returns-else-is_limited-clause-bounded
returns-else-is_limited-clause-bounded g c =
    unlimited_stays c.args.page.now.limits (g.O.Write.contents c.args.out.now) (g.O.Write.contents c.render_template_to.new.out) (sym c.is_limited.ensures ∙ c.if-is_limited.false)

use Rattle.std.proofs.Common.{◌≡◌, ◌≤◌, ◌∙◌, Some, Ok, Err, refl, sym, subst}
use Rattle.upon_types.specs.View.{view}
use Rattle.upon_tool_messages.specs.Status.{tool_status}
use Rattle.upon_tool_pages.proofs.Sent.{renders_kept, stays_kept}
use Rattle.upon_tool_pages.proofs.Statuses.{least_status, most_status, no_success}
use Rattle.upon_tool_pages.proofs.rendering.show.Goals as goal

pub returns-in-Ok-clause-means : goal.returns-in-Ok-clause-means
returns-in-Ok-clause-means g c = λ held tree there has zero. c.in-Ok.ensures.means held tree there has

pub returns-clause-range : goal.returns-clause-range
returns-clause-range g c =
    let is : c.explain.result ≡ tool_status c.in-Err.failure = c.explain.ensures in
    subst (λ n. n ≤ 2) (sym is) (most_status c.in-Err.failure)

pub returns-clause-means : goal.returns-clause-means
returns-clause-means g c = λ held tree there has zero.
    let is : c.explain.result ≡ tool_status c.in-Err.failure = c.explain.ensures in
    absurd (no_success (tool_status c.in-Err.failure) (least_status c.in-Err.failure) (sym is ∙ zero))

pub returns-clause-absent : goal.returns-clause-absent
returns-clause-absent g c = λ none.
    let is : c.explain.result ≡ tool_status c.in-Err.failure = c.explain.ensures in
    subst (λ n. 1 ≤ n) (sym is) (least_status c.in-Err.failure)

pub returns-in-Ok-clause-ends : goal.returns-in-Ok-clause-ends
returns-in-Ok-clause-ends g c = λ held tree there has. (Ok tt, refl, c.in-Ok.ensures.means held tree there has, c.send.ensures.bounded)

pub returns-clause-ends : goal.returns-clause-ends
returns-clause-ends g c = λ held tree there has.
    let page = c.args.page.now in (
      Err c.in-Err.failure,
      c.explain.ensures,
      renders_kept _ _ c.args.engine.now page.limits (Some page.name.now) held.text tree (view page.value.now) (g.O.Write.contents c.args.out.now) (g.O.Write.contents c.send.new.out) (g.O.Write.contents c.flush.new.self) c.in-Err.failure c.flush.ensures.bytes (c.in-Err.ensures.means held tree there has),
      stays_kept page.limits.output (g.O.Write.contents c.args.out.now) (g.O.Write.contents c.send.new.out) (g.O.Write.contents c.flush.new.self) c.flush.ensures.bytes c.send.ensures.bounded,
    )

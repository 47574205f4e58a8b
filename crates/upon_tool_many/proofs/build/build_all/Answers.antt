use Rattle.std.proofs.Common.{arith, length, sym, subst, ◌≤◌, ◌∙◌}
use Rattle.std.specs.Vec.{vec_capacity, vec_len}
use Rattle.std.proofs.lemmas.List.{nil_from_length}
use Rattle.std.specs.Vec.Iter.{into_iter_items}
use Rattle.upon_types.specs.View.{view}
use Rattle.upon_engine.specs.Texts.{texts_of}
use Rattle.upon_tool_many.specs.Build.{DoesPage}
use Rattle.upon_tool_many.specs.Pages.{DoneInOrder}
use Rattle.upon_tool_many.proofs.Rows.{done_begun, done_ended, done_more, done_stopped, has_room, left_begun, left_more}
use Rattle.upon_tool_many.proofs.build.build_all.Goals as goal

pub loop-page-init : goal.loop-page-init
loop-page-init g c = (
  done_begun c.args.asked.now.keep_going (DoesPage (g.R.Sources.world c.args.rt.now) (texts_of (λ f. (g.dyn-1.0.entry f.vtable).1.formats f.value) (λ f. (g.dyn-2.0.entry f.vtable).1.answers f.value) c.args.engine.now) c.args.asked.now (view c.args.context.now)) (into_iter_items c.into_iter-page-iterator.result) c.in_ok-done.done.items (g.T.Targets.written c.args.targets.now) c.in_ok-done.ensures.items,
  left_begun (into_iter_items c.into_iter-page-iterator.result) _ c.in_ok-done.ensures.len,
  subst (λ items. length items ≤ vec_capacity c.in_ok-done.done) (sym c.into_iter-page-iterator.ensures.into_iter_gives.0) (subst (λ n. n ≤ vec_capacity c.in_ok-done.done) (c.len-all.ensures ∙ c.args.pages.ok.0) c.in_ok-done.ensures.capacity),
)

pub returns-then-last-clause-done : goal.returns-then-last-clause-done
returns-then-last-clause-done g c =
    subst (λ all. DoneInOrder c.args.asked.now.keep_going (DoesPage (g.R.Sources.world c.args.rt.now) (texts_of (λ f. (g.dyn-1.0.entry f.vtable).1.formats f.value) (λ f. (g.dyn-2.0.entry f.vtable).1.answers f.value) c.args.engine.now) c.args.asked.now (view c.args.context.now)) all c.push.new.self.items (g.T.Targets.written c.args.targets.now) (g.T.Targets.written c.build_page-ended.new.targets)) c.into_iter-page-iterator.ensures.into_iter_gives.0
    (done_stopped c.args.asked.now.keep_going (DoesPage (g.R.Sources.world c.args.rt.now) (texts_of (λ f. (g.dyn-1.0.entry f.vtable).1.formats f.value) (λ f. (g.dyn-2.0.entry f.vtable).1.answers f.value) c.args.engine.now) c.args.asked.now (view c.args.context.now)) _ _ _ c.loop-page.done.items c.push.new.self.items c.in-Some.page c.build_page-ended.result _ _ _ c.in-Some.ensures.steps.0 c.in_ok-push.ensures.items c.build_page-ended.ensures (sym c.is_last-last.ensures ∙ c.if-last.true) c.loop-page.invariant.0)

pub loop-page-preserved : goal.loop-page-preserved
loop-page-preserved g c = (
  done_more c.args.asked.now.keep_going (DoesPage (g.R.Sources.world c.args.rt.now) (texts_of (λ f. (g.dyn-1.0.entry f.vtable).1.formats f.value) (λ f. (g.dyn-2.0.entry f.vtable).1.answers f.value) c.args.engine.now) c.args.asked.now (view c.args.context.now)) _ _ _ c.loop-page.done.items c.push.new.self.items c.in-Some.page c.build_page-ended.result _ _ _ c.in-Some.ensures.steps.0 c.in_ok-push.ensures.items c.build_page-ended.ensures (sym c.is_last-last.ensures ∙ c.if-last.false) c.loop-page.invariant.0,
  left_more _ _ _ _ _ c.in-Some.page c.in-Some.ensures.steps.0 c.in_ok-push.ensures.len c.loop-page.invariant.1,
  omega (arith, c.loop-page.invariant.2, c.in_ok-push.ensures.capacity),
)

pub returns-clause-done : goal.returns-clause-done
returns-clause-done g c =
    let none = nil_from_length (into_iter_items c.loop-page.page-iterator) (sym c.loop-page.page-iterator.rest.ok.0 ∙ c.in-None.ensures.steps.0) in
    subst (λ all. DoneInOrder c.args.asked.now.keep_going (DoesPage (g.R.Sources.world c.args.rt.now) (texts_of (λ f. (g.dyn-1.0.entry f.vtable).1.formats f.value) (λ f. (g.dyn-2.0.entry f.vtable).1.answers f.value) c.args.engine.now) c.args.asked.now (view c.args.context.now)) all c.loop-page.done.items (g.T.Targets.written c.args.targets.now) (g.T.Targets.written c.loop-page.targets)) c.into_iter-page-iterator.ensures.into_iter_gives.0
    (done_ended c.args.asked.now.keep_going (DoesPage (g.R.Sources.world c.args.rt.now) (texts_of (λ f. (g.dyn-1.0.entry f.vtable).1.formats f.value) (λ f. (g.dyn-2.0.entry f.vtable).1.answers f.value) c.args.engine.now) c.args.asked.now (view c.args.context.now)) (into_iter_items c.loop-page.page-iterator) _ c.loop-page.done.items _ _ none c.loop-page.invariant.0)

-- there is room for each page
pub returns-in_err-push-clause-unwritten : goal.returns-in_err-push-clause-unwritten
returns-in_err-push-clause-unwritten g c = absurd (has_room _ _ _ (vec_len c.loop-page.done) (vec_capacity c.loop-page.done) c.in-Some.page c.in-Some.ensures.steps.0 c.loop-page.invariant.1 c.loop-page.invariant.2 c.in_err-push.ensures.full)

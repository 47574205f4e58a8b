use Rattle.std.proofs.Common.{subst, sym, ◌∙◌}
use Rattle.std.proofs.lemmas.List.{nil_from_length}
use Rattle.std.specs.Vec.Iter.{into_iter_items}
use Rattle.upon_types.specs.View.{entries_view}
use Rattle.upon_engine.specs.Texts.{texts_of}
use Rattle.upon_tool_many.specs.Each.{NamesItem, NamesItems}
use Rattle.upon_tool_many.proofs.Refused.{item_refused}
use Rattle.upon_tool_many.proofs.Rows.{each_begun, each_ended, each_more, left_begun, left_more}
use Rattle.upon_tool_many.proofs.each.named.Goals as goal

pub loop-item-init : goal.loop-item-init
loop-item-init g c = (
  each_begun (NamesItem (texts_of (λ f. (g.dyn-1.0.entry f.vtable).1.formats f.value) (λ f. (g.dyn-2.0.entry f.vtable).1.answers f.value) c.args.engine.now) c.args.asked.now (entries_view c.args.others.now.entries)) (into_iter_items c.into_iter-item-iterator.result) c.new-pages.result.items c.new-pages.ensures.items,
  left_begun (into_iter_items c.into_iter-item-iterator.result) _ c.new-pages.ensures.len,
)

pub loop-item-preserved : goal.loop-item-preserved
loop-item-preserved g c = (
  each_more (NamesItem (texts_of (λ f. (g.dyn-1.0.entry f.vtable).1.formats f.value) (λ f. (g.dyn-2.0.entry f.vtable).1.answers f.value) c.args.engine.now) c.args.asked.now (entries_view c.args.others.now.entries)) _ _ _ c.loop-item.pages.items c.push.new.self.items c.in-Some.item c.in_ok-page.page c.in-Some.ensures.steps.0 c.in_ok-push.ensures.items c.in_ok-page.ensures.named c.loop-item.invariant.0,
  left_more _ _ _ _ _ c.in-Some.item c.in-Some.ensures.steps.0 c.in_ok-push.ensures.len c.loop-item.invariant.1,
)

pub returns-in_err-page-clause-refused : goal.returns-in_err-page-clause-refused
returns-in_err-page-clause-refused g c =
    item_refused (texts_of (λ f. (g.dyn-1.0.entry f.vtable).1.formats f.value) (λ f. (g.dyn-2.0.entry f.vtable).1.answers f.value) c.args.engine.now) c.args.asked.now (entries_view c.args.others.now.entries) c.args.items.items _ _ _ c.len.result _ c.in-Some.item c.in_err-page.field-0.0 c.from_residual.result
    c.into_iter-item-iterator.ensures.into_iter_gives.0 c.in-Some.ensures.steps.0 c.len.ensures c.loop-item.invariant.1 c.from_residual.ensures.1 c.in_err-page.ensures.refused

pub returns-clause-named : goal.returns-clause-named
returns-clause-named g c =
    let none = nil_from_length (into_iter_items c.loop-item.item-iterator) (sym c.loop-item.item-iterator.rest.ok.0 ∙ c.in-None.ensures.steps.0) in
    subst (λ all. NamesItems (texts_of (λ f. (g.dyn-1.0.entry f.vtable).1.formats f.value) (λ f. (g.dyn-2.0.entry f.vtable).1.answers f.value) c.args.engine.now) c.args.asked.now (entries_view c.args.others.now.entries) all c.loop-item.pages.items) c.into_iter-item-iterator.ensures.into_iter_gives.0
    (each_ended (NamesItem (texts_of (λ f. (g.dyn-1.0.entry f.vtable).1.formats f.value) (λ f. (g.dyn-2.0.entry f.vtable).1.answers f.value) c.args.engine.now) c.args.asked.now (entries_view c.args.others.now.entries)) (into_iter_items c.loop-item.item-iterator) _ c.loop-item.pages.items none c.loop-item.invariant.0)

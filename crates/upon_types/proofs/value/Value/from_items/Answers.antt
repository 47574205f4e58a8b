use Rattle.std.proofs.Common.{sym, subst, ◌∙◌}
use Rattle.std.proofs.iter.SoFar.{exit_by}
use Rattle.upon_types.specs.Conversions.{EachConverts}
use Rattle.upon_types.proofs.Views.{view-List}
use Rattle.upon_types.proofs.ConversionLemmas.{EachConverts-append}
use Rattle.upon_types.proofs.value.Value.from_items.Goals as goal

pub loop-item-preserved : goal.loop-item-preserved
loop-item-preserved g c =
    let more = EachConverts-append g.V.Into.converts c.loop-item.yielded c.loop-item.values.items c.in-Some.item c.into.result c.loop-item.invariant c.into.ensures in
    rw c.in_ok-push.ensures.items more

pub returns : goal.returns
returns g c =
    let ran = exit_by g.I.Iterator.next_gives (c.loop-item.yielded, c.loop-item.yielded_by) c.next.new.self c.in-None.ensures.steps in
    let each = subst (λ xs. EachConverts g.V.Into.converts xs c.loop-item.values.items) (sym ran.3.0) c.loop-item.invariant in
    (ran.0, ran.1 ∙ c.into_iter-item-iterator.ensures.into_iter_gives, ran.2, (c.loop-item.values.items, each, view-List c.loop-item.values))

use Rattle.std.proofs.Common.{◌∷◌, [], ◌++◌, sym, subst, ◌∙◌}
use Rattle.std.proofs.iter.SoFar.{exit_by}
use Rattle.upon_types.specs.Conversions.{EachConverts, converts_entry, pairs_of, HoldsLast}
use Rattle.upon_types.specs.View.{view}
use Rattle.upon_types.specs.declared.value.Value.{Map as MapValue}
use Rattle.upon_types.proofs.Bindings.{rises-entries}
use Rattle.upon_types.proofs.ConversionLemmas.{EachConverts-append, last_at-insert}
use Rattle.upon_types.proofs.Views.{view-Map}
use Rattle.upon_types.proofs.value.Value.from_entries.Goals as goal

pub loop-key-preserved : goal.loop-key-preserved
loop-key-preserved g c =
    let R = converts_entry g.V.Into.converts in
    let so_far = c.loop-key.invariant in (
      so_far.0 ++ c.into.result ∷ [],
      EachConverts-append R c.loop-key.yielded so_far.0 (c.in-Some.key, c.in-Some.item) c.into.result so_far.1 c.into.ensures,
      rises-entries c.insert.new.self.entries c.in_ok-insert.ensures.ordered,
      last_at-insert R c.loop-key.values c.insert.new.self c.loop-key.yielded so_far.0 (c.in-Some.key, c.in-Some.item) c.into.result so_far.1 so_far.3 c.in_ok-insert.ensures.updates,
    )

pub returns : goal.returns
returns g c =
    let R = converts_entry g.V.Into.converts in
    let so_far = c.loop-key.invariant in
    let ran = exit_by g.I.Iterator.next_gives (c.loop-key.yielded, c.loop-key.yielded_by) c.next.new.self c.in-None.ensures.steps in
    let each = subst (λ es. EachConverts R es so_far.0) (sym ran.3.0) so_far.1 in
    let last = subst (λ es. HoldsLast (pairs_of es so_far.0) (view (MapValue c.loop-key.values))) (sym ran.3.0) (subst (HoldsLast (pairs_of c.loop-key.yielded so_far.0)) (sym (view-Map c.loop-key.values)) (so_far.2, so_far.3)) in
    (ran.0, ran.1 ∙ c.into_iter-key-iterator.ensures.into_iter_gives, ran.2, (so_far.0, each, last))

use Rattle.std.proofs.Common.{◌≡◌, ◌++◌, ◌∷◌, [], ◌∙◌, map, drop, ap, sym}
use Rattle.std.proofs.lemmas.List.{map-append}
use Rattle.upon_types.specs.CopyTasks.{finished}
use Rattle.upon_types.specs.View.{view}
use Rattle.upon_types.proofs.CopyTasks.{finished-push, gathered}
use Rattle.upon_types.proofs.value.copy.gather_items.Goals as goal

pub loop-i-preserved : goal.loop-i-preserved
loop-i-preserved c =
    let s = finished c.args.done.now.items in
    let copy = c.in-Some.copy in
    let before = c.loop-i.invariant in
    let at : drop c.loop-i._i s ≡ view copy ∷ finished c.pop.new.self.items =
    sym before.left ∙ ap finished c.in-Some.ensures.items ∙ finished-push c.pop.new.self.items copy in
    let both = gathered c.loop-i._i s (finished c.pop.new.self.items) (view copy) at in
    record {
      taken = ap (map view) c.in_ok-push-in-Some.ensures.items ∙ map-append view c.loop-i.copies.items (copy ∷ []) ∙ ap (λ l. l ++ view copy ∷ []) before.taken ∙ sym both.0;
      left = sym both.1;
    }

use Rattle.std.proofs.Common.{◌≡◌, ◌++◌, [], ◌∷◌, ◌∙◌, ap, sym, rules}
use Rattle.upon_types.specs.Weight.{all_bare}
use Rattle.upon_types.proofs.Weights.{all_bare-append, all_bare-last}
use Rattle.upon_types.proofs.value.many_are_bare.Goals as goal

pub returns-then-holds_values : goal.returns-then-holds_values
returns-then-holds_values c =
    let step : c.loop-value.value-iterator.iter ≡ c.next.new.self.iter ++ c.in-Some.value.now ∷ [] = search rules in
    sym (c.loop-value.invariant.2 ∙ ap all_bare step ∙ all_bare-last c.next.new.self.iter c.in-Some.value.now (sym c.if-holds_values.ensures))

pub loop-value-preserved : goal.loop-value-preserved
loop-value-preserved c =
    let step : c.loop-value.value-iterator.iter ≡ c.next.new.self.iter ++ c.in-Some.value.now ∷ [] = search rules in
    (tt, tt, c.loop-value.invariant.2 ∙ ap all_bare step ∙ all_bare-append c.next.new.self.iter c.in-Some.value.now (sym c.if-holds_values.ensures))

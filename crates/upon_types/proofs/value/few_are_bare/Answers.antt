use Rattle.std.proofs.Common.{◌≡◌, ◌∷◌, ◌∙◌, ap, sym, rules}
use Rattle.upon_types.specs.Weight.{all_bare}
use Rattle.upon_types.proofs.Weights.{all_bare-bare, all_bare-first}
use Rattle.upon_types.proofs.value.few_are_bare.Goals as goal

pub returns-then-holds_values : goal.returns-then-holds_values
returns-then-holds_values c =
    let step : c.loop-value.value-iterator ≡ c.in-Some.value.now ∷ c.next.new.self = search rules in
    sym (c.loop-value.invariant.2 ∙ ap all_bare step ∙ all_bare-first c.in-Some.value.now c.next.new.self (sym c.if-holds_values.ensures))

pub loop-value-preserved : goal.loop-value-preserved
loop-value-preserved c =
    let step : c.loop-value.value-iterator ≡ c.in-Some.value.now ∷ c.next.new.self = search rules in
    (tt, tt, c.loop-value.invariant.2 ∙ ap all_bare step ∙ all_bare-bare c.in-Some.value.now c.next.new.self (sym c.if-holds_values.ensures))

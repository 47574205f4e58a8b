use Rattle.std.proofs.Common.{◌≡◌, ◌∷◌, ◌∙◌, ap, rules}
use Rattle.upon_types.specs.Weight.{all_bare}
use Rattle.upon_types.proofs.Weights.{all_bare-rest, all_bare-first}
use Rattle.upon_types.proofs.value.+shallow.Goals as goal

pub are_all_shallow-returns-then-not-is_shallow : goal.are_all_shallow-returns-then-not-is_shallow
are_all_shallow-returns-then-not-is_shallow t c _ =
    let step : c.loop-value.value-iterator ≡ c.in-Some.value.now ∷ c.next.new.self = search rules in
    c.loop-value.invariant.2 (ap all_bare step ∙ all_bare-first c.in-Some.value.now c.next.new.self (search rules))

pub are_all_shallow-loop-value-preserved : goal.are_all_shallow-loop-value-preserved
are_all_shallow-loop-value-preserved t c =
    let step : c.loop-value.value-iterator ≡ c.in-Some.value.now ∷ c.next.new.self = search rules in
    (tt, tt, λ rest. c.loop-value.invariant.2 (ap all_bare step ∙ all_bare-rest c.in-Some.value.now c.next.new.self rest))

-- How the integers of a range follow one another.
use Rattle.std.proofs.Common.{◌≡◌, suc, ℤ, pos, negsuc, ◌+ℤ◌, ◌-ℤ◌, ◌<ℤ◌, List, [], ◌∷◌, ◌++◌, map, ap, sym, ◌∙◌, append_assoc, arith}
use Rattle.std.proofs.lemmas.Int.{ints}
use Rattle.std.proofs.lemmas.List.{map_push}
use Rattle.upon_types.specs.Val.{Val, int_val}
use Rattle.upon_types.specs.View.{view}
use Rattle.upon_types.specs.declared.value.Value.{Value}
use Rattle.upon_std.specs.Cutting.Numbers.{from_zero, integers_from, range_count}

-- a distance above 0 is one more than the next
from_zero-suc : (d e : ℤ) → pos 0 <ℤ d → e +ℤ pos 1 ≡ d → from_zero d ≡ suc (from_zero e)
from_zero-suc d (pos n) above next = ap from_zero (sym next) ∙ omega (arith, ints)
from_zero-suc d (negsuc n) above next = absurd (omega (arith, ints))

pub range_count-suc : (y z : ℤ) → y <ℤ z → range_count y z ≡ suc (range_count (y +ℤ pos 1) z)
range_count-suc y z below = from_zero-suc (z -ℤ y) (z -ℤ (y +ℤ pos 1)) (omega (arith, ints)) (omega (arith, ints))

-- one more integer
pub one_more_integer : (y z next : ℤ) (made new : List Value) (v : Value) (whole : List Val) → y <ℤ z → next ≡ y +ℤ pos 1 → new ≡ made ++ (v ∷ []) → view v ≡ int_val y
    → map view made ++ integers_from y (range_count y z) ≡ whole → map view new ++ integers_from next (range_count next z) ≡ whole
one_more_integer y z next made new v whole below of_next of_new of_v so_far =
    let rest = integers_from (y +ℤ pos 1) (range_count (y +ℤ pos 1) z) in
    ap (λ n. map view new ++ integers_from n (range_count n z)) of_next
    ∙ ap (λ vs. vs ++ rest) (ap (map view) of_new ∙ map_push view made v ∙ ap (λ w. map view made ++ (w ∷ [])) of_v)
    ∙ append_assoc (map view made) (int_val y ∷ []) rest
    ∙ ap (λ n. map view made ++ integers_from y n) (sym (range_count-suc y z below)) ∙ so_far

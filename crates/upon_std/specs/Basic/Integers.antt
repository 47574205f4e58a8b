-- What the functions of integers answer, by what their arguments denote. Integers have 64 bits.
use Rattle.std.specs.Prelude.{ℤ, zero, suc, pos, negsuc, ◌+ℤ◌, ◌-ℤ◌, ◌*ℤ◌, neg_ℤ, List, [], ◌∷◌, nat_le, int_div, int_rem, unsigned_abs, codes, if◌then◌else◌}
use Rattle.std.specs.Int.{int_min, int_max}
use Rattle.upon_functions.specs.Integers.{i64_range}
use Rattle.upon_functions.specs.Outcome.{Returned, value, refusal}
use Rattle.upon_functions.specs.Adapters.{adapter_answer}
use Rattle.upon_types.specs.Answers.{Answer}
use Rattle.upon_types.specs.Misfits.{Test, integer_misfit}
use Rattle.upon_types.specs.Val.{Val, int_val, text_val}
use Rattle.upon_std.specs.Basic.Held.{held_integer}
use Rattle.upon_std.specs.Basic.Decimal.{decimal_text, most_places}
use Rattle.upon_std.specs.declared.basic.integers.Operation.{Operation}
use Rattle.upon_std.specs.declared.basic.integers.Operation.TheVariants.{Add, Subtract, Multiply, Divide, Remainder, Minimum, Maximum}
use Rattle.upon_std.specs.declared.basic.integers.Sign.{Sign}
use Rattle.upon_std.specs.declared.basic.integers.Sign.TheVariants.{Negate, Absolute}
use Rattle.upon_std.specs.declared.basic.integers.Integers.{Integers}
use Rattle.upon_std.specs.declared.basic.integers.Integers.TheVariants.{OfTwo, OfOne, Decimal}

-- the outcome of `div`: the quotient, rounded towards 0
abbrev pub quotient : ℤ → ℤ → Returned
quotient y (pos zero) = refusal (codes "division by zero")
quotient y (pos (suc n)) = held_integer (int_div y (pos (suc n)))
quotient y (negsuc n) = held_integer (int_div y (negsuc n))

-- the outcome of `rem`: what that quotient leaves, which has the sign of the dividend
abbrev pub remainder : ℤ → ℤ → Returned
remainder y (pos zero) = refusal (codes "division by zero")
remainder y (pos (suc n)) = value (int_val (int_rem y (pos (suc n))))
remainder y (negsuc n) = value (int_val (int_rem y (negsuc n)))

-- what an operation makes of two integers
abbrev pub computed : Operation → ℤ → ℤ → Returned
computed Add y z = held_integer (y +ℤ z)
computed Subtract y z = held_integer (y -ℤ z)
computed Multiply y z = held_integer (y *ℤ z)
computed Divide y z = quotient y z
computed Remainder y z = remainder y z
computed Minimum y z = value (int_val (int_min y z))
computed Maximum y z = value (int_val (int_max y z))

-- what an operation makes of one integer
abbrev pub signed : Sign → ℤ → Returned
signed Negate z = held_integer (neg_ℤ z)
signed Absolute z = held_integer (pos (unsigned_abs z))

-- the outcome of a function of two integers
abbrev pub of_two_outcome : Operation → List Val → Returned
of_two_outcome operation ((int_val y) ∷ (int_val z) ∷ vs) = computed operation y z
of_two_outcome operation vs = refusal []

-- the outcome of a function of one integer
abbrev pub of_one_outcome : Sign → List Val → Returned
of_one_outcome operation ((int_val z) ∷ vs) = signed operation z
of_one_outcome operation vs = refusal []

-- an integer with a number of places after the point, from 0 to 18
abbrev pub decimal_outcome : List Val → Returned
decimal_outcome ((int_val z) ∷ (int_val (pos places)) ∷ vs) = if nat_le places most_places
    then value (text_val (decimal_text z places)) else refusal (codes "decimal takes 0 to 18 places")
decimal_outcome ((int_val z) ∷ (int_val (negsuc n)) ∷ vs) = refusal (codes "decimal takes 0 to 18 places")
decimal_outcome vs = refusal []

-- an argument that is an integer
abbrev pub long_misfit : Test
long_misfit = integer_misfit i64_range

-- what each function of this group answers
abbrev pub integers_answer : Integers → List Val → Answer
integers_answer (OfTwo operation) = adapter_answer (long_misfit ∷ long_misfit ∷ []) (of_two_outcome operation)
integers_answer (OfOne operation) = adapter_answer (long_misfit ∷ []) (of_one_outcome operation)
integers_answer Decimal = adapter_answer (long_misfit ∷ long_misfit ∷ []) decimal_outcome

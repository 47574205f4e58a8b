-- What is reported of wrong arguments, where an adapter's answer becomes a fault. `double` and `add` are functions of
-- integers of 64 bits, `low` of an integer of eight bits without a sign.
use Rattle.std.specs.Fmt.{digits}
use Rattle.std.proofs.Common.{◌≡◌, ℕ, pos, List, [], ◌∷◌, refl, codes}
use Rattle.upon.specs.Adapters.{adapter_answer}
use Rattle.upon.specs.Misfits.{Test, integer_misfit}
use Rattle.upon.specs.Integers.{i64_range, u8_range}
use Rattle.upon.specs.FunctionOutcome.{Returned}
use Rattle.upon.specs.Evaluation.{Operand, answer_value, operand, values_of}
use Rattle.upon.specs.Finding.{Finding, at_fault, found}
use Rattle.upon.specs.LookupFaults.{wrong}
use Rattle.upon_examples.specs.Callables.{doubled, added, echoed}
use Rattle.upon.specs.Val.{Val, int_val, text_val}
use Rattle.upon.specs.DeclaredSpan.{Span}

abbrev at : ℕ → ℕ → Span
at m n = record { m = m; n = n }

abbrev whole : Span
whole = at 3 14

-- what the function of this name answers
abbrev calls : List ℕ → List Test → (List Val → Returned) → List Operand → Finding Val
calls name tests meaning given = answer_value (record { text = name; span = at 8 14 }) whole given (adapter_answer tests meaning (values_of given))

abbrev i64 : Test
i64 = integer_misfit i64_range

abbrev u8 : Test
u8 = integer_misfit u8_range

twice_an_integer : calls (codes "double") (i64 ∷ []) doubled (operand (int_val (pos 21)) (at 3 5) ∷ []) ≡ found (int_val (pos 42))
unfolding digits
twice_an_integer = refl

twice_a_text : calls (codes "double") (i64 ∷ []) doubled (operand (text_val (codes "x")) (at 3 6) ∷ []) ≡ at_fault (wrong (codes "function `double` expects i64 argument, found string") (at 3 6))
unfolding digits
twice_a_text = refl

twice_nothing : calls (codes "double") (i64 ∷ []) doubled [] ≡ at_fault (wrong (codes "function expects 1 arguments, 0 provided") whole)
unfolding digits
twice_nothing = refl

out_of_eight_bits : calls (codes "low") (u8 ∷ []) echoed (operand (int_val (pos 300)) (at 3 6) ∷ []) ≡ at_fault (wrong (codes "function `low` expects u8 argument, but `300` is out of range") (at 3 6))
unfolding digits
out_of_eight_bits = refl

second_is_a_text : calls (codes "add") (i64 ∷ i64 ∷ []) added (operand (int_val (pos 1)) (at 3 4) ∷ operand (text_val (codes "x")) (at 12 15) ∷ []) ≡ at_fault (wrong (codes "function `add` expects i64 argument, found string") (at 12 15))
unfolding digits
second_is_a_text = refl

-- the first of two that do not fit
first_from_the_left : calls (codes "add") (i64 ∷ i64 ∷ []) added (operand (text_val []) (at 3 5) ∷ operand (text_val (codes "x")) (at 12 15) ∷ []) ≡ at_fault (wrong (codes "function `add` expects i64 argument, found string") (at 3 5))
unfolding digits
first_from_the_left = refl

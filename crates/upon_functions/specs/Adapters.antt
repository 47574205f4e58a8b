-- What an adapter answers: it tests the number of arguments, then each from the left, then its callable answers.
use Rattle.std.specs.Prelude.{ℕ, ◌+◌, ◌==◌, List, ◌∷◌, Option, Some, None, length, if◌then◌else◌}
use Rattle.upon_types.specs.Misfits.{Test}
use Rattle.upon_functions.specs.Outcome.{Returned, answer_of}
use Rattle.upon_types.specs.Answers.{Answer, Misfit, wrong_number, wrong_argument}
use Rattle.upon_types.specs.Val.{Val}

-- the callable's answer, unless the argument at an index does not fit
abbrev pub unless_misfit : Option Misfit → ℕ → Answer → Answer
unless_misfit None i answer = answer
unless_misfit (Some misfit) i answer = wrong_argument i misfit

-- each argument is tested from the left, from an index on
abbrev pub after_tests : List Test → ℕ → List Val → Answer → Answer
after_tests (test ∷ tests) i (v ∷ vs) answer = unless_misfit (test v) i (after_tests tests (i + 1) vs answer)
after_tests tests i vs answer = answer

-- what an adapter with these tests answers, of a callable with this meaning
abbrev pub adapter_answer : List Test → (List Val → Returned) → List Val → Answer
adapter_answer tests meaning vs =
    if length vs == length tests then after_tests tests 0 vs (answer_of (meaning vs)) else wrong_number (length tests)

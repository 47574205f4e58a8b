-- What the functions that compare and choose answer.
use Rattle.std.specs.Prelude.{List, [], ◌∷◌}
use Rattle.upon_functions.specs.Adapters.{adapter_answer}
use Rattle.upon_types.specs.Answers.{Answer}
use Rattle.upon_types.specs.Misfits.{any_misfit}
use Rattle.upon_types.specs.Val.{Val}
use Rattle.upon_std.specs.Basic.Choices.{equal_outcome, not_equal_outcome, ordered_outcome, not_outcome, and_outcome, or_outcome, default_outcome, choose_answer}
use Rattle.upon_std.specs.declared.basic.comparing.Comparing.{Comparing}
use Rattle.upon_std.specs.declared.basic.comparing.Comparing.TheVariants.{Equal, NotEqual, Ordered, Not, And, Or, Default, Choose}

-- what each function of this group answers: each takes every value
abbrev pub comparing_answer : Comparing → List Val → Answer
comparing_answer Equal = adapter_answer (any_misfit ∷ any_misfit ∷ []) equal_outcome
comparing_answer NotEqual = adapter_answer (any_misfit ∷ any_misfit ∷ []) not_equal_outcome
comparing_answer (Ordered relation) = adapter_answer (any_misfit ∷ any_misfit ∷ []) (ordered_outcome relation)
comparing_answer Not = adapter_answer (any_misfit ∷ []) not_outcome
comparing_answer And = adapter_answer (any_misfit ∷ any_misfit ∷ []) and_outcome
comparing_answer Or = adapter_answer (any_misfit ∷ any_misfit ∷ []) or_outcome
comparing_answer Default = adapter_answer (any_misfit ∷ any_misfit ∷ []) default_outcome
comparing_answer Choose = choose_answer

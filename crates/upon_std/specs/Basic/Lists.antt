-- What the functions of lists and maps answer.
use Rattle.std.specs.Prelude.{List, [], ◌∷◌}
use Rattle.upon_functions.specs.Adapters.{adapter_answer}
use Rattle.upon_types.specs.Answers.{Answer}
use Rattle.upon_types.specs.Misfits.{any_misfit, list_misfit, map_misfit, str_misfit}
use Rattle.upon_types.specs.Val.{Val, list_val}
use Rattle.upon_std.specs.Basic.Items.{length_outcome, list_outcome, map_outcome, first_val, last_val, reversed, key_vals, value_vals, get_answer}
use Rattle.upon_std.specs.Basic.Joined.{join_outcome}
use Rattle.upon_std.specs.declared.basic.lists.Lists.{Lists}
use Rattle.upon_std.specs.declared.basic.lists.Lists.TheVariants.{Length, First, Last, Reverse, Join, Keys, Values, Get}

-- what each function of this group answers
abbrev pub lists_answer : Lists → List Val → Answer
lists_answer Length = adapter_answer (any_misfit ∷ []) length_outcome
lists_answer First = adapter_answer (list_misfit ∷ []) (list_outcome first_val)
lists_answer Last = adapter_answer (list_misfit ∷ []) (list_outcome last_val)
lists_answer Reverse = adapter_answer (list_misfit ∷ []) (list_outcome (λ vs. list_val (reversed vs)))
lists_answer Join = adapter_answer (list_misfit ∷ str_misfit ∷ []) join_outcome
lists_answer Keys = adapter_answer (map_misfit ∷ []) (map_outcome (λ es. list_val (key_vals es)))
lists_answer Values = adapter_answer (map_misfit ∷ []) (map_outcome (λ es. list_val (value_vals es)))
lists_answer Get = get_answer

-- What the functions of this crate answer, and their names.
use Rattle.std.specs.Prelude.{ℕ, List, [], ◌∷◌, codes}
use Rattle.upon_functions.specs.Adapters.{adapter_answer}
use Rattle.upon_types.specs.Answers.{Answer}
use Rattle.upon_types.specs.Misfits.{list_misfit, str_misfit}
use Rattle.upon_types.specs.Val.{Val}
use Rattle.upon_std.specs.Ordering.Outcomes.{sort_outcome, sort_by_outcome, unique_outcome, group_by_outcome}
use Rattle.upon_std.specs.declared.ordering.orders.Orders.{Orders}
use Rattle.upon_std.specs.declared.ordering.orders.Orders.TheVariants.{Sort, SortBy, Unique, GroupBy}

-- what each function answers
abbrev pub orders_answer : Orders → List Val → Answer
orders_answer Sort = adapter_answer (list_misfit ∷ []) sort_outcome
orders_answer SortBy = adapter_answer (list_misfit ∷ str_misfit ∷ []) sort_by_outcome
orders_answer Unique = adapter_answer (list_misfit ∷ []) unique_outcome
orders_answer GroupBy = adapter_answer (list_misfit ∷ str_misfit ∷ []) group_by_outcome

-- the name under which templates call it
abbrev pub orders_name : Orders → List ℕ
orders_name Sort = codes "sort"
orders_name SortBy = codes "sort_by"
orders_name Unique = codes "unique"
orders_name GroupBy = codes "group_by"

-- What the functions of this crate make of arguments that fit.
use Rattle.std.specs.Prelude.{ℕ, List, [], ◌∷◌, Result, Ok, Err}
use Rattle.upon_functions.specs.Outcome.{Returned, value, refusal}
use Rattle.upon_types.specs.Same.{val_eq}
use Rattle.upon_types.specs.Val.{Val, text_val, list_val}
use Rattle.upon_types.specs.View.{vals_of}
use Rattle.upon_std.specs.Basic.Items.{vals_in_list}
use Rattle.upon_std.specs.Ordering.Distinct.{distinct}
use Rattle.upon_std.specs.Ordering.Grouping.{grouped}
use Rattle.upon_std.specs.Basic.Items.{value_at_key}
use Rattle.upon_std.specs.Ordering.Sorting.{sorted_by}

-- a list of values, or a refusal
abbrev pub listed : Result (List Val) (List ℕ) → Returned
listed (Ok vs) = value (list_val (vals_of vs))
listed (Err text) = refusal text

-- the outcome of `sort`: the items in ascending order
abbrev pub sort_outcome : List Val → Returned
sort_outcome ((list_val vs) ∷ ws) = listed (sorted_by (λ v. v) (vals_in_list vs))
sort_outcome ws = refusal []

-- the outcome of `sort_by`: the items in ascending order of what is at a key of them
abbrev pub sort_by_outcome : List Val → Returned
sort_by_outcome ((list_val vs) ∷ (text_val name) ∷ ws) = listed (sorted_by (value_at_key name) (vals_in_list vs))
sort_by_outcome ws = refusal []

-- the outcome of `unique`: the first of items that are the same
abbrev pub unique_outcome : List Val → Returned
unique_outcome ((list_val vs) ∷ ws) = value (list_val (vals_of (distinct val_eq (vals_in_list vs))))
unique_outcome ws = refusal []

-- the outcome of `group_by`: the items in groups, by what is at a key of them
abbrev pub group_by_outcome : List Val → Returned
group_by_outcome ((list_val vs) ∷ (text_val name) ∷ ws) =
    value (list_val (vals_of (grouped (value_at_key name) (vals_in_list vs))))
group_by_outcome ws = refusal []

-- What the functions that compare and choose make of values.
use Rattle.std.specs.Prelude.{not, ◌&&◌, ◌||◌, List, [], ◌∷◌, Option, Some, None, if◌then◌else◌}
use Rattle.std.specs.declared.cmp.Ordering.{Ordering}
use Rattle.upon_functions.specs.Outcome.{Returned, value, refusal}
use Rattle.upon_functions.specs.Adapters.{adapter_answer}
use Rattle.upon_types.specs.Answers.{Answer}
use Rattle.upon_types.specs.Misfits.{any_misfit}
use Rattle.upon_types.specs.Same.{val_eq}
use Rattle.upon_types.specs.Truth.{truth}
use Rattle.upon_types.specs.Val.{Val, none_val, bool_val}
use Rattle.upon_std.specs.declared.basic.order.Relation.{Relation}
use Rattle.upon_std.specs.Basic.Order.{order_of, relation_holds, unordered}

-- whether the relation holds of two values, or a refusal where they are not ordered
abbrev pub related : Relation → Option Ordering → Val → Val → Returned
related relation (Some order) v w = value (bool_val (relation_holds relation order))
related relation None v w = refusal (unordered v w)

-- the outcome of `eq`: whether two values are the same
abbrev pub equal_outcome : List Val → Returned
equal_outcome (v ∷ w ∷ vs) = value (bool_val (val_eq v w))
equal_outcome vs = refusal []

-- the outcome of `ne`: whether two values differ
abbrev pub not_equal_outcome : List Val → Returned
not_equal_outcome (v ∷ w ∷ vs) = value (bool_val (not (val_eq v w)))
not_equal_outcome vs = refusal []

-- the outcome of `lt`, `le`, `gt` and `ge`
abbrev pub ordered_outcome : Relation → List Val → Returned
ordered_outcome relation (v ∷ w ∷ vs) = related relation (order_of v w) v w
ordered_outcome relation vs = refusal []

-- the outcome of `not`: whether a value counts as false
abbrev pub not_outcome : List Val → Returned
not_outcome (v ∷ vs) = value (bool_val (not (truth v)))
not_outcome vs = refusal []

-- the outcome of `and`: whether both count as true
abbrev pub and_outcome : List Val → Returned
and_outcome (v ∷ w ∷ vs) = value (bool_val (truth v && truth w))
and_outcome vs = refusal []

-- the outcome of `or`: whether one of both counts as true
abbrev pub or_outcome : List Val → Returned
or_outcome (v ∷ w ∷ vs) = value (bool_val (truth v || truth w))
or_outcome vs = refusal []

-- a value, or another in place of none
abbrev pub value_or : Val → Val → Val
value_or none_val other = other
value_or v other = v

-- the outcome of `default`: the first argument, or the second where the first is none
abbrev pub default_outcome : List Val → Returned
default_outcome (v ∷ w ∷ vs) = value (value_or v w)
default_outcome vs = refusal []

-- the outcome of `choose`: the second argument where the first counts as true, else the third
abbrev pub choose_outcome : List Val → Returned
choose_outcome (c ∷ v ∷ w ∷ vs) = value (if truth c then v else w)
choose_outcome vs = refusal []

-- what `choose` answers
abbrev pub choose_answer : List Val → Answer
choose_answer = adapter_answer (any_misfit ∷ any_misfit ∷ any_misfit ∷ []) choose_outcome

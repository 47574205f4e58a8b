-- What is made of the items of a list is what the callables return.
use Rattle.std.proofs.Common.{◌≡◌, List, [], ◌∷◌, map, Some, None, Result, Ok, Err, Vec, String, Global, string_bytes, refl, ap, sym, ◌∙◌}
use Rattle.std.specs.Result.{IfOk}
use Rattle.upon_functions.specs.Outcome.{value, Gives, result_outcome}
use Rattle.upon_types.specs.Val.{Val, list_val}
use Rattle.upon_types.specs.View.{view, vals_of, vals_view}
use Rattle.upon_types.specs.declared.value.Value.{Value}
use Rattle.upon_std.specs.Basic.Items.{vals_in_list}
use Rattle.upon_std.specs.Ordering.Outcomes.{listed}
use Rattle.upon_std.specs.Ordering.Sorting.{sorted_by, IsSortedList}

-- the values that were put into a list
pub val_list-vals_of : (vs : List Val) → vals_in_list (vals_of vs) ≡ vs
val_list-vals_of [] = refl
val_list-vals_of (v ∷ vs) = ap (λ ws. v ∷ ws) (val_list-vals_of vs)

pub gives_values : {E : Type 0} (made : Result (Vec Value Global) E) (change : List Val → List Val) (items : List Value)
    → IfOk made (λ m. map view m.items ≡ change (map view items))
    → Gives (result_outcome (λ m. Some (value (list_val (vals_view m.items)))) (λ e. None) made) (value (list_val (vals_of (change (vals_in_list (vals_view items))))))
gives_values (Ok m) change items h = ap (λ vs. value (list_val (vals_of vs))) (h ∙ ap change (sym (val_list-vals_of (map view items))))
gives_values (Err e) change items h = tt

pub gives_sorted : {E : Type 0} (made : Result (Result (Vec Value Global) (String Global)) E) (key : Val → Val) (items : List Value)
    → IfOk made (λ r. IsSortedList r (sorted_by key (map view items)))
    → Gives (result_outcome (result_outcome (λ m. Some (value (list_val (vals_view m.items)))) (λ t. Some (string_bytes t))) (λ e. None) made)
    (listed (sorted_by key (vals_in_list (vals_view items))))
gives_sorted (Ok (Ok m)) key items h = sym (ap (λ vs. listed (sorted_by key vs)) (val_list-vals_of (map view items)) ∙ ap listed h)
gives_sorted (Ok (Err t)) key items h = sym (ap (λ vs. listed (sorted_by key vs)) (val_list-vals_of (map view items)) ∙ ap listed h)
gives_sorted (Err e) key items h = tt

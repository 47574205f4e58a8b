-- What the sum of a list says.
use Rattle.std.proofs.Common.{◌≡◌, ℤ, pos, List, map, Some, None, Result, Ok, Err, String, Global, string_bytes, IfOk, ap, sym, ◌∙◌}
use Rattle.upon_functions.specs.Outcome.{value, Gives, result_outcome}
use Rattle.upon_types.specs.Val.{int_val}
use Rattle.upon_types.specs.View.{view, vals_view}
use Rattle.upon_types.specs.declared.value.Value.{Value}
use Rattle.upon_std.specs.Basic.Items.{vals_in_list}
use Rattle.upon_std.specs.Cutting.Numbers.{summed, said}
use Rattle.upon_std.specs.Cutting.Outcomes.{sum_result}
use Rattle.upon_std.proofs.CuttingLemmas.Items.{val_list-vals_of}

-- the sum, or its refusal, is what the callable returns
pub gives_sum : {E : Type 0} (made : Result (Result ℤ (String Global)) E) (items : List Value) → IfOk made (λ r. said r ≡ summed (pos 0) (map view items))
    → Gives (result_outcome (result_outcome (λ z. Some (value (int_val z))) (λ t. Some (string_bytes t))) (λ e. None) made)
    (sum_result (summed (pos 0) (vals_in_list (vals_view items))))
gives_sum (Ok (Ok z)) items h = ap sum_result h ∙ sym (ap (λ vs. sum_result (summed (pos 0) vs)) (val_list-vals_of (map view items)))
gives_sum (Ok (Err text)) items h = ap sum_result h ∙ sym (ap (λ vs. sum_result (summed (pos 0) vs)) (val_list-vals_of (map view items)))
gives_sum (Err e) items h = tt

use Rattle.std.proofs.Common.{◌≡◌, Result, Ok, Err, IfOk, w64, to_z, of_z, ap, sym, ◌∙◌, arith}
use Rattle.std.proofs.lemmas.Int.{ints}
use Rattle.std.specs.Prelude.{unwrap_or}
use Rattle.upon_types.specs.Val.{int_val, text_val}
use Rattle.upon_types.specs.View.{view}
use Rattle.upon_types.proofs.Views.{view-Integer, view-String}
use Rattle.upon_std.specs.Ordering.Spelling.{spelling}
use Rattle.upon_std.proofs.OrderingLemmas.Placing.{found_at, of_same, integer_placed, text_placed, other_placed, is_spelled, spelled_place}
use Rattle.upon_std.proofs.ordering.places.Places.place.Goals as goal

under_ok : {T E : Type 0} {P Q : T → Type 0} (r : Result T E) → ((x : T) → P x → Q x) → IfOk r P → IfOk r Q
under_ok (Ok x) f p = f x p
under_ok (Err e) f p = tt

pub returns-in-Integer-clause-updates : goal.returns-in-Integer-clause-updates
returns-in-Integer-clause-updates c =
    let number = to_z w64 (of_z w64 c.in-Integer.number) in
    let same : number ≡ c.in-Integer.number = omega (arith, ints) in
    let value = ap view c.in-Integer.is ∙ view-Integer c.in-Integer.number ∙ ap int_val (sym same) in
    under_ok c.place_in.result
    (λ place up. of_same c.args.self.now (record c.args.self.now { integers = c.place_in.new.places }) (view c.args.value.now) (int_val number) place value
    (integer_placed c.args.self.now c.place_in.new.places number place up))
    c.place_in.ensures.updates

pub returns-in-String-clause-updates : goal.returns-in-String-clause-updates
returns-in-String-clause-updates c =
    let value = ap view c.in-String.is ∙ view-String c.in-String.text ∙ ap text_val (sym c.as_str.ensures.value) in
    under_ok c.place_in-in-String.result
    (λ place up. of_same c.args.self.now (record c.args.self.now { texts = c.place_in-in-String.new.places }) (view c.args.value.now) (text_val c.as_str.result.now) place value
    (text_placed c.args.self.now c.place_in-in-String.new.places c.as_str.result.now place up))
    c.place_in-in-String.ensures.updates

pub returns-in_ok-spelling-in_default : goal.returns-in_ok-spelling-in_default
returns-in_ok-spelling-in_default c =
    let old = c.args.self.now in
    let v = view c.args.value.now in
    let numbers = c.in_ok-spelling-in_default.field-0.items in
    let of_v : numbers ≡ spelling v = c.in_ok-spelling-in_default.ensures in
    let spelled = is_spelled c.args.value.now c.in_default.not-Integer c.in_default.not-String in
    record {
      found = under_ok c.place_in-in_default.result
          (λ place is. is ∙ ap (λ o. unwrap_or o c.args.next) (ap (found_at (λ k. k.items) old.others) of_v ∙ sym (spelled_place old v spelled)))
          c.place_in-in_default.ensures.found;
      updates = under_ok c.place_in-in_default.result
          (λ place up. other_placed old c.place_in-in_default.new.places v numbers place spelled of_v up)
          c.place_in-in_default.ensures.updates;
    }

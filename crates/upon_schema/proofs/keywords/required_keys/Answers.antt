use Rattle.std.proofs.Common.{◌≡◌, Some, codes, false, refl, sym, ap, ◌∙◌, inl, inr}
use Rattle.upon_types.specs.Val.{Val, list_val, key_of}
use Rattle.upon_types.specs.View.{view, vals_view}
use Rattle.upon_types.proofs.Views.{view-List}
use Rattle.upon_schema.specs.Refused.{each_is, is_text}
use Rattle.upon_schema.proofs.OtherKinds.{not_texts}
use Rattle.upon_schema.proofs.Refusals.{wrong_here}
use Rattle.upon_schema.proofs.keywords.required_keys.Goals as goal

pub returns-in_default-found : goal.returns-in_default-found
returns-in_default-found c = record {
  names = tt;
  refused = wrong_here (codes "required") (view c.args.schema.now) c.wrong_value.result (inr (inr (inl (refl, (view c.in-Some.found.now, sym c.in-Some.ensures, not_texts c.in-Some.found.now c.in_default-found.not-List))))) c.wrong_value.ensures;
}

pub returns-then-not-are_texts-clause-refused : goal.returns-then-not-are_texts-clause-refused
returns-then-not-are_texts-clause-refused c =
    let schema = view c.args.schema.now in
    let names = vals_view c.deref.result.now in
    let is : view c.in-Some.found.now ≡ list_val names = ap view c.in-List.is ∙ view-List c.in-List.names ∙ ap (λ vs. list_val (vals_view vs)) (sym c.deref.ensures.value) in
    let at : key_of (codes "required") schema ≡ Some (list_val names) = sym c.in-Some.ensures ∙ ap (λ (v : Val). Some v) is in
    let fails : each_is is_text names ≡ false = sym c.are_texts.ensures ∙ c.if-not-are_texts.true in
    wrong_here (codes "required") schema c.wrong_value-then-not-are_texts.result (inr (inr (inl (refl, (list_val names, at, fails))))) c.wrong_value-then-not-are_texts.ensures

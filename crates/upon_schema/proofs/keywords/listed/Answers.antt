use Rattle.std.proofs.Common.{◌≡◌, List, Some, codes, inl, inr, map, refl, sym, ap, subst, ◌∙◌}
use Rattle.upon_types.specs.Val.{Val, list_val, key_of}
use Rattle.upon_types.specs.View.{view, vals_view}
use Rattle.upon_types.specs.declared.value.Value.{Value}
use Rattle.upon_types.proofs.Views.{view-List}
use Rattle.upon_meaning_spec.specs.MapOrder.{IsAmong}
use Rattle.upon_shape.specs.View.{shape_view}
use Rattle.upon_schema.proofs.KeptKinds.{listed_fits}
use Rattle.upon_schema.proofs.OtherKinds.{not_list}
use Rattle.upon_schema.proofs.Refusals.{wrong_here}
use Rattle.upon_schema.proofs.keywords.listed.Goals as goal

pub returns-clause-fits : goal.returns-clause-fits
returns-clause-fits c =
    let schema = view c.args.schema.now in
    let values = c.in-List.values.items in
    let is : view c.in-Some.found.now ≡ list_val (vals_view values) = ap view c.in-List.is ∙ view-List c.in-List.values in
    let at : Some (list_val (vals_view values)) ≡ key_of (codes "enum") schema = ap (λ (v : Val). Some v) (sym is) ∙ c.in-Some.ensures in
    listed_fits schema (map view values) (shape_view c.args.shape) (shape_view c.in_ok-of_samples.field-0) (shape_view c.kept.result) at c.kept.ensures
    (λ v among. c.in_ok-of_samples.ensures.fits v (subst (λ (vs : List Value). IsAmong v (map view vs)) (sym c.deref.ensures.value) among))

pub returns-in_default-found : goal.returns-in_default-found
returns-in_default-found c = record {
  fits = tt;
  refused = wrong_here (codes "enum") (view c.args.schema.now) c.wrong_value.result (inr (inl (refl, (view c.in-Some.found.now, sym c.in-Some.ensures, not_list c.in-Some.found.now c.in_default-found.not-List)))) c.wrong_value.ensures;
}

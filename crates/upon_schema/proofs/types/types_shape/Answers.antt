use Rattle.std.proofs.Common.{◌≡◌, Some, codes, false, inl, refl, ap, sym, ◌∙◌}
use Rattle.upon_types.specs.Val.{Val, text_val, list_val, key_of}
use Rattle.upon_types.specs.View.{view, vals_view}
use Rattle.upon_types.proofs.Views.{view-String, view-List}
use Rattle.upon_shape.specs.View.{shape_view}
use Rattle.upon_shape.specs.declared.shape.Shape.{Shape}
use Rattle.upon_schema.specs.Covers.{Covers}
use Rattle.upon_schema.specs.Valid.{IsOfType, IsOfTypes, TypeHolds}
use Rattle.upon_schema.proofs.Fitting.{ok_more}
use Rattle.upon_schema.proofs.TypeShapes.{of_one_type, of_some_types}
use Rattle.upon_schema.specs.Refusal.{SaysWrongIf, refusal}
use Rattle.upon_schema.specs.Refused.{IsCauseHere, each_is, is_type, known_types}
use Rattle.upon_schema.specs.declared.fault.SchemaFault.{SchemaFault}
use Rattle.upon_schema.proofs.OtherKinds.{not_types}
use Rattle.upon_schema.proofs.Refusals.{err_more, says_wrong_here, wrong_here}
use Rattle.upon_shape_spec.specs.Wider.{is_listed}
use Rattle.upon_schema.proofs.types.types_shape.Goals as goal

pub returns-in-String-clause-covers : goal.returns-in-String-clause-covers
returns-in-String-clause-covers c =
    let schema = view c.args.schema.now in
    let name = c.deref.result.now in
    let is : view c.in-Some.found.now ≡ text_val name = ap view c.in-String.is ∙ view-String c.in-String.name ∙ ap text_val (sym c.deref.ensures) in
    let at : Some (text_val name) ≡ key_of (codes "type") schema = ap (λ (v : Val). Some v) (sym is) ∙ c.in-Some.ensures in
    ok_more c.type_shape.result (λ (s : Shape). Covers (shape_view s) (IsOfType name)) (λ (s : Shape). Covers (shape_view s) (TypeHolds schema))
    (λ s f v rise h. f v rise (of_one_type schema name at v h)) c.type_shape.ensures.covers

pub returns-in-List-clause-covers : goal.returns-in-List-clause-covers
returns-in-List-clause-covers c =
    let schema = view c.args.schema.now in
    let names = vals_view c.deref-in-List.result.now in
    let is : view c.in-Some.found.now ≡ list_val names = ap view c.in-List.is ∙ view-List c.in-List.names ∙ ap (λ vs. list_val (vals_view vs)) (sym c.deref-in-List.ensures.value) in
    let at : Some (list_val names) ≡ key_of (codes "type") schema = ap (λ (v : Val). Some v) (sym is) ∙ c.in-Some.ensures in
    ok_more c.joined_types.result (λ (s : Shape). Covers (shape_view s) (IsOfTypes names)) (λ (s : Shape). Covers (shape_view s) (TypeHolds schema))
    (λ s f v rise h. f v rise (of_some_types schema names at v h)) c.joined_types.ensures.covers

pub returns-in-String-clause-refused : goal.returns-in-String-clause-refused
returns-in-String-clause-refused c =
    let schema = view c.args.schema.now in
    let name = c.deref.result.now in
    let is : view c.in-Some.found.now ≡ text_val name = ap view c.in-String.is ∙ view-String c.in-String.name ∙ ap text_val (sym c.deref.ensures) in
    let at : key_of (codes "type") schema ≡ Some (text_val name) = sym (ap (λ (v : Val). Some v) (sym is) ∙ c.in-Some.ensures) in
    err_more c.type_shape.result (SaysWrongIf (codes "type") (is_listed name known_types ≡ false)) (λ (f : SchemaFault). IsCauseHere schema (refusal f))
    (λ f. says_wrong_here (codes "type") schema f (is_listed name known_types ≡ false) (λ no. inl (refl, (text_val name, at, no)))) c.type_shape.ensures.refused

pub returns-in-List-clause-refused : goal.returns-in-List-clause-refused
returns-in-List-clause-refused c =
    let schema = view c.args.schema.now in
    let names = vals_view c.deref-in-List.result.now in
    let is : view c.in-Some.found.now ≡ list_val names = ap view c.in-List.is ∙ view-List c.in-List.names ∙ ap (λ vs. list_val (vals_view vs)) (sym c.deref-in-List.ensures.value) in
    let at : key_of (codes "type") schema ≡ Some (list_val names) = sym (ap (λ (v : Val). Some v) (sym is) ∙ c.in-Some.ensures) in
    err_more c.joined_types.result (SaysWrongIf (codes "type") (each_is is_type names ≡ false)) (λ (f : SchemaFault). IsCauseHere schema (refusal f))
    (λ f. says_wrong_here (codes "type") schema f (each_is is_type names ≡ false) (λ no. inl (refl, (list_val names, at, no)))) c.joined_types.ensures.refused

pub returns-in_default-found : goal.returns-in_default-found
returns-in_default-found c = record {
  covers = tt;
  refused = wrong_here (codes "type") (view c.args.schema.now) c.wrong_value.result (inl (refl, (view c.in-Some.found.now, sym c.in-Some.ensures, not_types c.in-Some.found.now c.in_default-found.not-String c.in_default-found.not-List))) c.wrong_value.ensures;
}

use Rattle.std.proofs.Common.{◌≡◌, List, true, string_bytes, refl, sym, ap, subst, ◌∙◌}
use Rattle.upon_types.specs.Val.{text_val, entry_at}
use Rattle.upon_types.specs.View.{view, vals_view}
use Rattle.upon_types.proofs.Views.{view-String}
use Rattle.upon_shape.specs.View.{shape_view}
use Rattle.upon_shape.specs.declared.shape.Key.{Key}
use Rattle.upon_shape.specs.declared.shape.Shape.{Shape}
use Rattle.upon_schema.specs.Covers.{FitsAhead}
use Rattle.upon_schema.proofs.KeySteps.{name_first, name_later, requires_more}
use Rattle.upon_schema.proofs.read.add_required.Goals as goal

pub loop-value-preserved : goal.loop-value-preserved
loop-value-preserved c =
    let vs = c.args.required.now in
    let i = c.loop-value.value-index in
    let text = string_bytes c.in-String.name in
    let is : view c.value-item.result ≡ text_val text = ap view c.in-String.is ∙ view-String c.in-String.name in
    let k : Key Shape = record { name = c.in_ok-clone.field-0; required = true; shape = c.in_ok-try_clone.field-0 } in
    let among = c.loop-value.invariant.names (string_bytes k.name) (name_first (string_bytes k.name) vs i c.value-item.result text c.loop-value-test.true c.value-item.is is c.in_ok-clone.ensures.cases) in
    record {
      ahead = λ properties es key there held before.
          subst (λ (ks : List (Key Shape)). FitsAhead properties key (entry_at key es) ks) (sym c.in_ok-push.ensures.items)
          (requires_more properties es (vals_view vs) key (shape_view c.args.others.now) c.loop-value.named.items k refl c.in_ok-try_clone.ensures among there held
          (c.loop-value.invariant.ahead properties es key there held before));
      names = λ key h. c.loop-value.invariant.names key (name_later key vs i c.value-item.result text c.loop-value-test.true c.value-item.is is h);
    }

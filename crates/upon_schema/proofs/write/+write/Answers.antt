use Rattle.std.proofs.Common.{◌≡◌, ℕ, List, drop, sym, ap, subst, ◌∙◌, arith}
use Rattle.upon_types.specs.View.{view, vals_view, entries_view}
use Rattle.upon_types.specs.declared.value.Value.{Value}
use Rattle.upon_types.proofs.Views.{Entry}
use Rattle.upon_shape_spec.specs.Shape.{other_keys}
use Rattle.upon_shape.specs.View.{shape_view, ahead, keys_view, lists_view, maps_view}
use Rattle.upon_shape.specs.declared.shape.Shape.{Shape}
use Rattle.upon_shape.proofs.ShapeViews.{view-OneOf}
use Rattle.upon_schema.specs.Written.{others_value, properties_value, schema_value, typed, with_items, with_keys, with_required}
use Rattle.upon_schema.proofs.Fitting.{ok_more}
use Rattle.upon_schema.proofs.Writing.{keys_written, on_ok_more, others_value-ahead}
use Rattle.upon_schema.proofs.write.+write.Goals as goal

pub add_keys-returns : goal.add_keys-returns
add_keys-returns t c =
    let keys = c.in-Some.keys in
    let ks = keys_view keys in
    let old = entries_view c.args.keywords.now.entries in
    let ps = entries_view c.loop-index.properties.entries in
    let names = vals_view c.in_ok-required.required.items in
    let first = entries_view c.add_schema.new.keywords.entries in
    let second = entries_view c.add_properties.new.keywords.entries in
    let third = entries_view c.add_required.new.keywords.entries in
    let zero : c.loop-index.index ≡ 0 = omega (arith, c.loop-index-test.false) in
    let all : ps ≡ properties_value ks =
    subst (λ (i : ℕ). ps ≡ properties_value (ahead (drop i keys.named.items) (other_keys (shape_view keys.others.value)))) zero c.loop-index.invariant in
    let others : view c.in_ok-others.others ≡ others_value ks =
    c.in_ok-others.ensures ∙ ap (λ (s : Shape). schema_value (shape_view s)) c.deref-2.ensures ∙ sym (others_value-ahead keys.named.items (shape_view keys.others.value)) in
    on_ok_more c.add_required.result (third ≡ with_required names second) (third ≡ with_keys (maps_view c.args.maps.now) old)
    (λ e. keys_written ks names ps (view c.in_ok-others.others) old first second third c.in_ok-add_schema.ensures c.in_ok-add_properties.ensures e c.in_ok-required.ensures all others
    ∙ ap (λ m. with_keys (maps_view m) old) (sym c.in-Some.is)) c.add_required.ensures

pub schema_of-returns-in_ok-names-in-OneOf : goal.schema_of-returns-in_ok-names-in-OneOf
schema_of-returns-in_ok-names-in-OneOf t c =
    let o = c.in-OneOf in
    let names = vals_view c.in_ok-names-in-OneOf.names.items in
    let es = entries_view c.add_keys.new.keywords.entries in
    ok_more c.of_types.result (λ (v : Value). view v ≡ typed names es) (λ (v : Value). view v ≡ schema_value (shape_view c.args.shape.now))
    (λ v e. e
    ∙ (λ i. typed (c.in_ok-names-in-OneOf.ensures i) ((c.in_ok-add_keys-in-OneOf.ensures ∙ ap (with_keys (maps_view o.keys)) (c.in_ok-add_items-in-OneOf.ensures ∙ ap (λ (xs : List Entry). with_items (lists_view o.items) (entries_view xs)) c.new-keywords.ensures.empty)) i))
    ∙ ap schema_value (sym (view-OneOf o.plain o.items o.keys)) ∙ ap (λ (s : Shape). schema_value (shape_view s)) (sym o.is)) c.of_types.ensures

use Rattle.std.proofs.Common.{◌≡◌, List, codes, sym, ap, ◌∙◌}
use Rattle.upon_types.specs.Val.{no_vals}
use Rattle.upon_types.specs.declared.value.Value.{Value}
use Rattle.upon_shape_spec.specs.Paths.{takes_lists, takes_maps}
use Rattle.upon_shape.specs.View.{lists_view, maps_view}
use Rattle.upon_shape.proofs.Walks.{takes_lists-view, takes_maps-view}
use Rattle.upon_schema.specs.Written.{name_if, vals_ahead}
use Rattle.upon_schema.proofs.Writing.{vals_ahead-none}
use Rattle.upon_schema.proofs.write.names_of_kinds.Goals as goal

pub returns : goal.returns
returns c =
    let p = c.args.plain in
    let lists : c.is_some.result ≡ takes_lists (lists_view c.args.items.now) = c.is_some.ensures ∙ sym (takes_lists-view c.args.items.now) in
    let maps : c.is_some-2.result ≡ takes_maps (maps_view c.args.keys.now) = c.is_some-2.ensures ∙ sym (takes_maps-view c.args.keys.now) in
    let from_null = name_if p.none (codes "null") no_vals in
    let from_object = name_if c.is_some-2.result (codes "object") from_null in
    let from_array = name_if c.is_some.result (codes "array") from_object in
    let from_string = name_if p.text (codes "string") from_array in
    let from_integer = name_if p.integer (codes "integer") from_string in
    let from_boolean = name_if p.truth (codes "boolean") from_integer in
    sym (vals_ahead-none c.add_name-6.new.names.items)
    ∙ c.in_ok-add_name-6.ensures no_vals ∙ c.in_ok-add_name-5.ensures from_null ∙ c.in_ok-add_name-4.ensures from_object
    ∙ c.in_ok-add_name-3.ensures from_array ∙ c.in_ok-add_name-2.ensures from_string ∙ c.in_ok-add_name.ensures from_integer
    ∙ ap (λ (vs : List Value). vals_ahead vs from_boolean) c.new-names.ensures.items
    ∙ (λ i. name_if p.truth (codes "boolean") (name_if p.integer (codes "integer") (name_if p.text (codes "string")
    (name_if (lists i) (codes "array") (name_if (maps i) (codes "object") from_null)))))

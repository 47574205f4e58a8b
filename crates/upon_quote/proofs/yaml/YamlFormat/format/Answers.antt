use Rattle.std.proofs.Common.{◌++◌, inl, inr, ap, sym, ◌∙◌}
use Rattle.upon_types.specs.Val.{none_val, bool_val, int_val, list_val, map_val}
use Rattle.upon_types.specs.View.{view, vals_view, entries_view}
use Rattle.upon_types.proofs.Views.{view-None, view-Bool, view-Integer, view-List, view-Map}
use Rattle.upon_fmt.specs.Formatter.{text_of}
use Rattle.upon_quote.specs.Yaml.{yaml_escape_of}
use Rattle.upon_quote.proofs.YamlLemmas.{yaml_leaves}
use Rattle.upon_quote.proofs.PlainDefaults.{NotText, by_view, quoted_default}
use Rattle.upon_quote.proofs.yaml.YamlFormat.format.Goals as goal

pub returns-in-None : goal.returns-in-None
returns-in-None c = λ mark.
    let v = view c.args.value.now in
    let plain : NotText v =
    elim c.in-None.is as (λ x. NotText v) [
      | inl e ↦ by_view v none_val (ap view e ∙ view-None) tt
      | inr a ↦ elim a as (λ x. NotText v) [
        | inl e ↦ by_view v (bool_val e.0) (ap view e.1 ∙ view-Bool e.0) tt
        | inr b ↦ elim b as (λ x. NotText v) [
          | inl e ↦ by_view v (int_val e.0) (ap view e.1 ∙ view-Integer e.0) tt
          | inr d ↦ elim d as (λ x. NotText v) [
            | inl e ↦ by_view v (list_val (vals_view e.0.items)) (ap view e.1 ∙ view-List e.0) tt
            | inr e ↦ by_view v (map_val (entries_view e.0.entries)) (ap view e.1 ∙ view-Map e.0) tt
          ]
        ]
      ]
    ] in
    let wrote = c.default.ensures mark in
    (wrote.0, wrote.1 ∙ ap (λ t. text_of c.args.f.now ++ t) (sym (quoted_default yaml_escape_of yaml_leaves v plain)), wrote.2)

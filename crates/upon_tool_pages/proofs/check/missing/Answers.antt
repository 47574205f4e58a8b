use Rattle.std.proofs.Common.{rules, ◌≡◌, ◌↔◌, ◌<◌, ◌∙◌, ℕ, List, [], Bool, Contains, length, take, option_map, sym, ap, subst}
use Rattle.std.specs.BTreeMap.{get_by_text}
use Rattle.std.proofs.lemmas.List.{take_all}
use Rattle.upon_meaning_spec.specs.Includes.{Includes}
use Rattle.upon_needs.specs.Names.{texts}
use Rattle.upon_engine.specs.Template.{template_of, template_tree}
use Rattle.upon_tool_pages.specs.Missing.{is_nowhere}
use Rattle.upon_calls.proofs.Kept.{kept, kept_one, kept_past, kept_contains}
use Rattle.upon_tool_pages.proofs.check.missing.Goals.{then-is_missing+in_ok-push, else-is_missing}
use Rattle.upon_tool_pages.proofs.check.missing.Goals as goal

pub loop-name-preserved : goal.loop-name-preserved
loop-name-preserved g c =
    let names = c.as_slice-name-items.result.now in
    let at = c.loop-name.name-index in
    let inside : at < length names = search rules in
    let passes : List ℕ → Bool = is_nowhere c.args.own.now (λ name. option_map template_of (get_by_text c.args.engine.now.templates name)) in
    elim c.if-is_missing.branch [
      | then-is_missing+in_ok-push w ↦ ap (λ v. v.items) w.missing-is ∙ w.in_ok-push.ensures.items ∙ kept_one passes names c.loop-name.missing.items at (record { ref_ptr = (0, 0); now = [] }) inside c.loop-name.invariant (sym c.is_missing.ensures ∙ w.if-is_missing.true)
      | else-is_missing w ↦ ap (λ v. v.items) w.missing-is ∙ kept_past passes names c.loop-name.missing.items at (record { ref_ptr = (0, 0); now = [] }) inside c.loop-name.invariant (sym c.is_missing.ensures ∙ w.if-is_missing.false)
    ]

pub returns : goal.returns
returns g c = λ name.
    let names = c.as_slice-name-items.result.now in
    let passes : List ℕ → Bool = is_nowhere c.args.own.now (λ name. option_map template_of (get_by_text c.args.engine.now.templates name)) in
    let whole : take c.loop-name.name-index names ≡ names = take_all c.loop-name.name-index names c.loop-name-test.false in
    let same : c.loop-name.missing.items ≡ kept passes names = c.loop-name.invariant ∙ ap (kept passes) whole in
    let found = kept_contains passes names name in
    let included : Contains (texts names) name ↔ Includes name (template_tree c.args.template.now) = subst (λ l. Contains (texts l) name ↔ Includes name (template_tree c.args.template.now)) (sym c.as_slice-name-items.ensures.value) (c.in_ok-names.ensures.included name) in (
      λ h. let both = found.0 (subst (λ l. Contains (texts l) name) same h) in (included.0 both.0, both.1),
      λ h. subst (λ l. Contains (texts l) name) (sym same) (found.1 (included.1 h.0, h.1)),
    )

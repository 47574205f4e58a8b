use Rattle.std.proofs.Common.{rules, ◌≡◌, ◌↔◌, ◌<◌, ◌∙◌, ℕ, List, [], Bool, Contains, length, take, sym, ap, subst}
use Rattle.std.proofs.lemmas.List.{take_all}
use Rattle.upon_types.specs.View.{view}
use Rattle.upon_meaning_spec.specs.Includes.{Includes}
use Rattle.upon_needs.specs.Names.{texts, Rise}
use Rattle.upon_engine.specs.Template.{template_tree}
use Rattle.upon_calls.specs.Check.{is_missing}
use Rattle.upon_calls.proofs.Kept.{kept, kept_includes, kept_one, kept_past}
use Rattle.upon_calls.proofs.check.missing.Goals.{then-is_missing+in_ok-push, else-is_missing}
use Rattle.upon_calls.proofs.check.missing.Goals as goal

pub loop-name-preserved : goal.loop-name-preserved
loop-name-preserved c =
    let names = c.as_slice-name-items.result.now in
    let at = c.loop-name.name-index in
    let inside : at < length names = search rules in
    let passes : List ℕ → Bool = is_missing (view c.args.templates.now) in
    elim c.if-is_missing.branch [
      | then-is_missing+in_ok-push w ↦ ap (λ v. v.items) w.missing-is ∙ w.in_ok-push.ensures.items ∙ kept_one passes names c.loop-name.missing.items at (record { ref_ptr = (0, 0); now = [] }) inside c.loop-name.invariant (sym c.is_missing.ensures ∙ w.if-is_missing.true)
      | else-is_missing w ↦ ap (λ v. v.items) w.missing-is ∙ kept_past passes names c.loop-name.missing.items at (record { ref_ptr = (0, 0); now = [] }) inside c.loop-name.invariant (sym c.is_missing.ensures ∙ w.if-is_missing.false)
    ]

pub returns : goal.returns
returns c =
    let names = c.as_slice-name-items.result.now in
    let passes : List ℕ → Bool = is_missing (view c.args.templates.now) in
    let whole : take c.loop-name.name-index names ≡ names = take_all c.loop-name.name-index names c.loop-name-test.false in
    let same : c.loop-name.missing.items ≡ kept passes names = c.loop-name.invariant ∙ ap (kept passes) whole in
    let from : names ≡ c.in_ok-names.names.items = c.as_slice-name-items.ensures.value in
    kept_includes passes (template_tree c.args.template.now) names c.loop-name.missing.items same (subst (λ l. Rise (texts l)) (sym from) c.in_ok-names.ensures.rise)
    (λ name. subst (λ l. Contains (texts l) name ↔ Includes name (template_tree c.args.template.now)) (sym from) (c.in_ok-names.ensures.included name))

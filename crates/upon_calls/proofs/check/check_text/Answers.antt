use Rattle.std.proofs.Common.{[], ◌∷◌, ◌∙◌, string_bytes, refl, sym, ap, inl, inr}
use Rattle.upon_types.specs.View.{view}
use Rattle.upon_engine.specs.Engine.{engine_syntax}
use Rattle.upon_engine.specs.Template.{template_tree}
use Rattle.upon_needs.specs.Names.{texts}
use Rattle.upon_shape_check.specs.Pictures.{with_picture}
use Rattle.upon_calls.specs.Pictures.{include_pictures, with_pictures}
use Rattle.upon_calls.proofs.Checked.{no_name_missing, no_names, not_compiled, some_missing}
use Rattle.upon_calls.proofs.Shown.{fault_shown, includes_shown, no_include_shown}
use Rattle.upon_calls.proofs.check.check_text.Goals as goal

pub returns-then-is_empty-clause-right : goal.returns-then-is_empty-clause-right
returns-then-is_empty-clause-right g c = no_name_missing _ _ _ _ c.in_ok-missing.missing.items c.in_ok-missing.missing.len c.in_ok-missing.missing.ok.0 (sym c.if-is_empty.ensures) c.in-Ok.ensures.has_tree c.in_ok-missing.ensures.1

pub returns-clause-right : goal.returns-clause-right
returns-clause-right g c = some_missing _ _ _ _ c.in_ok-missing.missing.items c.in_ok-missing.missing.len c.in_ok-missing.missing.ok.0 (sym c.if-is_empty.ensures) c.in-Ok.ensures.only_tree c.in_ok-missing.ensures.1

pub returns-in-Err-clause-right : goal.returns-in-Err-clause-right
returns-in-Err-clause-right g c = not_compiled _ _ c.args.checked.name.now _ c.in-Err.error c.with_name-error.result c.in-Faults.ensures.0 c.with_name-error.ensures.fault c.in-Err.ensures.fault c.in-Err.ensures.no_tree (λ first. ap (λ f. f.kind) first.3)

pub returns-then-is_empty-clause-shown : goal.returns-then-is_empty-clause-shown
returns-then-is_empty-clause-shown g c =
    let empty = no_names c.in_ok-missing.missing.items c.in_ok-missing.missing.len c.in_ok-missing.missing.ok.0 (sym c.if-is_empty.ensures) in
    ([], inr (no_include_shown _ _ c.args.checked.name.now _ _ _ empty c.in-Ok.ensures.has_tree c.in_ok-missing.ensures), refl)

pub returns-clause-shown : goal.returns-clause-shown
returns-clause-shown g c =
    let name = c.args.checked.name.now in
    let source = c.args.checked.source.now in
    let tree = template_tree c.in-Ok.template in
    let old = string_bytes c.args.pictures.now in
    let names = texts c.in_ok-missing.missing.items in (
      include_pictures name source tree names,
      inr (includes_shown (engine_syntax c.args.engine.now) (view c.args.checked.templates.now) name source tree names c.in-Ok.ensures.has_tree c.in_ok-missing.ensures),
      c.in_ok-show_includes.ensures
          ∙ ap (λ text. with_pictures old (include_pictures name text tree (texts c.as_slice.result.now))) c.in-Ok.ensures.source
          ∙ ap (λ items. with_pictures old (include_pictures name source tree (texts items))) c.as_slice.ensures.value,
    )

pub returns-in-Err-clause-shown : goal.returns-in-Err-clause-shown
returns-in-Err-clause-shown g c =
    let picture = string_bytes c.in-Faults.picture in (
      picture ∷ [],
      inl (fault_shown (engine_syntax c.args.engine.now) c.args.checked.name.now c.args.checked.source.now c.in-Err.error c.with_name-error.result picture c.in-Faults.ensures.0 c.in-Faults.ensures.1 c.with_name-error.ensures.fault c.in-Err.ensures.fault c.in-Err.ensures.no_tree),
      c.in_ok-push_picture-in-Err.ensures ∙ ap (with_picture (string_bytes c.args.pictures.now)) c.as_str.ensures.value,
    )

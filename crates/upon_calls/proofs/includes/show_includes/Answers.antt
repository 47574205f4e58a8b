use Rattle.std.proofs.Common.{rules, ◌≡◌, ◌<◌, ◌∙◌, ℕ, List, [], Bool, bytes_eq, length, map, slice_get, slice_index_or, string_bytes, take, sym, ap, subst, Some}
use Rattle.std.specs.List.{list_any}
use Rattle.std.proofs.lemmas.Option.{slice_get-get_or}
use Rattle.upon_types.specs.Path.{Ident}
use Rattle.upon_types.specs.Pretty.{pretty}
use Rattle.upon_types.specs.Span.{LiesIn}
use Rattle.upon_machine_spec.specs.Code.{program_of}
use Rattle.upon_engine.specs.Template.{template_source, template_tree}
use Rattle.upon_needs.specs.Names.{texts}
use Rattle.upon_needs.specs.Places.{include_at, includes_in}
use Rattle.upon_needs.specs.declared.places.IncludePlace.{IncludePlace}
use Rattle.upon_shape_check.specs.Pictures.{with_picture}
use Rattle.upon_calls.specs.Pictures.{include_fault}
use Rattle.upon_calls.proofs.FirstIncludes.{all_shown, first_hundred, found_no, found_one, to_show}
use Rattle.upon_calls.proofs.includes.show_includes.Goals.{then-remove+in_ok-show_include, else-remove}
use Rattle.upon_calls.proofs.includes.show_includes.Goals as goal

abbrev nowhere : IncludePlace
nowhere = record { name = record { ref_ptr = (0, 0); now = [] }; span = record { m = 0; n = 0 } }

pub show_include-requires : goal.show_include-requires
show_include-requires c =
    let given = c.as_slice-place-items.result.now in
    let at = c.loop-place.place-index in
    let inside : at < length given = search rules in
    let there = subst (λ places. slice_get places at ≡ Some (slice_index_or given at nowhere)) c.as_slice-place-items.ensures.value (slice_get-get_or given at nowhere inside) in
    subst (λ source. LiesIn source (slice_index_or given at nowhere).span) (sym c.source.ensures.source) (c.in_ok-places.ensures.lie at (slice_index_or given at nowhere) there)

pub loop-place-preserved : goal.loop-place-preserved
loop-place-preserved c =
    let given = c.as_slice-place-items.result.now in
    let at = c.loop-place.place-index in
    let inside : at < length given = search rules in
    let picture : Ident → List ℕ = λ word. pretty (include_fault c.args.name.now (template_source c.args.template.now) word) in
    let text = string_bytes c.loop-place.pictures in
    let whole = to_show picture c.in_ok-left.left given (string_bytes c.args.pictures.now) in
    elim c.if-remove.branch [
      | then-remove+in_ok-show_include w ↦
          found_one picture given at nowhere c.loop-place.left c.remove.new.self text _ whole inside (sym c.remove.ensures.test ∙ w.if-remove.true) c.remove.ensures.updates
          (ap string_bytes w.pictures-is ∙ w.in_ok-show_include.ensures ∙ ap (λ source. with_picture text (pretty (include_fault c.args.name.now source (include_at (slice_index_or given at nowhere))))) w.source.ensures.source)
          c.loop-place.invariant
      | else-remove w ↦
          found_no picture given at nowhere c.loop-place.left c.remove.new.self text _ whole inside (sym c.remove.ensures.test ∙ w.if-remove.false) w.if-remove.ensures.unchanged (ap string_bytes w.pictures-is) c.loop-place.invariant
    ]

pub returns : goal.returns
returns c =
    let given = c.as_slice-place-items.result.now in
    let picture : Ident → List ℕ = λ word. pretty (include_fault c.args.name.now (template_source c.args.template.now) word) in
    let wanted : List ℕ → Bool = λ name. list_any (bytes_eq name) (take 100 (texts c.args.missing.now)) in
    let shown = first_hundred c.args.missing c.unwrap_or-shown.result c.get.result c.get.ensures.lookup c.unwrap_or-shown.ensures in
    let are : map include_at given ≡ includes_in (program_of (template_tree c.args.template.now)) = ap (map include_at) c.as_slice-place-items.ensures.value ∙ c.in_ok-places.ensures.includes in
    all_shown picture given c.loop-place.place-index c.in_ok-left.left c.loop-place.left wanted (includes_in (program_of (template_tree c.args.template.now))) (string_bytes c.args.pictures.now) (string_bytes c.loop-place.pictures) c.loop-place-test.false are
    (λ name. c.in_ok-left.ensures name ∙ ap (list_any (bytes_eq name)) shown) c.loop-place.invariant

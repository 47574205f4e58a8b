use Rattle.std.proofs.Common.{◌≡◌, ◌∙◌, ◌⊎◌, ℕ, List, [], inl, rules, string_bytes, subst, sym}
use Rattle.std.proofs.lemmas.Bool.{eqb-true}
use Rattle.std.proofs.lemmas.List.{nil_from_length}
use Rattle.upon_shape.specs.View.{shape_view}
use Rattle.upon_shape_check.specs.Callables.{declared_view}
use Rattle.upon_needs.specs.Names.{texts}
use Rattle.upon_calls.specs.Asked.{asked_by}
use Rattle.upon_calls.specs.Filled.{filled}
use Rattle.upon_calls.specs.Templates.{lent_pairs}
use Rattle.upon_calls.proofs.CheckedPages.{each_ends}
use Rattle.upon_calls.proofs.Declaring.{filled_keeps}
use Rattle.upon_calls.proofs.Unsure.{err_handed, no_pages}
use Rattle.upon_shape_spec.specs.Declared.{Declared}
use Rattle.upon_shape_check.specs.Doubted.{IsUnsureOn}
use Rattle.upon_calls.specs.Failure.{FaultyIf}
use Rattle.upon_calls.specs.Places.{IsShownOf}
use Rattle.upon_calls.specs.Unsure.{declared_as, HasFault, IsPageUnsure}
use Rattle.upon_calls.specs.declared.work.Pages.{Pages}
use Rattle.upon_calls.proofs.pages.check_pages.Goals as goal

pub returns-then-is_empty-clause-ends : goal.returns-then-is_empty-clause-ends
returns-then-is_empty-clause-ends c =
    let asked = asked_by c.args.options in
    let sources = lent_pairs c.args.sources.now in
    let declared = declared_view c.in_ok-declared.declared in
    let pictures = c.in_ok-pictures.pictures in
    let empty = nil_from_length (string_bytes pictures) (sym pictures.bytes.ok.0 ∙ eqb-true pictures.bytes.len 0 (sym c.if-is_empty.ensures)) in
    each_ends (filled asked sources) declared (shape_view c.args.shape.now) (texts c.args.names.now) (filled_keeps declared asked sources c.in_ok-declared.ensures.kept) (c.in_ok-pictures.ensures.gives.fits empty)

pub returns-then-is_empty-clause-trees : goal.returns-then-is_empty-clause-trees
returns-then-is_empty-clause-trees c =
    c.in_ok-pictures.ensures.gives.trees

pub returns-in_err-pictures-clause-fails : goal.returns-in_err-pictures-clause-fails
returns-in_err-pictures-clause-fails c =
    let asked = asked_by c.args.options in
    let sources = lent_pairs c.args.sources.now in
    let s = shape_view c.args.shape.now in
    let names = texts c.args.names.now in
    let P : List ℕ → Type 0 = λ pictures. IsPageUnsure asked sources s names × IsShownOf (filled asked sources) (declared_as asked) s names pictures in
    let failure = c.in_err-pictures.field-0.0 in
    let pages : Pages = record { names = c.args.names; declared = record { ref_ptr = (0, 0); now = c.in_ok-declared.declared }; shape = c.args.shape } in
    err_handed failure c.from_residual-in_err-pictures.result (FaultyIf (λ pictures. (pictures ≡ [] → ⊥) × (P pictures ⊎ HasFault asked sources)) ⊥) c.from_residual-in_err-pictures.ensures.1
    (no_pages asked sources pages P failure c.in_err-pictures.ensures.fails)

pub returns-clause-fails : goal.returns-clause-fails
returns-clause-fails c =
    let asked = asked_by c.args.options in
    let sources = lent_pairs c.args.sources.now in
    let s = shape_view c.args.shape.now in
    let some : string_bytes c.in_ok-pictures.pictures ≡ [] → ⊥ = search rules in
    let it = c.in_ok-pictures.ensures.gives.unsure some in
    let names = texts c.args.names.now in
    let text = string_bytes c.in_ok-pictures.pictures in (
      some,
      inl (
        (it.0, it.1, subst (λ (d : Declared). IsUnsureOn (filled asked sources) d it.0 s) c.in_ok-declared.ensures.declared it.2),
        subst (λ (d : Declared). IsShownOf (filled asked sources) d s names text) c.in_ok-declared.ensures.declared c.in_ok-pictures.ensures.gives.shows,
      ),
    )

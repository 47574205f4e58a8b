-- What is done with an engine that holds a call's templates.
use Rattle.std.specs.Prelude.{◌≡◌, ◌⊎◌, ℕ, List, [], All, Contains, None, string_bytes}
use Rattle.upon_types.specs.Fault.{Fault}
use Rattle.upon_types.specs.View.{view}
use Rattle.upon_vm.specs.declared.limits.Limits.{Limits}
use Rattle.upon_shape.specs.View.{shape_view}
use Rattle.upon_shape_check.specs.Callables.{declared_view}
use Rattle.upon_needs.specs.Names.{texts}
use Rattle.upon_engine.specs.Texts.{Texts}
use Rattle.upon_shape_check.specs.Doubted.{IsUnsureOn}
use Rattle.upon_shape_check.specs.EndsOn.{EndsOn}
use Rattle.upon_calls.specs.Asked.{Asked}
use Rattle.upon_calls.specs.Failure.{IsPicture}
use Rattle.upon_calls.specs.Filled.{filled}
use Rattle.upon_calls.specs.Names.{ListsNamed}
use Rattle.upon_calls.specs.Places.{IsShownOf}
use Rattle.upon_calls.specs.Rendering.{EachHasTree, FailsNamed, FailsText, IsFirstOfOne, MeansNamed, MeansText}
use Rattle.upon_calls.specs.declared.failure.Argument.TheVariants.{Name}
use Rattle.upon_calls.specs.declared.failure.Failure.{Failure}
use Rattle.upon_calls.specs.declared.failure.Failure.TheVariants.{Faults, Refused, NotText, OutOfMemory}
use Rattle.upon_calls.specs.declared.work.Work.{Work}
use Rattle.upon_calls.specs.declared.work.Pages.{Pages}
use Rattle.upon_calls.specs.declared.work.Work.TheVariants.{Render, RenderText, Names, Fit}

-- if callables keep what is declared of them, each page ends without a fault on each value of a shape, but that
-- includes may be too deep one inside another
abbrev pub PagesFit : Texts → Pages → Type 0
PagesFit e pages =
    All (λ name. EndsOn e (declared_view pages.declared.now) name (shape_view pages.shape.now)) (texts pages.names.now)

-- of one of the pages it isn't known, by what is declared, whether it ends well on each value of the shape
abbrev pub IsOneUnsure : Texts → Pages → Type 0
IsOneUnsure e pages = (name : List ℕ) × Contains (texts pages.names.now) name
    × IsUnsureOn e (declared_view pages.declared.now) name (shape_view pages.shape.now)

-- A text that is empty says that the pages end, and another one that this isn't known of one of them. It is what is
-- shown of them. Each text that is held has a tree.
pub record TellsOfPages (e : Texts) (pages : Pages) (text : List ℕ) : Type 0 where
  pub trees : EachHasTree e
  pub fits : text ≡ [] → PagesFit e pages
  pub unsure : (text ≡ [] → ⊥) → IsOneUnsure e pages
  pub shows : IsShownOf e (declared_view pages.declared.now) (shape_view pages.shape.now) (texts pages.names.now) text

-- a piece of work gives a text, by what an engine holds
abbrev pub WorkGives : Limits → Texts → Work → List ℕ → Type 0
WorkGives limits e (Render name value) text = MeansNamed limits e name.now (view value.now) text
WorkGives limits e (RenderText source value) text = MeansText limits e source.now (view value.now) text
WorkGives limits e (Names name) text = ListsNamed e name.now text
WorkGives limits e (Fit pages) text = TellsOfPages e pages text

-- it ends with a fault
abbrev pub WorkFaults : Limits → Texts → Work → Fault → Type 0
WorkFaults limits e (Render name value) fault = FailsNamed limits e name.now (view value.now) fault
WorkFaults limits e (RenderText source value) fault = FailsText limits e source.now (view value.now) fault
WorkFaults limits e (Names name) fault = ⊥
WorkFaults limits e (Fit pages) fault = ⊥

-- no text is held under the name that it is about
abbrev pub IsAbsent : Texts → Work → Type 0
IsAbsent e (Render name value) = e.texts name.now ≡ None
IsAbsent e (RenderText source value) = ⊥
IsAbsent e (Names name) = e.texts name.now ≡ None
IsAbsent e (Fit pages) = ⊥

-- why it gives no text: it ends with a fault, of which these are the pictures; or its name is refused, as nothing is
-- held under it; or memory was out
abbrev pub WorkFails : (Fault → Type 0) → Type 0 → Failure → Type 0
WorkFails Ends Absent (Faults pictures) = IsPicture Ends (string_bytes pictures)
WorkFails Ends Absent (Refused argument reason) = (argument ≡ Name) × Absent
WorkFails Ends Absent (NotText argument) = ⊥
WorkFails Ends Absent OutOfMemory = Unit {0}

-- why it gives none with the templates of a call: a text of them has a first fault; or the work gives none
abbrev pub CarriedFails : Asked → List (List ℕ × List ℕ) → Work → Failure → Type 0
CarriedFails asked sources work failure = WorkFails
    (λ fault. IsFirstOfOne asked.delimiters sources fault ⊎ WorkFaults asked.limits (filled asked sources) work fault)
    (IsAbsent (filled asked sources) work) failure

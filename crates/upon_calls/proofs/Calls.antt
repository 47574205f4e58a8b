-- How calls end, from what their parts answer.
use Rattle.std.proofs.Common.{◌≡◌, ◌⊎◌, ◌∙◌, ℕ, List, Option, Some, None, Result, Ok, Err, IfErr, IsErrAnd, string_bytes, sym, ap, subst, inl, inr}
use Rattle.std.specs.Str.{IsUtf8}
use Rattle.upon_types.specs.Fault.{Fault}
use Rattle.upon_types.specs.Val.{Val}
use Rattle.upon_calls.specs.Arguments.{HasNoArgumentValue, IsArgumentValue}
use Rattle.upon_calls.specs.Asked.{Asked, IsAsked, IsUnasked}
use Rattle.upon_calls.specs.Calls.{AreGiven, CallFails, NoneNamed}
use Rattle.upon_calls.specs.Failure.{IsPicture, RefusedIf, TellsNoText}
use Rattle.upon_calls.specs.Filled.{filled}
use Rattle.upon_calls.specs.Templates.{AreNone, AreTemplates, sources_in}
use Rattle.upon_calls.specs.Work.{WorkFails}
use Rattle.upon_calls.specs.declared.failure.Argument.{Argument}
use Rattle.upon_calls.specs.declared.failure.Argument.TheVariants.{Name}
use Rattle.upon_calls.specs.declared.failure.Failure.{Failure}
use Rattle.upon_calls.specs.declared.failure.Failure.TheVariants.{Faults, Refused, NotText, OutOfMemory}
use Rattle.upon_calls.proofs.Values.{one_value}

-- a failure that is handed on
pub handed_on : {A : Type 0} (P : Failure → Type 0) (f : Failure) (r : Result A Failure) → IsErrAnd r (λ x. x ≡ f) → P f → IfErr r P
handed_on P f (Ok a) is said = absurd is
handed_on P f (Err x) is said = subst P (sym is) said

module _ (P : List ℕ → Type 0) (R N : Argument → Type 0) where
  -- an argument is not UTF-8
  pub not_text : (a : Argument) (bytes : List ℕ) (f : Failure) → TellsNoText a bytes f → ((IsUtf8 bytes → ⊥) → N a) → CallFails P R N f
  not_text a bytes (Faults pictures) said so = absurd said
  not_text a bytes (Refused b reason) said so = absurd said
  not_text a bytes (NotText b) said so = subst N (sym said.0) (so said.1)
  not_text a bytes OutOfMemory said so = absurd said

  -- an argument is refused
  pub is_refused : (a : Argument) {Why : Type 0} (f : Failure) → RefusedIf a Why f → (Why → R a) → CallFails P R N f
  is_refused a (Faults pictures) said so = absurd said
  is_refused a (Refused b reason) said so = subst R (sym said.0) (so said.1)
  is_refused a (NotText b) said so = absurd said
  is_refused a OutOfMemory said so = tt

  -- the work gives no text
  pub work_failed : (Ends : Fault → Type 0) (Absent : Type 0) (f : Failure) → WorkFails Ends Absent f → ((text : List ℕ) → IsPicture Ends text → P text) → (Absent → R Name) → CallFails P R N f
  work_failed Ends Absent (Faults pictures) said ends absent = ends (string_bytes pictures) said
  work_failed Ends Absent (Refused b reason) said ends absent = subst R (sym said.0) (absent said.1)
  work_failed Ends Absent (NotText b) said ends absent = absurd said
  work_failed Ends Absent OutOfMemory said ends absent = tt

-- ---- templates
pub no_templates : (templates t : List ℕ) → t ≡ templates → HasNoArgumentValue t → AreNone templates
no_templates templates t same none = subst AreNone same (λ sources are. none are.0 are.1)

pub no_sources : (templates t : List ℕ) (v : Val) → t ≡ templates → IsArgumentValue t v → sources_in v ≡ None → AreNone templates
no_sources templates t v same read none =
    subst AreNone same (λ sources are.
    let no : Some sources ≡ None = sym are.2 ∙ ap sources_in (one_value t are.0 v are.1 read) ∙ none in absurd cc)

pub given : (templates options t o : List ℕ) (asked : Asked) (v : Val) (sources : List (List ℕ × List ℕ)) → t ≡ templates → o ≡ options → IsAsked o asked → IsArgumentValue t v → sources_in v ≡ Some sources → AreGiven templates options asked sources
given templates options t o asked v sources st so asks read are = record {
  asks = subst (λ o. IsAsked o asked) so asks;
  are = subst (λ t. AreTemplates t sources) st (v, read, are);
}

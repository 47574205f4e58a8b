-- How each call ends, once its arguments are read.
use Rattle.std.proofs.Common.{arith, ◌≡◌, ◌⊎◌, ◌∙◌, ◌<◌, ℕ, List, [], Bor, Option, Some, None, Result, Ok, Err, IfErr, IfOk, String, Global, string_bytes, sym, ap, subst, inl, inr}
use Rattle.upon_types.specs.Fault.{Fault}
use Rattle.upon_types.specs.Val.{Val}
use Rattle.upon_calls.specs.Arguments.{IsArgumentValue}
use Rattle.upon_calls.specs.Asked.{Asked, IsAsked}
use Rattle.upon_calls.specs.Calls.{AreRightOn, AreWrongOn, CheckFails, ChecksRefuse, ChecksRight, ListFails, ListFaults, ListNotText, ListRefuses, ListsNeeds, RenderFails, RenderFaults, RenderNotText, RenderRefuses, Renders, RendersText, TextFails, TextFaults, TextNotText, TextRefuses}
use Rattle.upon_calls.specs.Contexts.{AsksCheck, Contexts, IsCheckAsked, LacksPage}
use Rattle.upon_calls.specs.Failure.{FaultyIf, IsPicture}
use Rattle.upon_calls.specs.Filled.{engine_for, filled}
use Rattle.upon_calls.specs.Names.{ListsNamed}
use Rattle.upon_calls.specs.Rendering.{FailsNamed, FailsText, IsFirstOfOne, MeansNamed, MeansText}
use Rattle.upon_calls.specs.Templates.{sources_in}
use Rattle.upon_calls.specs.Work.{WorkFails}
use Rattle.upon_calls.specs.declared.failure.Failure.{Failure}
use Rattle.upon_calls.specs.declared.failure.Failure.TheVariants.{Faults, Refused, NotText, OutOfMemory}
use Rattle.upon_calls.proofs.Calls.{given, work_failed}

-- ---- the template of a name is rendered
module _ (templates context name options t x n o : List ℕ) (st : t ≡ templates) (sx : x ≡ context) (sn : n ≡ name) (so : o ≡ options)
    (asked : Asked) (tv xv : Val) (sources : List (List ℕ × List ℕ)) (asks : IsAsked o asked) (read : IsArgumentValue t tv) (are : sources_in tv ≡ Some sources) (valued : IsArgumentValue x xv) where
  pub rendered : (r : Result (String Global) Failure) → IfOk r (λ text. MeansNamed asked.limits (filled asked sources) n xv (string_bytes text)) → IfOk r (λ text. Renders templates context name options (string_bytes text))
  rendered (Ok text) means = record {
    asked = asked;
    sources = sources;
    value = xv;
    given = given templates options t o asked tv sources st so asks read are;
    read = subst (λ x. IsArgumentValue x xv) sx valued;
    means = subst (λ n. MeansNamed asked.limits (filled asked sources) n xv (string_bytes text)) sn means;
  }
  rendered (Err failure) means = tt

  pub render_fails : (r : Result (String Global) Failure) → IfErr r (WorkFails (λ fault. IsFirstOfOne asked.delimiters sources fault ⊎ FailsNamed asked.limits (filled asked sources) n xv fault) ((filled asked sources).texts n ≡ None)) → IfErr r (RenderFails templates context name options)
  render_fails (Ok text) fails = tt
  render_fails (Err failure) fails =
      work_failed (RenderFaults templates context name options) (RenderRefuses templates context name options) (RenderNotText templates context name options)
      (λ fault. IsFirstOfOne asked.delimiters sources fault ⊎ FailsNamed asked.limits (filled asked sources) name xv fault) ((filled asked sources).texts name ≡ None) failure
      (subst (λ n. WorkFails (λ fault. IsFirstOfOne asked.delimiters sources fault ⊎ FailsNamed asked.limits (filled asked sources) n xv fault) ((filled asked sources).texts n ≡ None) failure) sn fails)
      (λ text pictures. record {
        asked = asked;
        sources = sources;
        value = xv;
        given = given templates options t o asked tv sources st so asks read are;
        read = subst (λ x. IsArgumentValue x xv) sx valued;
        pictures = pictures;
      }) (λ absent. (asked, sources, given templates options t o asked tv sources st so asks read are, absent))

-- ---- a text is rendered
module _ (source context options s x o : List ℕ) (ss : s ≡ source) (sx : x ≡ context) (so : o ≡ options)
    (asked : Asked) (xv : Val) (asks : IsAsked o asked) (valued : IsArgumentValue x xv) where
  pub text_rendered : (r : Result (String Global) Failure) → IfOk r (λ text. MeansText asked.limits (engine_for asked) s xv (string_bytes text)) → IfOk r (λ text. RendersText source context options (string_bytes text))
  text_rendered (Ok text) means = record {
    asked = asked;
    value = xv;
    asks = subst (λ o. IsAsked o asked) so asks;
    read = subst (λ x. IsArgumentValue x xv) sx valued;
    means = subst (λ s. MeansText asked.limits (engine_for asked) s xv (string_bytes text)) ss means;
  }
  text_rendered (Err failure) means = tt

  -- no template has a fault, as there is none
  only_text : (fault : Fault) → IsFirstOfOne asked.delimiters [] fault ⊎ FailsText asked.limits (engine_for asked) source xv fault → FailsText asked.limits (engine_for asked) source xv fault
  only_text fault (inl first) = let inside : first.1.0 < 0 = first.1.1 in absurd (omega arith)
  only_text fault (inr fails) = fails

  pub text_fails : (r : Result (String Global) Failure) → IfErr r (WorkFails (λ fault. IsFirstOfOne asked.delimiters [] fault ⊎ FailsText asked.limits (engine_for asked) s xv fault) ⊥) → IfErr r (TextFails source context options)
  text_fails (Ok text) fails = tt
  text_fails (Err failure) fails =
      work_failed (TextFaults source context options) (TextRefuses source context options) (TextNotText source context options)
      (λ fault. IsFirstOfOne asked.delimiters [] fault ⊎ FailsText asked.limits (engine_for asked) source xv fault) ⊥ failure
      (subst (λ s. WorkFails (λ fault. IsFirstOfOne asked.delimiters [] fault ⊎ FailsText asked.limits (engine_for asked) s xv fault) ⊥ failure) ss fails)
      (λ text pictures. record {
        asked = asked;
        value = xv;
        asks = subst (λ o. IsAsked o asked) so asks;
        read = subst (λ x. IsArgumentValue x xv) sx valued;
        pictures = (pictures.0, pictures.1, pictures.2, only_text pictures.0 pictures.3);
      }) (λ absent. absurd absent)

-- ---- it is listed what a template needs
module _ (templates name options t n o : List ℕ) (st : t ≡ templates) (sn : n ≡ name) (so : o ≡ options)
    (asked : Asked) (tv : Val) (sources : List (List ℕ × List ℕ)) (asks : IsAsked o asked) (read : IsArgumentValue t tv) (are : sources_in tv ≡ Some sources) where
  pub names_listed : (r : Result (String Global) Failure) → IfOk r (λ text. ListsNamed (filled asked sources) n (string_bytes text)) → IfOk r (λ text. ListsNeeds templates name options (string_bytes text))
  names_listed (Ok text) lists = record {
    asked = asked;
    sources = sources;
    given = given templates options t o asked tv sources st so asks read are;
    lists = subst (λ n. ListsNamed (filled asked sources) n (string_bytes text)) sn lists;
  }
  names_listed (Err failure) lists = tt

  only_first : (fault : Fault) → IsFirstOfOne asked.delimiters sources fault ⊎ ⊥ → IsFirstOfOne asked.delimiters sources fault
  only_first fault (inl first) = first
  only_first fault (inr never) = absurd never

  pub names_fail : (r : Result (String Global) Failure) → IfErr r (WorkFails (λ fault. IsFirstOfOne asked.delimiters sources fault ⊎ ⊥) ((filled asked sources).texts n ≡ None)) → IfErr r (ListFails templates name options)
  names_fail (Ok text) fails = tt
  names_fail (Err failure) fails =
      work_failed (ListFaults templates name options) (ListRefuses templates name options) (ListNotText templates name options)
      (λ fault. IsFirstOfOne asked.delimiters sources fault ⊎ ⊥) ((filled asked sources).texts name ≡ None) failure
      (subst (λ n. WorkFails (λ fault. IsFirstOfOne asked.delimiters sources fault ⊎ ⊥) ((filled asked sources).texts n ≡ None) failure) sn fails)
      (λ text pictures. record {
        asked = asked;
        sources = sources;
        given = given templates options t o asked tv sources st so asks read are;
        pictures = (pictures.0, pictures.1, pictures.2, only_first pictures.0 pictures.3);
      }) (λ absent. (asked, sources, given templates options t o asked tv sources st so asks read are, absent))

-- ---- templates are checked
module _ (templates options t o : List ℕ) (st : t ≡ templates) (so : o ≡ options)
    (asked : Asked) (contexts : Option Contexts) (ov tv : Val) (sources : List (List ℕ × List ℕ)) (valued : IsArgumentValue o ov) (asks : AsksCheck ov asked contexts) (read : IsArgumentValue t tv) (are : sources_in tv ≡ Some sources) where
  check_asked : IsCheckAsked options asked contexts
  check_asked = subst (λ o. IsCheckAsked o asked contexts) so (ov, valued, asks)

  template_read : IsArgumentValue templates tv
  template_read = subst (λ t. IsArgumentValue t tv) st read

  pub checked_right : (r : Result (String Global) Failure) → IfOk r (λ text. string_bytes text ≡ []) → IfOk r (λ text. AreRightOn asked contexts tv sources) → IfOk r (λ text. ChecksRight templates options (string_bytes text))
  checked_right (Ok text) empty right = record {
    asked = asked;
    contexts = contexts;
    value = tv;
    sources = sources;
    asks = check_asked;
    read = template_read;
    are = are;
    right = right;
    empty = empty;
  }
  checked_right (Err failure) empty right = tt

  check_failed : (failure : Failure) → FaultyIf (AreWrongOn asked contexts tv sources) (LacksPage contexts tv) failure → CheckFails templates options failure
  check_failed (Faults pictures) wrong = record {
    asked = asked;
    contexts = contexts;
    value = tv;
    sources = sources;
    asks = check_asked;
    read = template_read;
    are = are;
    wrong = wrong;
  }
  check_failed (Refused argument reason) said =
      subst (ChecksRefuse templates options) (sym said.0) (inr (asked, contexts, tv, check_asked, template_read, said.1))
  check_failed (NotText argument) said = absurd said
  check_failed OutOfMemory said = tt

  pub check_fails : (r : Result (String Global) Failure) → IfErr r (FaultyIf (AreWrongOn asked contexts tv sources) (LacksPage contexts tv)) → IfErr r (CheckFails templates options)
  check_fails (Ok text) fails = tt
  check_fails (Err failure) fails = check_failed failure fails

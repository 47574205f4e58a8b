-- Texts that are added.
use Rattle.std.proofs.Common.{◌≡◌, ℕ, List, Option, Some, None, Result, Ok, Err, IfErr, ap, subst, inl, inr}
use Rattle.upon_types.specs.Error.{fault_of}
use Rattle.upon_types.specs.Fault.{syntax}
use Rattle.upon_types.specs.Tree.{Statements}
use Rattle.upon_types.specs.declared.error.Error.{Error}
use Rattle.upon_language_spec.specs.Grammar.{HasTree}
use Rattle.upon_engine.specs.Changes.{unless_refused, with_text}
use Rattle.upon_engine.specs.Faults.{IsSyntaxErrorOf}
use Rattle.upon_engine.specs.Texts.{Texts}
use Rattle.upon_tool_messages.specs.Library.{IsOfAdded}
use Rattle.upon_tool_messages.specs.declared.library.Refusal.{Refusal}
use Rattle.upon_tool_pages.proofs.Refused.{not_memory}
use Rattle.upon_tool.specs.Filled.{TakesText}

-- a text was added, or is refused for its fault
pub taken : {F : Type 0} (name text : List ℕ) (old new : Texts) (added : Result (Unit {0}) Error) (q : Result (Option Refusal) F) (r : Option Refusal) → q ≡ Ok r → IsOfAdded added q
    → new ≡ unless_refused added (with_text name text) old → IfErr added (IsSyntaxErrorOf name old.syntax text)
    → IfErr added (λ e. (fault_of e).kind ≡ syntax → (tree : Statements) → HasTree old.syntax text tree → ⊥) → TakesText name text old new
taken name text old new (Ok u) q r was of_added is faulty none = inl is
taken name text old new (Err e) q None was of_added is faulty none = absurd (subst (IsOfAdded {A = Unit {0}} (Err e)) was of_added)
taken name text old new (Err e) q (Some refusal) was of_added is (inl out) none = absurd (not_memory e (subst (IsOfAdded {A = Unit {0}} (Err e)) was of_added).1 out)
taken name text old new (Err e) q (Some refusal) was of_added is (inr first) none = inr (none (ap (λ f. f.kind) first.3), is)

-- A rendering within limits and what is reported of it, in one.
use Rattle.std.proofs.Common.{◌≡◌, ◌⊎◌, ℕ, List, [], ◌++◌, Option, Some, Result, Ok, Err, String, string_bytes, sym, ap, ◌∙◌, subst, inl, inr, append-nil}
use Rattle.std.specs.Io.KnownBytes.{Appends}
use Rattle.std.specs.declared.alloc.Global.{Global}
use Rattle.upon_types.specs.Error.{fault_of}
use Rattle.upon_types.specs.Fault.{out_of_memory}
use Rattle.upon_types.specs.declared.error.Error.{Error}
use Rattle.upon_meaning_spec.specs.Alone.{fault_of_end}
use Rattle.upon_meaning_spec.specs.Outcome.{Outcome}
use Rattle.upon_fmt.specs.Given.{ReceivesPart}
use Rattle.upon_fmt.specs.declared.output.Mark.{Mark}
use Rattle.upon_fmt.specs.declared.output.Mark.TheVariants.{Clear}
use Rattle.upon_vm.specs.Course.{Course}
use Rattle.upon_vm.specs.Reports.{IsReport, ReportMarks, IsAnyIo, IsTakenError}
use Rattle.upon_vm.specs.Runs.{Ran}
use Rattle.upon_vm.specs.Within.{FitsUnless, IsOfLimit, IsReportWithin, NamesLimit, RanWithin, ReportMarksWithin, TextWithin, WritesWithin}
use Rattle.upon_vm.specs.declared.failure.Failure.{Failure}
use Rattle.upon_vm.specs.declared.failure.Failure.TheVariants.{Error as ErrorFailure, Output as OutputFailure}
use Rattle.upon_vm.specs.declared.limits.Limits.{Limits}
use Rattle.upon_vm.specs.declared.run.Ending.{Ending}
use Rattle.upon_vm.specs.declared.run.Ending.TheVariants.{Good, TooDeep}
use Rattle.upon_vm.specs.declared.within.Within.{Within}
use Rattle.upon_vm.specs.declared.within.Within.TheVariants.{Ended, Reached}
use Rattle.upon_vm.proofs.Writes.{taken, taken_any}

module _ {Q : Type 0} (depth : ℕ) (mid mark : Mark) (old new : Option (List ℕ)) (limits : Limits) (course : Course Q) (o : Outcome Q) (next : Q) where
  all_of_it : {text : List ℕ} → Appends old new text → ReceivesPart old new text
  all_of_it {text} given = (text, [], sym (append-nil text), given)

  own_or_limit : (e : Error) → (fault_of e ≡ out_of_memory) ⊎ IsTakenError mark e → (fault_of e ≡ out_of_memory) ⊎ (IsTakenError mark e ⊎ NamesLimit limits course o (fault_of e))
  own_or_limit e (inl out) = inl out
  own_or_limit e (inr own) = inr (inl own)

  of_ended : (ended : Result Ending Failure) (r : Result (Unit {0}) Error) → Ran ended old new o next × FitsUnless ended limits course o → IsReport depth ended mid r → ReportMarks ended mid mark
      → WritesWithin depth (IsTakenError mark) limits course r old new o
  of_ended (Ok Good) (Ok u) h is marks = (h.0.0, h.0.1, h.1)
  of_ended (Ok Good) (Err e) h is marks = absurd is
  of_ended (Ok TooDeep) (Ok u) h is marks = absurd is
  of_ended (Ok TooDeep) (Err e) h (inl is) marks = inl (ap (fault_of_end depth) h.0.0 ∙ ap Some (sym is), h.0.1, h.1)
  of_ended (Ok TooDeep) (Err e) h (inr is) marks = inr (inl is, all_of_it {text = o.text} h.0.1)
  of_ended (Err failure) (Ok u) h is marks = absurd is
  of_ended (Err (ErrorFailure e)) (Err e') (inl h, fits) is marks = inr (inl (ap fault_of is ∙ h.0), h.1)
  of_ended (Err (ErrorFailure e)) (Err e') (inr h, inl out) is marks = inr (inl (ap fault_of is ∙ out), all_of_it {text = o.text} h.1)
  of_ended (Err (ErrorFailure e)) (Err e') (inr h, inr fits) is marks = inl (ap (fault_of_end depth) h.0 ∙ ap Some (sym (ap fault_of is)), h.1, fits)
  of_ended (Err OutputFailure) (Err e') h is marks = inr (own_or_limit e' (taken mid mark e' marks is), h.0)

  pub writes_within : (ended : Within) (r : Result (Unit {0}) Error) → RanWithin limits course ended old new o next → IsReportWithin depth ended mid r → ReportMarksWithin ended mid mark
      → WritesWithin depth (IsTakenError mark) limits course r old new o
  writes_within (Ended ended) r h is marks = of_ended ended r h is marks
  writes_within (Reached limit e) r h is marks = subst (λ r. WritesWithin depth (IsTakenError mark) limits course r old new o) (sym is) (inr (at_limit h.2, h.3))
    where
      at_limit : IsOfLimit course limit h.0 (fault_of e) ⊎ (fault_of e ≡ out_of_memory) → (fault_of e ≡ out_of_memory) ⊎ (IsTakenError mark e ⊎ NamesLimit limits course o (fault_of e))
      at_limit (inl names) = inr (inr (limit, h.0, h.1, names))
      at_limit (inr out) = inl out

module _ {Q : Type 0} (depth : ℕ) (mark : Mark) (old new : Option (List ℕ)) (limits : Limits) (course : Course Q) (o : Outcome Q) where
  any_or_limit : (e : Error) → (fault_of e ≡ out_of_memory) ⊎ (IsTakenError mark e ⊎ NamesLimit limits course o (fault_of e)) → (fault_of e ≡ out_of_memory) ⊎ (IsAnyIo e ⊎ NamesLimit limits course o (fault_of e))
  any_or_limit e (inl out) = inl out
  any_or_limit e (inr (inl own)) = inr (inl (taken_any mark e own))
  any_or_limit e (inr (inr names)) = inr (inr names)

  -- without the mark
  pub within_any : (r : Result (Unit {0}) Error) → WritesWithin depth (IsTakenError mark) limits course r old new o → WritesWithin depth IsAnyIo limits course r old new o
  within_any (Ok u) h = h
  within_any (Err e) (inl h) = inl h
  within_any (Err e) (inr h) = inr (any_or_limit e h.0, h.1)

-- what a text received is the answer
module _ {Q : Type 0} (depth : ℕ) (limits : Limits) (course : Course Q) (o : Outcome Q) where
  pub text_received : (start : List ℕ) (text : String Global) → start ≡ [] → WritesWithin depth (IsTakenError Clear) limits course (Ok tt) (Some start) (Some (string_bytes text)) o
      → TextWithin depth limits course o (Ok text)
  text_received start text is h = (h.0, subst (λ l. string_bytes text ≡ l ++ o.text) is h.1, h.2)

  pub text_refused : (old new : Option (List ℕ)) (e : Error) → WritesWithin depth (IsTakenError Clear) limits course (Err e) old new o → TextWithin depth limits course o (Err e)
  text_refused old new e (inl h) = inl (h.0, h.2)
  text_refused old new e (inr (inl out, part)) = inr (inl out)
  text_refused old new e (inr (inr (inl own), part)) = absurd own
  text_refused old new e (inr (inr (inr names), part)) = inr (inr names)

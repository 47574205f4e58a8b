-- A rendering and what is reported of it, in one.
use Rattle.std.proofs.Common.{◌≡◌, ◌⊎◌, ℕ, List, [], Option, Some, Result, Ok, Err, sym, ap, ◌∙◌, subst, inl, inr, append-nil}
use Rattle.upon_types.specs.Error.{fault_of}
use Rattle.upon_types.specs.Fault.{Kind, syntax, serialize, render, function, format, io, memory, out_of_memory}
use Rattle.upon_types.specs.declared.error.Error.{Error}
use Rattle.upon_meaning_spec.specs.Alone.{fault_of_end}
use Rattle.upon_meaning_spec.specs.Outcome.{Outcome}
use Rattle.upon_fmt.specs.Mark.{LeftOut, set_aside}
use Rattle.upon_fmt.specs.declared.output.Mark.{Mark}
use Rattle.upon_fmt.specs.declared.output.Mark.TheVariants.{Clear, Waits, Taken}
use Rattle.upon_vm.specs.Reports.{IsReport, OutputReport, ReportMarks, IsAnyIo, IsTakenError, WritesReported, WritesAndLeaves, FaultMarks, WriteMarks}
use Rattle.upon_vm.specs.Runs.{Ran, RunMarks}
use Rattle.upon_vm.specs.declared.failure.Failure.{Failure}
use Rattle.upon_vm.specs.declared.failure.Failure.TheVariants.{Error as ErrorFailure, Output as OutputFailure}
use Rattle.upon_vm.specs.declared.run.Ending.{Ending}
use Rattle.upon_vm.specs.declared.run.Ending.TheVariants.{Good, TooDeep}

-- the error that waited, by the mark after it was taken
pub taken : (mid new : Mark) (e : Error) → new ≡ set_aside mid → OutputReport mid e → (fault_of e ≡ out_of_memory) ⊎ IsTakenError new e
taken Clear new e is out = inl out
taken (Waits error) new e is told = inr (subst (λ m. IsTakenError m e) (sym is) told)
taken (Taken error) new e is out = inl out

module _ {Q : Type 0} (limit : ℕ) (mid mark : Mark) (old new : Option (List ℕ)) (o : Outcome Q) (next : Q) where
  pub writes : (ended : Result Ending Failure) (r : Result (Unit {0}) Error) → Ran ended old new o next → IsReport limit ended mid r → ReportMarks ended mid mark
      → WritesAndLeaves limit (IsTakenError mark) r old new o next
  writes (Ok Good) (Ok u) h is marks = h
  writes (Ok Good) (Err e) h is marks = absurd is
  writes (Ok TooDeep) (Ok u) h is marks = absurd is
  writes (Ok TooDeep) (Err e) h (inl is) marks = inl (ap (fault_of_end limit) h.0 ∙ ap Some (sym is), h.1, h.2)
  writes (Ok TooDeep) (Err e) h (inr is) marks = inr (inl is, (o.text, [], sym (append-nil o.text), h.1))
  writes (Err failure) (Ok u) h is marks = absurd is
  writes (Err (ErrorFailure e)) (Err e') (inl h) is marks = inr (inl (ap fault_of is ∙ h.0), h.1)
  writes (Err (ErrorFailure e)) (Err e') (inr h) is marks = inl (ap (fault_of_end limit) h.0 ∙ ap Some (sym (ap fault_of is)), h.1, h.2)
  writes (Err OutputFailure) (Err e') h is marks = inr (taken mid mark e' marks is, h)

module _ {Q : Type 0} (limit : ℕ) (IsOwn : Error → Type 0) (old new : Option (List ℕ)) (o : Outcome Q) (next : Q) where
  -- without the next states
  pub writes_alone : (r : Result (Unit {0}) Error) → WritesAndLeaves limit IsOwn r old new o next → WritesReported limit IsOwn r old new o
  writes_alone (Ok u) h = (h.0, h.1)
  writes_alone (Err e) (inl h) = inl (h.0, h.1)
  writes_alone (Err e) (inr h) = inr h

pub taken_any : (mark : Mark) (e : Error) → IsTakenError mark e → IsAnyIo e
taken_any Clear e is = absurd is
taken_any (Waits error) e is = absurd is
taken_any (Taken error) e is = is.0

module _ {Q : Type 0} (limit : ℕ) (mark : Mark) (old new : Option (List ℕ)) (o : Outcome Q) where
  -- without the mark
  pub writes_any : (r : Result (Unit {0}) Error) → WritesReported limit (IsTakenError mark) r old new o → WritesReported limit IsAnyIo r old new o
  writes_any (Ok u) h = h
  writes_any (Err e) (inl h) = inl h
  writes_any (Err e) (inr (inl out, part)) = inr (inl out, part)
  writes_any (Err e) (inr (inr own, part)) = inr (inr (taken_any mark e own), part)

-- ---- marks
stayed : (kind : Kind) (old new : Mark) → new ≡ old → FaultMarks kind old new
stayed syntax old new is = is
stayed serialize old new is = is
stayed render old new is = is
stayed function old new is = is
stayed format old new is = is
stayed io old new is = tt
stayed memory old new is = inl is

left : (old mid new : Mark) (e : Error) → LeftOut old mid → OutputReport mid e → new ≡ set_aside mid → FaultMarks (fault_of e).kind old new
left old Clear new e out is aside = subst (λ f. FaultMarks f.kind old new) (sym is) (inr (aside ∙ out))
left old (Waits error) new e out is aside = subst (λ f. FaultMarks f.kind old new) (sym is.0) tt
left old (Taken error) new e out is aside = subst (λ f. FaultMarks f.kind old new) (sym is) (inr (aside ∙ out))

pub marks : (limit : ℕ) (old mid new : Mark) (ended : Result Ending Failure) (r : Result (Unit {0}) Error)
    → RunMarks ended old mid → IsReport limit ended mid r → ReportMarks ended mid new → WriteMarks r old new
marks limit old mid new (Ok end) (Ok u) ran is after = after ∙ ran
marks limit old mid new (Ok end) (Err e) ran is after = stayed (fault_of e).kind old new (after ∙ ran)
marks limit old mid new (Err failure) (Ok u) ran is after = absurd is
marks limit old mid new (Err (ErrorFailure e)) (Err e') ran is after = stayed (fault_of e').kind old new (after ∙ ran)
marks limit old mid new (Err OutputFailure) (Err e') ran is after = left old mid new e' ran is after

-- What is reported of a rendering, by how it ended.
use Rattle.std.specs.Prelude.{◌≡◌, ◌⊎◌, ℕ, List, Option, Some, Result, Ok, Err}
use Rattle.std.specs.Io.KnownBytes.{Appends}
use Rattle.std.specs.declared.io.Error.{Error as IoError}
use Rattle.upon_types.specs.Error.{error_kind, fault_of}
use Rattle.upon_types.specs.Fault.{Kind, io, memory, fault_of_kind, out_of_memory, OrMemory}
use Rattle.upon_types.specs.declared.error.Error.{Error}
use Rattle.upon_types.specs.declared.error.ErrorKind.TheVariants.{Io}
use Rattle.upon_meaning_spec.specs.Alone.{fault_of_end}
use Rattle.upon_meaning_spec.specs.CallFaults.{depth_reached}
use Rattle.upon_meaning_spec.specs.Outcome.{good, Outcome}
use Rattle.upon_fmt.specs.Given.{ReceivesPart}
use Rattle.upon_fmt.specs.Mark.{set_aside}
use Rattle.upon_fmt.specs.declared.output.Mark.{Mark}
use Rattle.upon_fmt.specs.declared.output.Mark.TheVariants.{Clear, Waits, Taken}
use Rattle.upon_vm.specs.declared.failure.Failure.{Failure}
use Rattle.upon_vm.specs.declared.failure.Failure.TheVariants.{Error as ErrorFailure, Output as OutputFailure}
use Rattle.upon_vm.specs.declared.run.Ending.{Ending}
use Rattle.upon_vm.specs.declared.run.Ending.TheVariants.{Good, TooDeep}

-- of includes that are too deep, the depth as it was set
abbrev pub EndReport : ℕ → Ending → Result (Unit {0}) Error → Type 0
EndReport limit Good (Ok u) = Unit {0}
EndReport limit Good (Err e) = ⊥
EndReport limit TooDeep (Ok u) = ⊥
EndReport limit TooDeep (Err e) = OrMemory (depth_reached limit) (fault_of e)

-- the error is this one, of a write
abbrev pub IsIo : IoError → Error → Type 0
IsIo error e = (fault_of e ≡ fault_of_kind io) × (error_kind e ≡ Io error)

-- if the output left something out: its error if one waits, or else that memory is out
abbrev pub OutputReport : Mark → Error → Type 0
OutputReport Clear e = fault_of e ≡ out_of_memory
OutputReport (Waits error) e = IsIo error e
OutputReport (Taken error) e = fault_of e ≡ out_of_memory

-- of a failure
abbrev pub FailureReport : Failure → Mark → Error → Type 0
FailureReport (ErrorFailure e) mark e' = e' ≡ e
FailureReport OutputFailure mark e' = OutputReport mark e'

-- of a rendering
abbrev pub IsReport : ℕ → Result Ending Failure → Mark → Result (Unit {0}) Error → Type 0
IsReport limit (Ok end) mark r = EndReport limit end r
IsReport limit (Err failure) mark (Ok u) = ⊥
IsReport limit (Err failure) mark (Err e) = FailureReport failure mark e

-- the output's mark while a failure is reported: if the output left something out, its error is taken
abbrev pub FailureMarks : Failure → Mark → Mark → Type 0
FailureMarks (ErrorFailure e) old new = new ≡ old
FailureMarks OutputFailure old new = new ≡ set_aside old

-- the output's mark while a rendering is reported: if the output left something out, its error is taken
abbrev pub ReportMarks : Result Ending Failure → Mark → Mark → Type 0
ReportMarks (Ok end) old new = new ≡ old
ReportMarks (Err failure) old new = FailureMarks failure old new

-- the error is the one that an output's last failed write answered, and was taken
abbrev pub IsTakenError : Mark → Error → Type 0
IsTakenError Clear e = ⊥
IsTakenError (Waits error) e = ⊥
IsTakenError (Taken error) e = IsIo error e

-- the error is one of a write
abbrev pub IsAnyIo : Error → Type 0
IsAnyIo e = fault_of e ≡ fault_of_kind io

-- The output received the whole text, and the fault of the outcome's end is reported if it has one. Or it received a
-- beginning of the text, and memory is out, or its own error is reported, of which this holds.
abbrev pub WritesReported : {Q : Type 0} → ℕ → (Error → Type 0) → Result (Unit {0}) Error → Option (List ℕ)
    → Option (List ℕ) → Outcome Q → Type 0
WritesReported limit IsOwn (Ok u) old new o = (o.end ≡ good) × Appends old new o.text
WritesReported limit IsOwn (Err e) old new o =
    ((fault_of_end limit o.end ≡ Some (fault_of e)) × Appends old new o.text)
    ⊎ (((fault_of e ≡ out_of_memory) ⊎ IsOwn e) × ReceivesPart old new o.text)

-- what is written and reported; and if the whole text was received, the sources are in the outcome's next states
abbrev pub WritesAndLeaves : {Q : Type 0} → ℕ → (Error → Type 0) → Result (Unit {0}) Error → Option (List ℕ)
    → Option (List ℕ) → Outcome Q → Q → Type 0
WritesAndLeaves limit IsOwn (Ok u) old new o next = (o.end ≡ good) × Appends old new o.text × (o.next ≡ next)
WritesAndLeaves limit IsOwn (Err e) old new o next =
    ((fault_of_end limit o.end ≡ Some (fault_of e)) × Appends old new o.text × (o.next ≡ next))
    ⊎ (((fault_of e ≡ out_of_memory) ⊎ IsOwn e) × ReceivesPart old new o.text)

-- by the kind of the fault: if memory is out, an error of before may be put aside; and but for a fault of a write, the
-- mark stays
abbrev pub FaultMarks : Kind → Mark → Mark → Type 0
FaultMarks io old new = Unit {0}
FaultMarks memory old new = (new ≡ old) ⊎ (new ≡ set_aside old)
FaultMarks kind old new = new ≡ old

-- an output's mark over a rendering: no write failed but where the fault is one of a write
abbrev pub WriteMarks : Result (Unit {0}) Error → Mark → Mark → Type 0
WriteMarks (Ok u) old new = new ≡ old
WriteMarks (Err e) old new = FaultMarks (fault_of e).kind old new

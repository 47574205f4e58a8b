-- Refusals, and why they are.
use Rattle.std.specs.Prelude.{⊤}
use Rattle.std.specs.Prelude.{Result, Ok, Err, IfErr}
use Rattle.upon_calls.specs.Failure.{RefusedIf}
use Rattle.upon_calls.specs.declared.failure.Argument.{Argument}
use Rattle.upon_calls.specs.declared.failure.Failure.{Failure}
use Rattle.upon_calls.specs.declared.failure.Failure.TheVariants.{Faults, Refused, NotText, OutOfMemory}

-- of a refusal it is said why
pub refused_for : (a : Argument) {Why : Type 0} (f : Failure) → RefusedIf a ⊤ f → Why → RefusedIf a Why f
refused_for a (Faults pictures) said why = absurd said
refused_for a (Refused b reason) said why = (said.0, why)
refused_for a (NotText b) said why = absurd said
refused_for a OutOfMemory said why = tt

-- and what follows from why
pub refused_so : (a : Argument) {P Q : Type 0} (f : Failure) → (P → Q) → RefusedIf a P f → RefusedIf a Q f
refused_so a (Faults pictures) so said = absurd said
refused_so a (Refused b reason) so said = (said.0, so said.1)
refused_so a (NotText b) so said = absurd said
refused_so a OutOfMemory so said = tt

-- a call that is refused for one reason is refused for each reason that follows from it
pub err_so : {A : Type 0} (a : Argument) {P Q : Type 0} (r : Result A Failure) → (P → Q) → IfErr r (RefusedIf a P) → IfErr r (RefusedIf a Q)
err_so a (Ok x) so said = tt
err_so a (Err f) so said = refused_so a f so said

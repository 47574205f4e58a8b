-- How far a run has come, as it is told.
use Rattle.std.specs.Prelude.{◌≡◌, ◌≤◌, ℕ, Option, None}
use denote.Ref.{MutBor}
use Rattle.std.specs.declared.time.Duration.{Duration}
use Rattle.upon_tool_pages.specs.declared.progress.Waiting.{Waiting}

-- when it is said next; none is never
abbrev pub next_telling : {R E : Type 0} → Waiting R E → Option Duration
next_telling waiting = waiting.next

-- where it is said
abbrev pub waiting_writer : {R E : Type 0} → Waiting R E → MutBor E
waiting_writer waiting = waiting.err

-- nothing is said where nobody waits, nor of a run that is done
pub record TellsWaiting {R E : Type 0} (old : Waiting R E) (done all : ℕ) (new : Waiting R E) : Type 0 where
  pub nobody : next_telling old ≡ None → new ≡ old
  pub ended : all ≤ done → new ≡ old

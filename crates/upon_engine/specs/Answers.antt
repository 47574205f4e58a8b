-- What a rendering answers, by what its template means.
use Rattle.std.specs.Prelude.{◌≡◌, ◌⊎◌, ℕ, Some, Result, Ok, Err, String, string_bytes}
use Rattle.std.specs.declared.alloc.Global.{Global}
use Rattle.upon_types.specs.Error.{fault_of}
use Rattle.upon_types.specs.Fault.{out_of_memory}
use Rattle.upon_types.specs.declared.error.Error.{Error}
use Rattle.upon_meaning_spec.specs.Alone.{fault_of_end}
use Rattle.upon_meaning_spec.specs.Outcome.{good, Outcome}

-- the text of a meaning that ends well; or the fault of its end, or out of memory
abbrev pub AnswersText : {Q : Type 0} → ℕ → Outcome Q → Result (String Global) Error → Type 0
AnswersText limit o (Ok text) = (o.end ≡ good) × (string_bytes text ≡ o.text)
AnswersText limit o (Err e) = (fault_of_end limit o.end ≡ Some (fault_of e)) ⊎ (fault_of e ≡ out_of_memory)

-- How the result of a call says what was found. Memory that runs out says nothing else.
use Rattle.std.specs.Prelude.{◌≡◌, ℕ, Bool, true, false, List, Option, Some, None, option_map, Result, Ok, Err}
use denote.Ref.{Bor}
use Rattle.upon_types.specs.Cow.{cow_view}
use Rattle.upon_types.specs.Error.{fault_of}
use Rattle.upon_types.specs.Fault.{fault_with_picture, out_of_memory, OrMemory}
use Rattle.upon_types.specs.Val.{Val, none_val}
use Rattle.upon_types.specs.View.{view}
use Rattle.upon_types.specs.declared.error.Error.{Error}
use Rattle.upon_types.specs.declared.value.Value.{Value}
use Rattle.upon_types.specs.declared.value.cow.ValueCow.{ValueCow}
use Rattle.upon_types.specs.declared.value.cow.ValueCow.TheVariants.{Borrowed, Owned}
use Rattle.upon_lookup.specs.Finding.{Finding, found, at_fault}

-- the error is the fault that was met, with the picture of its span in the source; or memory ran out while it was made
abbrev pub TellsFault : {A : Type 0} → List ℕ → Finding A → Error → Type 0
TellsFault source (found a) error = ⊥
TellsFault source (at_fault fault) error = OrMemory (fault_with_picture source fault) (fault_of error)

-- the error is the fault that was met, with the picture of its span in the source; or memory ran out, also before that
abbrev pub TellsFaultOrMemory : {A : Type 0} → List ℕ → Finding A → Error → Type 0
TellsFaultOrMemory source (found a) error = fault_of error ≡ out_of_memory
TellsFaultOrMemory source (at_fault fault) error = OrMemory (fault_with_picture source fault) (fault_of error)

-- what is found is given; a fault is reported; memory is taken for the fault alone
abbrev pub AnswersAlways : {A B : Type 0} → (A → B) → List ℕ → Finding B → Result A Error → Type 0
AnswersAlways shows source outcome (Ok a) = outcome ≡ found (shows a)
AnswersAlways shows source outcome (Err error) = TellsFault source outcome error

-- what is found is given, for which memory is taken too; a fault is reported
abbrev pub Answers : {A B : Type 0} → (A → B) → List ℕ → Finding B → Result A Error → Type 0
Answers shows source outcome (Ok a) = outcome ≡ found (shows a)
Answers shows source outcome (Err error) = TellsFaultOrMemory source outcome error

-- what a reference that may be missing denotes
abbrev pub lent_view : Option (Bor Value) → Option Val
lent_view value = option_map (λ v. view v.now) value

-- what a walk by references ends at; no value if it missed by `?.`
abbrev pub lent_or_none : Option (Bor Value) → Val
lent_or_none None = none_val
lent_or_none (Some value) = view value.now

-- what a value that may be missing denotes
abbrev pub maybe_view : Option ValueCow → Option Val
maybe_view value = option_map cow_view value

-- whether the value is lent
abbrev pub is_borrowed_value : ValueCow → Bool
is_borrowed_value (Borrowed v) = true
is_borrowed_value (Owned v) = false

-- borrowed, or no value, as a miss by `?.` gives it
abbrev pub IsLent : ValueCow → Type 0
IsLent (Borrowed v) = Unit {0}
IsLent (Owned v) = view v ≡ none_val

-- lent, if there is one
abbrev pub IsLentIfAny : Option ValueCow → Type 0
IsLentIfAny None = Unit {0}
IsLentIfAny (Some value) = IsLent value

-- what is found is given, and lent; memory is taken for a fault alone
abbrev pub Lends : {A B : Type 0} → (A → Type 0) → Finding B → Result A Error → Type 0
Lends IsSo outcome (Ok a) = IsSo a
Lends IsSo (found b) (Err error) = ⊥
Lends IsSo (at_fault fault) (Err error) = Unit {0}

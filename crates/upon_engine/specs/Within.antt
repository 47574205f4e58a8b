-- What rendering a text within limits answers, by texts and trees, and by the machine's run of the program of a tree.
use Rattle.std.specs.Prelude.{◌≡◌, ◌⊎◌, ◌≤◌, ℕ, List, Option, Some, None, IsSome, Result, Ok, Err, String}
use Rattle.std.specs.declared.alloc.Global.{Global}
use Rattle.upon_types.specs.Error.{fault_of}
use Rattle.upon_types.specs.Fault.{out_of_memory}
use Rattle.upon_types.specs.Tree.{Statements}
use Rattle.upon_types.specs.Val.{Val}
use Rattle.upon_types.specs.declared.error.Error.{Error}
use Rattle.upon_lookup.specs.Environment.{context}
use Rattle.upon_meaning_spec.specs.Alone.{includes_left}
use Rattle.upon_meaning_spec.specs.Engine.{Table}
use Rattle.upon_meaning_spec.specs.Outcome.{Outcome, States, states}
use Rattle.upon_machine_spec.specs.State.{at_start}
use Rattle.upon_vm.specs.Course.{Course, course}
use Rattle.upon_vm.specs.Reports.{IsAnyIo}
use Rattle.upon_vm.specs.Within.{FitsLimits, GoesBeyond, IsOfLimit, NamesLimit, TextWithin, WritesWithin}
use Rattle.upon_vm.specs.declared.limits.Limit.{Limit}
use Rattle.upon_vm.specs.declared.limits.Limits.{Limits}
use Rattle.upon_engine.specs.Texts.{Texts}
use Rattle.upon_engine.specs.Theorem.{IsTable, meaning, rendering}

-- the course of the machine's run of the program of a tree on a value
abbrev pub runs : Texts → Table → Option (List ℕ) → List ℕ → Statements → Val → Course (States (Unit {0}) (Unit {0}))
runs e table name source tree v =
    course (rendering e table).calls (rendering e table).resolve (context v)
    (at_start (record { source = source; tree = tree }) name (includes_left e.depth) (states tt tt))

-- the machine's run of a tree's program on a value ends within so many steps
abbrev pub EndsWithin : Texts → Table → Option (List ℕ) → List ℕ → Statements → Val → ℕ → Type 0
EndsWithin e table name source tree v n = IsSome ((runs e table name source tree v).out n)

-- A rendering of the tree of a text within limits answers what the tree means, if the machine ends within the steps,
-- the text has no more bytes, and no more bytes of values are made; if not, it names a limit beyond which it goes. So
-- it is whatever the table of the texts that are held.
abbrev pub AnswersWithin : Texts → Limits → Option (List ℕ) → List ℕ → Statements → Val → Result (String Global) Error
    → Type 0
AnswersWithin e limits name source tree v result =
    (table : Table) → IsTable e.texts table
    → TextWithin e.depth limits (runs e table name source tree v) (meaning e table name source tree v) result

-- what a writer that may fail receives of a rendering within limits, by what it had and has; whatever the table is
abbrev pub SendsWithin : Texts → Limits → Option (List ℕ) → List ℕ → Statements → Val → Result (Unit {0}) Error
    → Option (List ℕ) → Option (List ℕ) → Type 0
SendsWithin e limits name source tree v result old new =
    (table : Table) → IsTable e.texts table
    → WritesWithin e.depth IsAnyIo limits (runs e table name source tree v) result old new
    (meaning e table name source tree v)

-- the answer names a limit, where the machine's run is stopped at it; whatever the table is
abbrev pub NamesALimit : Texts → Option (List ℕ) → List ℕ → Statements → Val → Result (String Global) Error → Type 0
NamesALimit e name source tree v (Ok text) = ⊥
NamesALimit e name source tree v (Err error) =
    (limit : Limit) × (n : ℕ) × ((table : Table) → IsTable e.texts table
    → IsOfLimit (runs e table name source tree v) limit n (fault_of error))

-- a rendering fits the limits; whatever the table is
abbrev pub RenderingFits : Texts → Limits → Option (List ℕ) → List ℕ → Statements → Val → Type 0
RenderingFits e limits name source tree v =
    (table : Table) → IsTable e.texts table
    → FitsLimits limits (runs e table name source tree v) (meaning e table name source tree v)

-- a rendering goes beyond a limit of so many; whatever the table is
abbrev pub RenderingGoesBeyond : Texts → Limits → Limit → ℕ → Option (List ℕ) → List ℕ → Statements → Val → Type 0
RenderingGoesBeyond e limits limit n name source tree v =
    (table : Table) → IsTable e.texts table
    → GoesBeyond limits (runs e table name source tree v) (meaning e table name source tree v) limit n

-- of what is written: memory is out, or a write failed, or the fault names a limit beyond which the rendering goes
abbrev pub StopsSending : {Q : Type 0} → Limits → Course Q → Outcome Q → Result (Unit {0}) Error → Type 0
StopsSending limits course o (Ok u) = ⊥
StopsSending limits course o (Err e) =
    (fault_of e ≡ out_of_memory) ⊎ (IsAnyIo e ⊎ NamesLimit limits course o (fault_of e))

-- a limit that is as great as another, or is not set
abbrev pub IsNoLess : Option ℕ → Option ℕ → Type 0
IsNoLess one None = Unit {0}
IsNoLess None (Some other) = ⊥
IsNoLess (Some one) (Some other) = one ≤ other

-- each of the other limits is as great as the one, or is not set
pub record AreNoLess (one other : Limits) : Type 0 where
  pub steps : IsNoLess one.steps other.steps
  pub output : IsNoLess one.output other.output
  pub values : IsNoLess one.values other.values

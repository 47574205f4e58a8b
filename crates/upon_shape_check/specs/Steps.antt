-- Steps of a walk along a program.
use Rattle.std.specs.Prelude.{◌≡◌, ℕ, List, Bool}
use Rattle.upon_machine_spec.specs.Instr.{Instr}
use Rattle.upon_shape_spec.specs.Declared.{Declared}
use Rattle.upon_shape_spec.specs.Doubts.{Doubt}
use Rattle.upon_shape_spec.specs.Scope.{Scope}
use Rattle.upon_shape_spec.specs.Known.{Known}
use Rattle.upon_shape_spec.specs.ProgramDoubts.{instr_doubts, stepped}

-- these doubts at an instruction, which has this number, and this known after it
abbrev pub Steps : Declared → (List ℕ → Scope → Bool) → ℕ → Known → Instr → List Doubt → Known → Type 0
Steps declared included at k i ds next =
    (ds ≡ instr_doubts declared included k i) × (next ≡ stepped declared included at k i)

-- these doubts at an instruction, and this known after it, whatever is declared and included
abbrev pub AlwaysSteps : ℕ → Known → Instr → List Doubt → Known → Type 0
AlwaysSteps at k i ds next =
    (declared : Declared) (included : List ℕ → Scope → Bool) → Steps declared included at k i ds next

-- these doubts at an instruction, and this known after it, by what is declared, whatever is included
abbrev pub StepsDeclared : Declared → ℕ → Known → Instr → List Doubt → Known → Type 0
StepsDeclared declared at k i ds next =
    (included : List ℕ → Scope → Bool) → Steps declared included at k i ds next

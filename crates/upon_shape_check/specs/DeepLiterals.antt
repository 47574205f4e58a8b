-- Literals of a program into which something is put that is too deep for a check.
use Rattle.std.specs.Prelude.{ℕ, ◌+◌, List, [], ◌∷◌, ◌++◌, Bool, if◌then◌else◌}
use Rattle.upon_types.specs.declared.types.Span.{Span}
use Rattle.upon_meaning_spec.specs.MapOrder.{IsAmong}
use Rattle.upon_machine_spec.specs.Instr.{Instr, expr_list_push, expr_map_insert}
use Rattle.upon_shape_spec.specs.Declared.{Declared}
use Rattle.upon_shape_spec.specs.Known.{Known}
use Rattle.upon_shape_spec.specs.ProgramDoubts.{known_after, with_known_top}
use Rattle.upon_shape_spec.specs.Scope.{Scope}
use Rattle.upon_shape_check.specs.Depth.{is_too_deep}
use Rattle.upon_shape_check.specs.declared.unchecked.Unchecked.{Unchecked}
use Rattle.upon_shape_check.specs.declared.unchecked.Unchecked.TheVariants.{Memory, TooDeep}

-- the literal under the operand on top, if that has more than 128 levels of lists and maps
abbrev pub put_too_deep : Known → List Span
put_too_deep k = with_known_top [] k.operands (λ o os. with_known_top [] os (λ into below.
    if is_too_deep 128 into.shape o.shape then into.place ∷ [] else []))

-- the literal into which an instruction puts something too deep, if it does
abbrev pub instr_too_deep : Known → Instr → List Span
instr_too_deep k expr_list_push = put_too_deep k
instr_too_deep k (expr_map_insert key) = put_too_deep k
instr_too_deep k i = []

-- those into which instructions do, of which the first has this number
abbrev pub program_too_deep : Declared → (List ℕ → Scope → Bool) → ℕ → Known → List Instr → List Span
program_too_deep declared included at k [] = []
program_too_deep declared included at k (i ∷ is) =
    instr_too_deep k i ++ program_too_deep declared included (at + 1) (known_after declared included at k i) is

-- why a walk ended before the end: at one of these literals, or there is no memory
abbrev pub EndsAtOne : List Span → Unchecked → Type 0
EndsAtOne places (Memory error) = Unit {0}
EndsAtOne places (TooDeep place) = IsAmong place places

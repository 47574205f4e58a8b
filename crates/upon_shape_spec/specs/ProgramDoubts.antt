-- What is in doubt along a program.
use Rattle.std.specs.Prelude.{ℕ, ◌+◌, leb, List, [], ◌∷◌, ◌++◌, Option, Some, None, Bool, true, false, not, if◌then◌else◌}
use Rattle.upon_types.specs.Path.{Ident, path_span}
use Rattle.upon_machine_spec.specs.Instr.{Instr, jump, jump_if_true, jump_if_false, emit, emit_raw, emit_with, loop_start, loop_next, loop_next_else, with_start, with_end, include, include_with, expr_start_var, expr_start_literal, expr_start_list, expr_start_map, expr_list_push, expr_map_insert, apply}
use Rattle.upon_machine_spec.specs.Operands.{taken}
use Rattle.upon_shape_spec.specs.Accepted.{iteration_names}
use Rattle.upon_shape_spec.specs.Added.{with_item_shape, with_entry_shape}
use Rattle.upon_shape_spec.specs.Declared.{Declared}
use Rattle.upon_shape_spec.specs.Doubts.{Doubt, doubt, unless, if_some, path_doubts, given_doubts, text_doubts, shown_call_doubts, items_in_doubt, is_included, or_never, bound_names}
use Rattle.upon_shape_spec.specs.ExpressionShapes.{literal_shape, shape_then, call_shape}
use Rattle.upon_shape_spec.specs.Scope.{value_of, name_shape, NameShape, Scope, scope_over, with_names, path_shape}
use Rattle.upon_shape_spec.specs.Shape.{Shape, never, list_of, map_of, no_others}
use Rattle.upon_shape_spec.specs.Known.{KnownOperand, Open, body_to, other_to, binding, Known, known, known_operand, with_operands, with_operand, path_tested, both_shapes, around, left_at}

-- the shapes of operands, if all are sure to come to something
abbrev pub shapes_of : List KnownOperand → Option (List Shape)
shapes_of [] = Some []
shapes_of (o ∷ os) = shape_then o.shape (shapes_of os)

-- with the top operand and those below it, or else another answer
abbrev pub with_known_top : {A : Type 0} → A → List KnownOperand → (KnownOperand → List KnownOperand → A) → A
with_known_top other [] go = other
with_known_top other (o ∷ os) go = go o os

-- with operands that were taken and those below them, or else another answer
abbrev pub with_known_taken : {A : Type 0} → A → Option (List KnownOperand × List KnownOperand)
    → (List KnownOperand → List KnownOperand → A) → A
with_known_taken other None go = other
with_known_taken other (Some both) go = go both.0 both.1

-- a block that binds names begins, over these operands
abbrev pub binds_shapes : List NameShape → List KnownOperand → Known → Known
binds_shapes names os k = known os (with_names names k.scope) (binding k.scope ∷ k.opens)

-- the innermost of these blocks ends
abbrev pub leaves_block : Known → List Open → Known
leaves_block k [] = k
leaves_block k (block ∷ opens) = known k.operands (around block) opens

-- the body of an `if` ends before its other case, which ends at the instruction of this number
abbrev pub other_case : ℕ → Known → List Open → Known
other_case n k (body_to end other outer ∷ opens) = known k.operands other (other_to n outer ∷ opens)
other_case n k opens = k

-- the body of an `if` begins, where the operand that was tested was so; in the other case it was not
abbrev pub tests : Bool → ℕ → KnownOperand → List KnownOperand → Known → Known
tests so n o os k =
    known os (path_tested so o.path k.scope) (body_to n (path_tested (not so) o.path k.scope) k.scope ∷ k.opens)

-- an item is put at the end of the list under it, or a value at a key of the map under it
abbrev pub puts : (Shape → Shape → Shape) → Known → Known
puts put k =
    with_known_top k k.operands (λ o os. with_known_top k os (λ into below.
    with_operands (record into { shape = both_shapes put into.shape o.shape } ∷ below) k))

module _ (declared : Declared) (included : List ℕ → Scope → Bool) where
  -- that an include does not fail on a scope
  abbrev pub include_doubts : Ident → Scope → List Doubt
  include_doubts word scope = unless (included word.text scope) (doubt word.span (is_included word.text scope))

  -- what is in doubt at an instruction
  abbrev pub instr_doubts : Known → Instr → List Doubt
  instr_doubts k emit = with_known_top [] k.operands (λ o os. if_some o.shape (text_doubts declared k.scope o.place))
  instr_doubts k (emit_with name n span) =
      with_known_taken [] (taken n k.operands)
      (λ os below. if_some (shapes_of os)
      (shown_call_doubts declared k.scope name.span span (declared.callables name.text)))
  instr_doubts k (loop_start names span) =
      with_known_top [] k.operands (λ o os. items_in_doubt span names (or_never o.shape))
  instr_doubts k (include word) = include_doubts word k.scope
  instr_doubts k (include_with word) =
      with_known_top [] k.operands (λ o os. if_some o.shape (λ s. include_doubts word (scope_over s)))
  instr_doubts k (expr_start_var first rest) = path_doubts k.scope first rest
  instr_doubts k (apply name n span) =
      with_known_taken [] (taken n k.operands)
      (λ os below. if_some (shapes_of os) (given_doubts name.span (declared.callables name.text)))
  instr_doubts k i = []

  -- on after an instruction, which has this number
  abbrev pub stepped : ℕ → Known → Instr → Known
  stepped at k (jump n) = if leb n at then leaves_block k k.opens else other_case n k k.opens
  stepped at k (jump_if_true n) = with_known_top k k.operands (λ o os. tests false n o os k)
  stepped at k (jump_if_false n) = with_known_top k k.operands (λ o os. tests true n o os k)
  stepped at k emit = with_known_top k k.operands (λ o os. with_operands os k)
  stepped at k (emit_raw span) = k
  stepped at k (emit_with name n span) = with_known_taken k (taken n k.operands) (λ os below. with_operands below k)
  stepped at k (loop_start names span) =
      with_known_top k k.operands (λ o os. binds_shapes (iteration_names (bound_names names (or_never o.shape))) os k)
  stepped at k (loop_next n) = k
  stepped at k (loop_next_else other past) = k
  stepped at k (with_start word) =
      with_known_top k k.operands (λ o os. binds_shapes (name_shape word.text (value_of (or_never o.shape)) ∷ []) os k)
  stepped at k with_end = leaves_block k k.opens
  stepped at k (include word) = k
  stepped at k (include_with word) = with_known_top k k.operands (λ o os. with_operands os k)
  stepped at k (expr_start_var first rest) =
      with_operand (known_operand (path_shape k.scope first rest) (path_span first rest)
      (Some (record { first = first; rest = rest }))) k
  stepped at k (expr_start_literal v span) = with_operand (known_operand (Some (literal_shape v)) span None) k
  stepped at k (expr_start_list span) = with_operand (known_operand (Some (list_of never)) span None) k
  stepped at k (expr_start_map span) = with_operand (known_operand (Some (map_of no_others)) span None) k
  stepped at k expr_list_push = puts with_item_shape k
  stepped at k (expr_map_insert key) = puts (with_entry_shape key.text) k
  stepped at k (apply name n span) =
      with_known_taken k (taken n k.operands) (λ os below.
      with_operands (known_operand (call_shape (declared.callables name.text) (shapes_of os)) span None ∷ below) k)

  -- what is known after an instruction, which has this number
  abbrev pub known_after : ℕ → Known → Instr → Known
  known_after at k i =
      let next : Known = stepped at k i in
      left_at (at + 1) next.operands next.scope next.opens

  -- what is in doubt in instructions, of which the first has this number
  abbrev pub program_doubts : ℕ → Known → List Instr → List Doubt
  program_doubts at k [] = []
  program_doubts at k (i ∷ is) = instr_doubts k i ++ program_doubts (at + 1) (known_after at k i) is

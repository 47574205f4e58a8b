-- The literals of a tree that are too deep lie in its text.
use Rattle.std.proofs.Common.{◌+◌, ◌++◌, ℕ, zero, suc, List, [], ◌∷◌, Bool, true, false, if◌then◌else◌, inl, inr, leb, subst}
use Rattle.upon_types.specs.TreeSpans.{TreeLiesIn}
use Rattle.upon_types.specs.Span.{LiesIn}
use Rattle.upon_types.specs.declared.types.Span.{Span}
use Rattle.upon_types.proofs.CombinedSpans.{combined_lies_in}
use Rattle.upon_types.proofs.ExpressionSpans.{path_place}
use Rattle.upon_meaning_spec.specs.MapOrder.{IsAmong}
use Rattle.upon_machine_spec.specs.Instr.{Instr, jump, emit_raw, emit_with, loop_next, loop_next_else, with_end, include, expr_start_var, expr_start_literal, expr_start_list, expr_start_map, expr_list_push, expr_map_insert, apply}
use Rattle.upon_machine_spec.specs.Operands.{taken_before}
use Rattle.upon_machine_spec.specs.Spans.{CodeSpans, InstrSpans}
use Rattle.upon_shape_spec.specs.Declared.{Declared}
use Rattle.upon_shape_spec.specs.Known.{Known, KnownOperand, Open, around, binding, body_to, has_ended, known, known_at_begin, left_at, other_to}
use Rattle.upon_shape_spec.specs.ProgramDoubts.{known_after, leaves_block, other_case, puts, stepped, with_known_taken, with_known_top}
use Rattle.upon_shape_spec.specs.Scope.{Scope}
use Rattle.upon_shape_spec.specs.Shape.{Shape}
use Rattle.upon_types.specs.Tree.{Statements}
use Rattle.upon_machine_spec.specs.Code.{program_of}
use Rattle.upon_machine_spec.proofs.FaultsLie.Code.{program_spans}
use Rattle.upon_shape_spec.specs.Added.{with_item_shape, with_entry_shape}
use Rattle.upon_shape_check.specs.Depth.{is_too_deep}
use Rattle.upon_shape_check.specs.DeepLiterals.{instr_too_deep, program_too_deep}

module _ (s : List ℕ) where
  -- the place of each of some operands lies in the text
  abbrev PlacesLie : List KnownOperand → Type 0
  PlacesLie [] = Unit {0}
  PlacesLie (o ∷ os) = LiesIn s o.place × PlacesLie os

  abbrev SpansLie : List Span → Type 0
  SpansLie [] = Unit {0}
  SpansLie (at ∷ ats) = LiesIn s at × SpansLie ats

  both_lie : (these those : List Span) → SpansLie these → SpansLie those → SpansLie (these ++ those)
  both_lie [] those here there = there
  both_lie (at ∷ ats) those here there = (here.0, both_lie ats those here.1 there)

  among_lies : (at : Span) (ats : List Span) → SpansLie ats → IsAmong at ats → LiesIn s at
  among_lies at (other ∷ ats) lie among = elim among [
    | inl same ↦ subst (LiesIn s) same lie.0
    | inr later ↦ among_lies at ats lie.1 later
  ]
  among_lies at [] lie among = absurd among

  -- ---- a step
  top_lies : (k : Known) (os : List KnownOperand) (go : KnownOperand → List KnownOperand → Known) → PlacesLie k.operands → PlacesLie os
      → ((o : KnownOperand) (below : List KnownOperand) → LiesIn s o.place → PlacesLie below → PlacesLie (go o below).operands) → PlacesLie (with_known_top k os go).operands
  top_lies k [] go lie all so = lie
  top_lies k (o ∷ os) go lie all so = so o os all.0 all.1

  taken_lies : (k : Known) (n : ℕ) (done os : List KnownOperand) (go : List KnownOperand → List KnownOperand → Known) → PlacesLie k.operands → PlacesLie os
      → ((some below : List KnownOperand) → PlacesLie below → PlacesLie (go some below).operands) → PlacesLie (with_known_taken k (taken_before n done os) go).operands
  taken_lies k zero done os go lie all so = so done os all
  taken_lies k (suc n) done [] go lie all so = lie
  taken_lies k (suc n) done (o ∷ os) go lie all so = taken_lies k n (o ∷ done) os go lie all.1 so

  left_lies : (k : Known) (opens : List Open) → PlacesLie k.operands → PlacesLie (leaves_block k opens).operands
  left_lies k [] lie = lie
  left_lies k (block ∷ opens) lie = lie

  other_lies : (n : ℕ) (k : Known) (opens : List Open) → PlacesLie k.operands → PlacesLie (other_case n k opens).operands
  other_lies n k [] lie = lie
  other_lies n k (body_to end other outer ∷ opens) lie = lie
  other_lies n k (other_to end outer ∷ opens) lie = lie
  other_lies n k (binding outer ∷ opens) lie = lie

  if_lies : (b : Bool) (k other : Known) → PlacesLie k.operands → PlacesLie other.operands → PlacesLie (if b then k else other).operands
  if_lies true k other lie there = lie
  if_lies false k other lie there = there

  ended_lies : (at : ℕ) (os : List KnownOperand) (scope : Scope) (opens : List Open) → PlacesLie os → PlacesLie (left_at at os scope opens).operands
  ended_lies at os scope [] lie = lie
  ended_lies at os scope (block ∷ opens) lie =
      if_lies (has_ended at block) (left_at at os (around block) opens) (known os scope (block ∷ opens)) (ended_lies at os (around block) opens lie) lie

  puts_lies : (put : Shape → Shape → Shape) (k : Known) → PlacesLie k.operands → PlacesLie (puts put k).operands
  puts_lies put k lie =
      top_lies k k.operands _ lie lie (λ o os here all. top_lies k os _ lie all (λ into below at rest. (at, rest)))

  module _ (declared : Declared) (included : List ℕ → Scope → Bool) where
    stepped_lies : (at : ℕ) (k : Known) (i : Instr) → InstrSpans (LiesIn s) i → PlacesLie k.operands → PlacesLie (stepped declared included at k i).operands
    stepped_lies at k (jump n) spans lie = if_lies (leb n at) (leaves_block k k.opens) (other_case n k k.opens) (left_lies k k.opens lie) (other_lies n k k.opens lie)
    stepped_lies at k (emit_raw span) spans lie = lie
    stepped_lies at k (emit_with name n span) spans lie = taken_lies k n [] k.operands _ lie lie (λ os below all. all)
    stepped_lies at k (loop_next n) spans lie = lie
    stepped_lies at k (loop_next_else other past) spans lie = lie
    stepped_lies at k with_end spans lie = left_lies k k.opens lie
    stepped_lies at k (include word) spans lie = lie
    stepped_lies at k (expr_start_var first rest) spans lie = (path_place (LiesIn s) (combined_lies_in s) first rest spans.0 spans.1, lie)
    stepped_lies at k (expr_start_literal v span) spans lie = (spans, lie)
    stepped_lies at k (expr_start_list span) spans lie = (spans, lie)
    stepped_lies at k (expr_start_map span) spans lie = (spans, lie)
    stepped_lies at k expr_list_push spans lie = puts_lies with_item_shape k lie
    stepped_lies at k (expr_map_insert key) spans lie = puts_lies (with_entry_shape key.text) k lie
    stepped_lies at k (apply name n span) spans lie = taken_lies k n [] k.operands _ lie lie (λ os below all. (spans.1, all))
    stepped_lies at k i spans lie = top_lies k k.operands _ lie lie (λ o os here all. all)

    after_lies : (at : ℕ) (k : Known) (i : Instr) → InstrSpans (LiesIn s) i → PlacesLie k.operands → PlacesLie (known_after declared included at k i).operands
    after_lies at k i spans lie =
        let next : Known = stepped declared included at k i in
        ended_lies (at + 1) next.operands next.scope next.opens (stepped_lies at k i spans lie)

    -- ---- the literals
    one_lies : (b : Bool) (at : Span) → LiesIn s at → SpansLie (if b then at ∷ [] else [])
    one_lies true at lie = (lie, tt)
    one_lies false at lie = tt

    over_lies : (os : List KnownOperand) (o : KnownOperand) → PlacesLie os → SpansLie (with_known_top [] os (λ into below. if is_too_deep 128 into.shape o.shape then into.place ∷ [] else []))
    over_lies [] o lie = tt
    over_lies (into ∷ below) o lie = one_lies (is_too_deep 128 into.shape o.shape) into.place lie.0

    put_lies : (os : List KnownOperand) → PlacesLie os → SpansLie (with_known_top [] os (λ o os. with_known_top [] os (λ into below. if is_too_deep 128 into.shape o.shape then into.place ∷ [] else [])))
    put_lies [] lie = tt
    put_lies (o ∷ os) lie = over_lies os o lie.1

    instr_lies : (k : Known) (i : Instr) → PlacesLie k.operands → SpansLie (instr_too_deep k i)
    instr_lies k expr_list_push lie = put_lies k.operands lie
    instr_lies k (expr_map_insert key) lie = put_lies k.operands lie
    instr_lies k i lie = tt

    program_lies : (at : ℕ) (k : Known) (is : List Instr) → CodeSpans (LiesIn s) is → PlacesLie k.operands → SpansLie (program_too_deep declared included at k is)
    program_lies at k [] spans lie = tt
    program_lies at k (i ∷ is) spans lie =
        both_lie (instr_too_deep k i) _ (instr_lies k i lie) (program_lies (at + 1) (known_after declared included at k i) is spans.1 (after_lies at k i spans.0 lie))

    -- a literal of a tree that is too deep
    pub deep_lies : (scope : Scope) (tree : Statements) (at : Span) → TreeLiesIn s tree → IsAmong at (program_too_deep declared included 0 (known_at_begin scope) (program_of tree)) → LiesIn s at
    deep_lies scope tree at lie among =
        among_lies at _ (program_lies 0 (known_at_begin scope) (program_of tree) (program_spans (LiesIn s) (combined_lies_in s) tree lie) tt) among

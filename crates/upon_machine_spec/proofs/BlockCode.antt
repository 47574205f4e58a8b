-- What holds of the instructions of a block if it holds of those of its body and of its other branch, and what its own
-- instructions do, a row a kind.
use Rattle.std.proofs.Common.{◌≡◌, ◌⊎◌, ◌↔◌, ℕ, zero, suc, ◌+◌, ◌≤◌, List, [], ◌∷◌, ◌++◌, length, length-append, append_assoc, Some, Bool, true, false, ◌||◌, inl, inr, refl, sym, ap, ◌∙◌, subst, arith, bytes_eq, codes}
use Rattle.std.specs.Prelude.{not}
use Rattle.std.specs.List.{list_any}
use Rattle.upon_types.specs.declared.types.Span.{Span}
use Rattle.upon_types.specs.Path.{Ident, LoopVars}
use Rattle.upon_types.specs.BlockKinds.{Opening, if_tag, for_tag, with_tag, block_names, opened_kind, may_have_else, OpeningSpans}
use Rattle.upon_types.specs.Tree.{Else, no_else, otherwise}
use Rattle.upon_types.specs.Fault.{Fault}
use Rattle.upon_types.specs.Truth.{truth}
use Rattle.upon_types.specs.Val.{Val}
use Rattle.upon_lookup.specs.Environment.{Binding, binding, loop_state, bind_all, Root, with_name}
use Rattle.upon_lookup.specs.Finding.{Finding, found, at_fault}
use Rattle.upon_lookup.specs.Items.{items_of}
use Rattle.upon_meaning_spec.specs.Engine.{Calls, Resolver}
use Rattle.upon_meaning_spec.specs.Evaluation.{Operand}
use Rattle.upon_meaning_spec.specs.Meaning.{Body, choose, condition, loop_turns, turns_over, turns, each, each_or}
use Rattle.upon_meaning_spec.specs.Needs.{OneHides, a_name}
use Rattle.upon_meaning_spec.specs.Outcome.{Outcome, States}
use Rattle.upon_meaning_spec.proofs.FaultsStated.Lookups.{Any, FoundFine, IsFine}
use Rattle.upon_meaning_spec.proofs.FaultsStated.Templates.{items_fine}
use Rattle.upon_meaning_spec.proofs.Turns.{if_turns, with_turn}
use Rattle.upon_machine_spec.specs.Code.{jump_unless, else_start, else_part, if_code, turn, for_code, with_code, body_start, other_start, block_code, statements_code, else_code}
use Rattle.upon_machine_spec.specs.Instr.{Instr, jump, jump_if_true, jump_if_false, loop_start, loop_next, loop_next_else, with_start, with_end}
use Rattle.upon_machine_spec.specs.Jumps.{JumpsTo, JumpWithin}
use Rattle.upon_machine_spec.specs.ProgramNames.{loop_binds, count_after}
use Rattle.upon_machine_spec.specs.Spans.{InstrSpans, CodeSpans}
use Rattle.upon_machine_spec.specs.State.{Frame, scope, variable, loop, environment_of, turn_binds, Active, Caller, State}
use Rattle.upon_machine_spec.specs.Step.{Next, goes, stuck, faults, with_top, starts, next_turn, next_turn_or_else, drops_variable, act, step}
use Rattle.upon_machine_spec.proofs.FollowsTree.Comes.{Comes, Follows, state_at, step_at, to_place, comes_here, comes_then, one, stop, then_comes, in_turn}
use Rattle.upon_machine_spec.proofs.FollowsTree.Places.{HasAt, has_front, has_back}
use Rattle.upon_machine_spec.proofs.Walks.{forward_keeps, back_ends, Walks, reworded, walk_then, walk_after, walk_block}
use Rattle.upon_machine_spec.proofs.NamesOfExpressions.{last_name, loop_names, joined, with_last, after_none}

-- a block has an instruction
pub block_some : (opening : Opening) (branch : Else) (span : Span) (at : ℕ) (inner other : List Instr) → 1 ≤ length (block_code opening branch span at inner other)
block_some (if_tag negated) branch span at inner other = omega arith
block_some (for_tag names) branch span at inner other = omega arith
block_some (with_tag word) branch span at inner other = omega arith

-- where its other branch begins
abbrev pub past_body : Opening → Else → ℕ → List Instr → ℕ
past_body opening branch at inner = other_start opening branch (body_start opening at + length inner)

-- ---- jumps
module _ (end : ℕ) where
  pub jumps_append : (a b : List Instr) → JumpWithin end a → JumpWithin end b → JumpWithin end (a ++ b)
  jumps_append [] b h k = k
  jumps_append (i ∷ a) b h k = (h.0, jumps_append a b h.1 k)

  unless_jumps : (negated : Bool) (n : ℕ) → n ≤ end → JumpsTo end (jump_unless negated n)
  unless_jumps true n h = h
  unless_jumps false n h = h

  turn_jumps : (branch : Else) (other past : ℕ) → other ≤ end → past ≤ end → JumpsTo end (turn branch other past)
  turn_jumps no_else other past h k = k
  turn_jumps (otherwise body) other past h k = (h, k)

  -- the other case begins where the body ends, or after the jump past it
  starts_by : (branch : Else) (at : ℕ) (other : List Instr) → else_start branch at ≤ at + length (else_part branch at other)
  starts_by no_else at other = omega arith
  starts_by (otherwise body) at other = omega arith

  part_jumps : (branch : Else) (at : ℕ) (other : List Instr) → at + length (else_part branch at other) ≤ end → (else_start branch at + length other ≤ end → JumpWithin end other) → JumpWithin end (else_part branch at other)
  part_jumps no_else at other le k = tt
  part_jumps (otherwise body) at other le k = (omega (arith, le), k (omega (arith, le)))

  pub block_jumps : (opening : Opening) (branch : Else) (span : Span) (at : ℕ) (inner other : List Instr) → at + length (block_code opening branch span at inner other) ≤ end
      → (body_start opening at + length inner ≤ end → JumpWithin end inner) → (past_body opening branch at inner + length other ≤ end → JumpWithin end other)
      → JumpWithin end (block_code opening branch span at inner other)
  block_jumps (if_tag negated) branch span at inner other le h k =
      let past : ℕ = at + 1 + length inner in
      let part : List Instr = else_part branch past other in
      let in_body = length-append inner part in
      (unless_jumps negated (else_start branch past) (omega (arith, le, in_body, starts_by branch past other)), jumps_append inner part (h (omega (arith, le, in_body))) (part_jumps branch past other (omega (arith, le, in_body)) k))
  block_jumps (for_tag names) branch span at inner other le h k =
      let after : ℕ = at + 1 + 1 + length inner + 1 in
      let in_body = length-append inner (jump (at + 1) ∷ other) in
      (tt, (turn_jumps branch after (after + length other) (omega (arith, le, in_body)) (omega (arith, le, in_body)), jumps_append inner (jump (at + 1) ∷ other) (h (omega (arith, le, in_body))) (omega (arith, le, in_body), k (omega (arith, le, in_body)))))
  block_jumps (with_tag word) branch span at inner other le h k = (tt, jumps_append inner (with_end ∷ []) (h (omega (arith, le, length-append inner (with_end ∷ [])))) (tt, tt))

-- ---- spans
module _ (P : Span → Type 0) where
  pub spans_append : (a b : List Instr) → CodeSpans P a → CodeSpans P b → CodeSpans P (a ++ b)
  spans_append [] b h k = k
  spans_append (i ∷ a) b h k = (h.0, spans_append a b h.1 k)

  unless_spans : (negated : Bool) (n : ℕ) → InstrSpans P (jump_unless negated n)
  unless_spans true n = tt
  unless_spans false n = tt

  turn_spans : (branch : Else) (other past : ℕ) → InstrSpans P (turn branch other past)
  turn_spans no_else other past = tt
  turn_spans (otherwise body) other past = tt

  part_spans : (branch : Else) (at : ℕ) (other : List Instr) → CodeSpans P other → CodeSpans P (else_part branch at other)
  part_spans no_else at other h = tt
  part_spans (otherwise body) at other h = (tt, h)

  pub block_spans : (opening : Opening) (branch : Else) (span : Span) (at : ℕ) (inner other : List Instr) → OpeningSpans P opening → P span → CodeSpans P inner → CodeSpans P other → CodeSpans P (block_code opening branch span at inner other)
  block_spans (if_tag negated) branch span at inner other opens place h k = (unless_spans negated _, spans_append inner _ h (part_spans branch (at + 1 + length inner) other k))
  block_spans (for_tag names) branch span at inner other opens place h k = ((opens, place), (turn_spans branch _ _, spans_append inner (jump (at + 1) ∷ other) h (tt, k)))
  block_spans (with_tag word) branch span at inner other opens place h k = (opens, spans_append inner (with_end ∷ []) h (tt, tt))

-- ---- what a test finds that none of a block's own instructions passes

-- an instruction that only blocks have
abbrev pub IsOfBlock : Instr → Type 0
IsOfBlock (jump to) = Unit {0}
IsOfBlock (jump_if_true to) = Unit {0}
IsOfBlock (jump_if_false to) = Unit {0}
IsOfBlock (loop_start names span) = Unit {0}
IsOfBlock (loop_next past) = Unit {0}
IsOfBlock (loop_next_else other past) = Unit {0}
IsOfBlock (with_start word) = Unit {0}
IsOfBlock with_end = Unit {0}
IsOfBlock i = ⊥

of_unless : (negated : Bool) (to : ℕ) → IsOfBlock (jump_unless negated to)
of_unless true to = tt
of_unless false to = tt

of_turn : (branch : Else) (other past : ℕ) → IsOfBlock (turn branch other past)
of_turn no_else other past = tt
of_turn (otherwise body) other past = tt

-- a block that may have no other branch has nothing there
none_there : {P Q : Type 0} → (Q → ⊥) → P ⊎ Q → P
none_there none (inl p) = p
none_there none (inr q) = absurd (none q)

module _ (h : Instr → Bool) (quiet : (i : Instr) → IsOfBlock i → h i ≡ false) where
  after_own : (i : Instr) (c : List Instr) {P : Type 0} → IsOfBlock i → ((list_any h c ≡ true) ↔ P) → (list_any h (i ∷ c) ≡ true) ↔ P
  after_own i c own w = after_none h (i ∷ []) c (ap (λ x. x || false) (quiet i own)) w

  part_any : (branch : Else) (at : ℕ) {Q : Type 0} → let other : List Instr = else_code (else_start branch at) branch in ((list_any h other ≡ true) ↔ Q) → (list_any h (else_part branch at other) ≡ true) ↔ Q
  part_any no_else at v = v
  part_any (otherwise body) at v = after_own (jump _) _ tt v

  -- anywhere
  pub block_any : (opening : Opening) (branch : Else) (span : Span) (at : ℕ) (inner : List Instr) (P : Type 0) (Q : Bool → Type 0) →
      let other : List Instr = else_code (past_body opening branch at inner) branch in
      (Q false → ⊥) → ((list_any h inner ≡ true) ↔ P) → ((list_any h other ≡ true) ↔ Q true)
      → (list_any h (block_code opening branch span at inner other) ≡ true) ↔ (P ⊎ Q (may_have_else (opened_kind opening)))
  block_any (if_tag negated) branch span at inner P Q none w v = after_own (jump_unless negated _) _ (of_unless negated _) (joined h inner _ w (part_any branch (at + 1 + length inner) v))
  block_any (for_tag names) branch span at inner P Q none w v =
      let to : ℕ = at + 1 + 1 + length inner + 1 in
      let other : List Instr = else_code to branch in
      let next : Instr = turn branch to (to + length other) in
      let way : List Instr = inner ++ jump (at + 1) ∷ other in
      after_own (loop_start names span) (next ∷ way) tt (after_own next way (of_turn branch to (to + length other)) (joined h inner (jump (at + 1) ∷ other) w (after_own (jump (at + 1)) other tt v)))
  block_any (with_tag word) branch span at inner P Q none w v =
      let whole = after_own (with_start word) _ tt (with_last h inner with_end (quiet with_end tt) w) in
      (λ e. inl (whole.0 e), λ p. whole.1 (none_there none p))

  -- outside of what binds the name
  module _ (name : List ℕ) where
    abbrev Unhidden : Opening → Type 0
    Unhidden opening = OneHides (block_names opening) (a_name name) → ⊥

    unless_keeps : (negated : Bool) (to at n : ℕ) → count_after name at (jump_unless negated to) n ≡ n
    unless_keeps true to at n = refl
    unless_keeps false to at n = refl

    turn_keeps : (branch : Else) (other past at n : ℕ) → count_after name at (turn branch other past) n ≡ n
    turn_keeps no_else other past at n = refl
    turn_keeps (otherwise body) other past at n = refl

    part_walk : (branch : Else) (at : ℕ) (Q : Type 0) → let other : List Instr = else_code (else_start branch at) branch in Walks name h (else_start branch at) other Q → Walks name h at (else_part branch at other) Q
    part_walk no_else at Q v = v
    part_walk (otherwise body) at Q v =
        let other : List Instr = statements_code (at + 1) body in
        walk_after name h at (jump (at + 1 + length other)) other Q (λ n. forward_keeps name (at + 1 + length other) at n (omega arith)) (quiet (jump (at + 1 + length other)) tt) v

    pub block_walk : (opening : Opening) (branch : Else) (span : Span) (at : ℕ) (inner : List Instr) (P : Type 0) (Q : Bool → Type 0) →
        let other : List Instr = else_code (past_body opening branch at inner) branch in
        (Q false → ⊥) → Walks name h (body_start opening at) inner P → Walks name h (past_body opening branch at inner) other (Q true)
        → Walks name h at (block_code opening branch span at inner other) ((Unhidden opening × P) ⊎ Q (may_have_else (opened_kind opening)))
    block_walk (if_tag negated) branch span at inner P Q none w v =
        let past : ℕ = at + 1 + length inner in
        let part : List Instr = else_part branch past (else_code (else_start branch past) branch) in
        let to : ℕ = else_start branch past in
        let both = walk_then name h (at + 1) inner part P (Q true) w (part_walk branch past (Q true) v) in
        reworded name h at (jump_unless negated to ∷ (inner ++ part)) (P ⊎ Q true) ((Unhidden (if_tag negated) × P) ⊎ Q true) nothing_hides hidden_by_nothing
        (walk_after name h at (jump_unless negated to) (inner ++ part) (P ⊎ Q true) (unless_keeps negated to at) (quiet (jump_unless negated to) (of_unless negated to)) both)
      where
        nothing_hides : P ⊎ Q true → (Unhidden (if_tag negated) × P) ⊎ Q true
        nothing_hides (inl p) = inl (λ none. none, p)
        nothing_hides (inr q) = inr q

        hidden_by_nothing : (Unhidden (if_tag negated) × P) ⊎ Q true → P ⊎ Q true
        hidden_by_nothing (inl p) = inl p.1
        hidden_by_nothing (inr q) = inr q
    block_walk (for_tag names) branch span at inner P Q none w v =
        let to : ℕ = at + 1 + 1 + length inner + 1 in
        let other : List Instr = else_code to branch in
        let next : Instr = turn branch to (to + length other) in
        let inside : List Instr = next ∷ inner in
        let whole : List Instr = loop_start names span ∷ (inside ++ jump (at + 1) ∷ []) in
        let e : to ≡ at + length whole = omega (arith, length-append inner (jump (at + 1) ∷ [])) in
        subst (λ c. Walks name h at (loop_start names span ∷ next ∷ c) ((Unhidden (for_tag names) × P) ⊎ Q true)) (append_assoc inner (jump (at + 1) ∷ []) other)
        (walk_then name h at whole other (Unhidden (for_tag names) × P) (Q true)
        (
        walk_block name h at (loop_start names span) inside (jump (at + 1)) (loop_binds name names) (OneHides (block_names (for_tag names)) (a_name name)) P (loop_names name names) (λ n. refl)
        (λ n. back_ends name (at + 1) (at + 1 + length inside) n (omega arith))
        (quiet (loop_start names span) tt) (quiet (jump (at + 1)) tt)
        (walk_after name h (at + 1) next inner P (turn_keeps branch to (to + length other) (at + 1)) (quiet next (of_turn branch to (to + length other))) w)
        )
        (subst (λ p. Walks name h p other (Q true)) e v))
    block_walk (with_tag word) branch span at inner P Q none w v =
        reworded name h at (with_start word ∷ (inner ++ with_end ∷ [])) (Unhidden (with_tag word) × P) ((Unhidden (with_tag word) × P) ⊎ Q false) (λ p. inl p) (none_there none)
        (walk_block name h at (with_start word) inner with_end (bytes_eq word.text name) (OneHides (block_names (with_tag word)) (a_name name)) P (last_name word.text name) (λ n. refl) (λ n. refl) (quiet (with_start word) tt) (quiet with_end tt) w)

-- ---- what a run does there
module _ {V T : Type 0} (calls : Calls V) (resolve : Resolver T) (root : Root) (active : Active) (callers : List Caller) where
  abbrev code : List Instr
  code = active.code

  abbrev here : ℕ → List Operand → List Frame → States V T → State V T
  here place ops fs s = state_at active callers place ops fs s

  -- `if`: to the body or to the other case
  jumps_unless : (test : Bool) (negated : Bool) (place n : ℕ) (o : Operand) (ops : List Operand) (fs : List Frame) (s : States V T) → truth o.value ≡ test → act calls resolve root (Some (jump_unless negated n)) (here place (o ∷ ops) fs s) ≡ goes [] (here (choose (condition negated o.value) (place + 1) n) ops fs s)
  jumps_unless true true place n o ops fs s h = ap (λ b. goes [] (here (choose b n (place + 1)) ops fs s)) h ∙ sym (ap (λ b. goes [] (here (choose (not b) (place + 1) n) ops fs s)) h)
  jumps_unless false true place n o ops fs s h = ap (λ b. goes [] (here (choose b n (place + 1)) ops fs s)) h ∙ sym (ap (λ b. goes [] (here (choose (not b) (place + 1) n) ops fs s)) h)
  jumps_unless test false place n o ops fs s h = refl

  -- past the other case
  passes : (branch : Else) (place : ℕ) (other : List Instr) (ops : List Operand) (fs : List Frame) (s : States V T) → HasAt code place (else_part branch place other) → Comes calls resolve root (here place ops fs s) [] (here (place + length (else_part branch place other)) ops fs s)
  passes no_else place other ops fs s has =
      let e : place ≡ place + 0 = omega arith in
      subst (λ n. Comes calls resolve root (here place ops fs s) [] (here n ops fs s)) e (comes_here calls resolve root (here place ops fs s))
  passes (otherwise body) place other ops fs s has =
      let e : place + 1 + length other ≡ place + length (jump (place + 1 + length other) ∷ other) = omega arith in
      subst (λ n. Comes calls resolve root (here place ops fs s) [] (here n ops fs s)) e (one calls resolve root _ (here (place + 1 + length other) ops fs s) [] (step_at calls resolve root active callers place ops fs s (jump (place + 1 + length other)) has.0))

  either : (test : Bool) (s : State V T) (place : ℕ) (branch : Else) (body other : List Instr) (ops : List Operand) (fs : List Frame) (q : States V T) (a b : States V T → Outcome (States V T)) → HasAt code (place + 1 + length body) (else_part branch (place + 1 + length body) other) → step calls resolve root s ≡ goes [] (here (choose test (place + 1) (else_start branch (place + 1 + length body))) ops fs q) → Follows calls resolve root (here (place + 1) ops fs q) (a q) (λ q. here (place + 1 + length body) ops fs q) → Follows calls resolve root (here (else_start branch (place + 1 + length body)) ops fs q) (b q) (λ q. here (place + 1 + length body + length (else_part branch (place + 1 + length body) other)) ops fs q) → Follows calls resolve root s (choose test a b q) (λ q. here (place + 1 + length body + length (else_part branch (place + 1 + length body) other)) ops fs q)
  either true s place branch body other ops fs q a b has e ha hb =
      comes_then calls resolve root s (here (place + 1) ops fs q) (a q) (λ q. here (place + 1 + length body + length (else_part branch (place + 1 + length body) other)) ops fs q) (one calls resolve root s (here (place + 1) ops fs q) [] e) (then_comes calls resolve root (here (place + 1) ops fs q) (a q) (λ q. here (place + 1 + length body) ops fs q) (λ q. here (place + 1 + length body + length (else_part branch (place + 1 + length body) other)) ops fs q) ha (λ q'. passes branch (place + 1 + length body) other ops fs q' has))
  either false s place branch body other ops fs q a b has e ha hb = comes_then calls resolve root s (here (else_start branch (place + 1 + length body)) ops fs q) (b q) (λ q. here (place + 1 + length body + length (else_part branch (place + 1 + length body) other)) ops fs q) (one calls resolve root s (here (else_start branch (place + 1 + length body)) ops fs q) [] e) hb

  if_follows : (negated : Bool) (place : ℕ) (branch : Else) (body other : List Instr) (o : Operand) (ops : List Operand) (fs : List Frame) (q : States V T) (a b : States V T → Outcome (States V T)) → HasAt code place (if_code negated branch place body other) → Follows calls resolve root (here (place + 1) ops fs q) (a q) (λ q. here (place + 1 + length body) ops fs q) → Follows calls resolve root (here (else_start branch (place + 1 + length body)) ops fs q) (b q) (λ q. here (place + 1 + length body + length (else_part branch (place + 1 + length body) other)) ops fs q) → Follows calls resolve root (here place (o ∷ ops) fs q) (choose (condition negated o.value) a b q) (λ q. here (place + length (if_code negated branch place body other)) ops fs q)
  if_follows negated place branch body other o ops fs q a b has ha hb =
      let tail = else_part branch (place + 1 + length body) other in
      let len : place + 1 + length body + length tail ≡ place + length (if_code negated branch place body other) = omega (arith, length-append body tail) in
      let i = jump_unless negated (else_start branch (place + 1 + length body)) in
      let s = here place (o ∷ ops) fs q in
      to_place calls resolve root active callers s (choose (condition negated o.value) a b q) (place + 1 + length body + length tail) _ ops fs len
      (either (condition negated o.value) s place branch body other ops fs q a b (has_back code (place + 1) body tail has.1) (step_at calls resolve root active callers place (o ∷ ops) fs q i has.0 ∙ jumps_unless (truth o.value) negated place (else_start branch (place + 1 + length body)) o ops fs q refl) ha hb)

  -- a loop's next turn: one more, or, if no items are left, past the loop or to its other branch
  takes_turn : (branch : Else) (other past place count index : ℕ) (now bs : List Binding) (items : List (List Binding)) (ops : List Operand) (fs : List Frame) (q : States V T) → act calls resolve root (Some (turn branch other past)) (here place ops (loop count index now (bs ∷ items) ∷ fs) q) ≡ goes [] (here (place + 1) ops (loop count (index + 1) (turn_binds index count bs) items ∷ fs) q)
  takes_turn no_else other past place count index now bs items ops fs q = refl
  takes_turn (otherwise body) other past place zero index now bs items ops fs q = refl
  takes_turn (otherwise body) other past place (suc count) index now bs items ops fs q = refl

  ends_turns : (branch : Else) (other past place count index : ℕ) (now : List Binding) (ops : List Operand) (fs : List Frame) (q : States V T) → act calls resolve root (Some (turn branch other past)) (here place ops (loop (suc count) index now [] ∷ fs) q) ≡ goes [] (here past ops fs q)
  ends_turns no_else other past place count index now ops fs q = refl
  ends_turns (otherwise body) other past place count index now ops fs q = refl

  has_no_turn : (branch : Else) (at place : ℕ) (ops : List Operand) (fs : List Frame) (q : States V T) → act calls resolve root (Some (turn branch at (at + length (else_code at branch)))) (here place ops (loop 0 0 [] [] ∷ fs) q) ≡ goes [] (here at ops fs q)
  has_no_turn no_else at place ops fs q =
      let e : at + 0 ≡ at = omega arith in
      ap (λ n. goes [] (here n ops fs q)) e
  has_no_turn (otherwise body) at place ops fs q = refl

  -- a loop that has items, turn by turn
  each_follows : (branch : Else) (round other past : ℕ) (inner rest : List Instr) (ops : List Operand) (fs : List Frame) (body : Body (States V T)) → HasAt code round (turn branch other past ∷ (inner ++ jump round ∷ rest)) → (less : ℕ) → ((inside : Frame) (q : States V T) → Follows calls resolve root (here (round + 1) ops (inside ∷ fs) q) (body (environment_of root (inside ∷ fs)) q) (λ q. here (round + 1 + length inner) ops (inside ∷ fs) q)) → (index : ℕ) (now : List Binding) (items : List (List Binding)) (q : States V T) → Follows calls resolve root (here round ops (loop (suc less) index now items ∷ fs) q) (each body (loop_turns (suc less) index items) (environment_of root fs) q) (λ q. here past ops fs q)
  each_follows branch round other past inner rest ops fs body has less h index now [] q =
      one calls resolve root _ _ [] (step_at calls resolve root active callers round ops (loop (suc less) index now [] ∷ fs) q (turn branch other past) has.0 ∙ ends_turns branch other past round less index now ops fs q)
  each_follows branch round other past inner rest ops fs body has less h index now (bs ∷ items) q =
      let count = suc less in
      let back = (has_back code (round + 1) inner (jump round ∷ rest) has.1).0 in
      let o = body (bind_all (binding (codes "loop") (loop_state index count) ∷ bs) (environment_of root fs)) q in
      let inside : Frame = loop count (index + 1) (turn_binds index count bs) items in
      let s = here round ops (loop count index now (bs ∷ items) ∷ fs) q in
      let next = one calls resolve root s (here (round + 1) ops (inside ∷ fs) q) [] (step_at calls resolve root active callers round ops (loop count index now (bs ∷ items) ∷ fs) q (turn branch other past) has.0 ∙ takes_turn branch other past round count index now bs items ops fs q) in
      let turned = comes_then calls resolve root s (here (round + 1) ops (inside ∷ fs) q) o (λ q. here (round + 1 + length inner) ops (inside ∷ fs) q) next (h inside q) in
      let again = then_comes calls resolve root s o (λ q. here (round + 1 + length inner) ops (inside ∷ fs) q) (λ q. here round ops (inside ∷ fs) q) turned (λ q'. one calls resolve root _ _ [] (step_at calls resolve root active callers (round + 1 + length inner) ops (inside ∷ fs) q' (jump round) back)) in
      in_turn calls resolve root s o (λ q. each body (loop_turns count (index + 1) items) (environment_of root fs) q) (λ q. here round ops (inside ∷ fs) q) (λ q. here past ops fs q) again (λ q'. each_follows branch round other past inner rest ops fs body has less h (index + 1) (turn_binds index count bs) items q')

  for_length : (branch : Else) (names : LoopVars) (span : Span) (place : ℕ) (inner other : List Instr) → place + 1 + 1 + length inner + 1 + length other ≡ place + length (for_code branch names span place inner other)
  for_length branch names span place inner other = omega (arith, length-append inner (jump (place + 1) ∷ other))

  over_follows : (x : Finding (List (List Binding))) (branch : Else) (names : LoopVars) (span : Span) (place : ℕ) (inner : List Instr) (o : Operand) (ops : List Operand) (fs : List Frame) (body other : Body (States V T)) (q : States V T) → HasAt code place (for_code branch names span place inner (else_code (place + 1 + 1 + length inner + 1) branch)) → step calls resolve root (here place (o ∷ ops) fs q) ≡ starts x (here place (o ∷ ops) fs q) ops → ((inside : Frame) (q : States V T) → Follows calls resolve root (here (place + 1 + 1) ops (inside ∷ fs) q) (body (environment_of root (inside ∷ fs)) q) (λ q. here (place + 1 + 1 + length inner) ops (inside ∷ fs) q)) → Follows calls resolve root (here (place + 1 + 1 + length inner + 1) ops fs q) (other (environment_of root fs) q) (λ q. here (place + 1 + 1 + length inner + 1 + length (else_code (place + 1 + 1 + length inner + 1) branch)) ops fs q) → Follows calls resolve root (here place (o ∷ ops) fs q) (each_or body other active.running (turns_over x) (environment_of root fs) q) (λ q. here (place + length (for_code branch names span place inner (else_code (place + 1 + 1 + length inner + 1) branch))) ops fs q)
  over_follows (found []) branch names span place inner o ops fs body other q has e h k =
      let after = place + 1 + 1 + length inner + 1 in
      let rest = else_code after branch in
      let m = other (environment_of root fs) q in
      let end : States V T → State V T = λ q'. here (place + length (for_code branch names span place inner rest)) ops fs q' in
      let s = here place (o ∷ ops) fs q in
      let empty = here (place + 1) ops (loop 0 0 [] [] ∷ fs) q in
      let there = here after ops fs q in
      let none = one calls resolve root empty there [] (step_at calls resolve root active callers (place + 1) ops (loop 0 0 [] [] ∷ fs) q (turn branch after (after + length rest)) has.1.0 ∙ has_no_turn branch after (place + 1) ops fs q) in
      comes_then calls resolve root s empty m end (one calls resolve root s empty [] e)
      (comes_then calls resolve root empty there m end none
      (to_place calls resolve root active callers there m _ _ ops fs (for_length branch names span place inner rest) k))
  over_follows (found (bs ∷ items)) branch names span place inner o ops fs body other q has e h k =
      let after = place + 1 + 1 + length inner + 1 in
      let rest = else_code after branch in
      let past = after + length rest in
      let count = length (bs ∷ items) in
      let m = each body (loop_turns count 0 (bs ∷ items)) (environment_of root fs) q in
      let begun = here (place + 1) ops (loop count 0 [] (bs ∷ items) ∷ fs) q in
      comes_then calls resolve root _ begun m (λ q'. here (place + length (for_code branch names span place inner rest)) ops fs q') (one calls resolve root _ _ [] e)
      (to_place calls resolve root active callers begun m past _ ops fs (for_length branch names span place inner rest)
      (each_follows branch (place + 1) after past inner rest ops fs body has.1 (length items) h 0 [] (bs ∷ items) q))
  over_follows (at_fault f) branch names span place inner o ops fs body other q has e h k = stop calls resolve root _ _ e

  with_follows : (word : Ident) (place : ℕ) (inner : List Instr) (o : Operand) (ops : List Operand) (fs : List Frame) (m : Outcome (States V T)) (q : States V T) → HasAt code place (with_code word inner) → Follows calls resolve root (here (place + 1) ops (variable word o.value ∷ fs) q) m (λ q. here (place + 1 + length inner) ops (variable word o.value ∷ fs) q) → Follows calls resolve root (here place (o ∷ ops) fs q) m (λ q. here (place + length (with_code word inner)) ops fs q)
  with_follows word place inner o ops fs m q has h =
      let end = (has_back code (place + 1) inner (with_end ∷ []) has.1).0 in
      let len : place + 1 + length inner + 1 ≡ place + length (with_code word inner) = omega (arith, length-append inner (with_end ∷ [])) in
      let inside : List Frame = variable word o.value ∷ fs in
      to_place calls resolve root active callers _ m (place + 1 + length inner + 1) _ ops fs len
      (comes_then calls resolve root (here place (o ∷ ops) fs q) (here (place + 1) ops inside q) m (λ q. here (place + 1 + length inner + 1) ops fs q) (one calls resolve root (here place (o ∷ ops) fs q) (here (place + 1) ops inside q) [] (step_at calls resolve root active callers place (o ∷ ops) fs q (with_start word) has.0)) (then_comes calls resolve root (here (place + 1) ops inside q) m (λ q. here (place + 1 + length inner) ops inside q) (λ q. here (place + 1 + length inner + 1) ops fs q) h (λ q'. one calls resolve root (here (place + 1 + length inner) ops inside q') (here (place + 1 + length inner + 1) ops fs q') [] (step_at calls resolve root active callers (place + 1 + length inner) ops inside q' with_end end))))

  -- the other case of an `if` is after the jump past it, and ends where that goes
  part_has : (branch : Else) (at : ℕ) → let other : List Instr = else_code (else_start branch at) branch in HasAt code at (else_part branch at other) → HasAt code (else_start branch at) other
  part_has no_else at has = tt
  part_has (otherwise body) at has = has.1

  part_ends : (branch : Else) (at : ℕ) → let other : List Instr = else_code (else_start branch at) branch in else_start branch at + length other ≡ at + length (else_part branch at other)
  part_ends no_else at = refl
  part_ends (otherwise body) at = omega arith

  pub block_follows : (opening : Opening) (branch : Else) (span : Span) (place : ℕ) (inner : List Instr) (o : Operand) (ops : List Operand) (fs : List Frame) (body : Body (States V T)) (others : Bool → Body (States V T)) (q : States V T) →
      let start : ℕ = body_start opening place in
      let to : ℕ = past_body opening branch place inner in
      let own : List Instr = block_code opening branch span place inner (else_code to branch) in
      HasAt code place own
      → ((inside : List Frame) (q : States V T) → HasAt code start inner → Follows calls resolve root (here start ops inside q) (body (environment_of root inside) q) (λ q. here (start + length inner) ops inside q))
      → (HasAt code to (else_code to branch) → Follows calls resolve root (here to ops fs q) (others true (environment_of root fs) q) (λ q. here (to + length (else_code to branch)) ops fs q))
      → Follows calls resolve root (here place (o ∷ ops) fs q) (each_or body (others (may_have_else (opened_kind opening))) active.running (turns opening span o.value) (environment_of root fs) q) (λ q. here (place + length own) ops fs q)
  block_follows (if_tag negated) branch span place inner o ops fs body others q has h k =
      let past : ℕ = place + 1 + length inner in
      let to : ℕ = else_start branch past in
      let other : List Instr = else_code to branch in
      let env = environment_of root fs in
      let end : States V T → State V T = λ q. here (place + length (if_code negated branch place inner other)) ops fs q in
      subst (λ m. Follows calls resolve root (here place (o ∷ ops) fs q) m end) (sym (if_turns body (others true) active.running (condition negated o.value) env q))
      (if_follows negated place branch inner other o ops fs q (body env) (others true env) has (h fs q (has_front code (place + 1) inner _ has.1))
      (to_place calls resolve root active callers (here to ops fs q) (others true env q) (to + length other) (past + length (else_part branch past other)) ops fs (part_ends branch past) (k (part_has branch past (has_back code (place + 1) inner _ has.1)))))
  block_follows (for_tag names) branch span place inner o ops fs body others q has h k =
      over_follows (items_of names o.value span) branch names span place inner o ops fs body (others true) q has
      (step_at calls resolve root active callers place (o ∷ ops) fs q (loop_start names span) has.0)
      (λ inside q'. h (inside ∷ fs) q' (has_front code (place + 1 + 1) inner _ has.1.1))
      (k (has_back code (place + 1 + 1) inner _ has.1.1).1)
  block_follows (with_tag word) branch span place inner o ops fs body others q has h k =
      let env = environment_of root fs in
      let end : States V T → State V T = λ q. here (place + length (with_code word inner)) ops fs q in
      subst (λ m. Follows calls resolve root (here place (o ∷ ops) fs q) m end) (sym (with_turn body (others false) active.running word o.value env q))
      (with_follows word place inner o ops fs (body (with_name word o.value env) q) q has (h (variable word o.value ∷ fs) q (has_front code (place + 1) inner _ has.1)))

-- ---- what a step at a block's own instruction comes to

-- a fault that it may end in
abbrev pub OwnFault : Instr → Fault → Type 0
OwnFault (loop_start names span) f = (v : Val) × (items_of names v span ≡ at_fault f)
OwnFault i f = ⊥

-- these operands are all of them, or those below the top
abbrev pub IsLeft : List Operand → List Operand → Type 0
IsLeft all ops = (all ≡ ops) ⊎ ((o : Operand) × (all ≡ o ∷ ops))

module _ {V T : Type 0} (calls : Calls V) (resolve : Resolver T) (root : Root) (s : State V T) (A : Next V T → Type 0) (sticks : A stuck) (on : (place : ℕ) (ops : List Operand) (fs : List Frame) (q : States V T) → IsLeft s.operands ops → A (goes [] (record s { position = place; operands = ops; frames = fs; asked = q }))) where
  top_step : (ops : List Operand) (go : Operand → List Operand → Next V T) → s.operands ≡ ops → ((o : Operand) (below : List Operand) → IsLeft s.operands below → A (go o below)) → A (with_top ops go)
  top_step [] go e then = sticks
  top_step (o ∷ ops) go e then = then o ops (inr (o, e))

  starts_step : (x : Finding (List (List Binding))) (ops : List Operand) → IsLeft s.operands ops → ((f : Fault) → x ≡ at_fault f → A (faults f s s.asked.values)) → A (starts x s ops)
  starts_step (found items) ops left fault = on (s.position + 1) ops (loop (length items) 0 [] items ∷ s.frames) _ left
  starts_step (at_fault f) ops left fault = fault f refl

  turn_step : (n : ℕ) (fs : List Frame) → A (next_turn n fs s)
  turn_step n (loop count next bs [] ∷ fs) = on n s.operands fs s.asked (inl refl)
  turn_step n (loop count next bs (more ∷ items) ∷ fs) = on (s.position + 1) s.operands _ _ (inl refl)
  turn_step n (scope v ∷ fs) = sticks
  turn_step n (variable word v ∷ fs) = sticks
  turn_step n [] = sticks

  turn_or_else_step : (other past : ℕ) (fs : List Frame) → A (next_turn_or_else other past fs s)
  turn_or_else_step other past (loop zero next bs [] ∷ fs) = on other s.operands fs s.asked (inl refl)
  turn_or_else_step other past (loop (suc count) next bs [] ∷ fs) = on past s.operands fs s.asked (inl refl)
  turn_or_else_step other past (loop zero next bs (more ∷ items) ∷ fs) = on (s.position + 1) s.operands _ _ (inl refl)
  turn_or_else_step other past (loop (suc count) next bs (more ∷ items) ∷ fs) = on (s.position + 1) s.operands _ _ (inl refl)
  turn_or_else_step other past (scope v ∷ fs) = sticks
  turn_or_else_step other past (variable word v ∷ fs) = sticks
  turn_or_else_step other past [] = sticks

  variable_step : (fs : List Frame) → A (drops_variable fs s)
  variable_step (variable word v ∷ fs) = on (s.position + 1) s.operands fs _ (inl refl)
  variable_step (scope v ∷ fs) = sticks
  variable_step (loop count next bs items ∷ fs) = sticks
  variable_step [] = sticks

  -- it is stuck, or ends in such a fault, or goes on in the template without a text
  pub own_step : (i : Instr) → IsOfBlock i → ((f : Fault) → OwnFault i f → A (faults f s s.asked.values)) → A (act calls resolve root (Some i) s)
  own_step (jump n) own fault = on n s.operands s.frames s.asked (inl refl)
  own_step (jump_if_true n) own fault = top_step s.operands _ refl (λ o ops left. on _ ops s.frames s.asked left)
  own_step (jump_if_false n) own fault = top_step s.operands _ refl (λ o ops left. on _ ops s.frames s.asked left)
  own_step (loop_start names span) own fault = top_step s.operands _ refl (λ o ops left. starts_step (items_of names o.value span) ops left (λ f x. fault f (o.value, x)))
  own_step (loop_next n) own fault = turn_step n s.frames
  own_step (loop_next_else other past) own fault = turn_or_else_step other past s.frames
  own_step (with_start word) own fault = top_step s.operands _ refl (λ o ops left. on (s.position + 1) ops _ _ left)
  own_step with_end own fault = variable_step s.frames
  own_step _ own fault = absurd own

-- its fault is at a span of the instruction
pub own_fault_lies : {V T : Type 0} (calls : Calls V) (resolve : Resolver T) (P : Span → Type 0) (i : Instr) (f : Fault) → InstrSpans P i → OwnFault i f → IsFine calls resolve P f
own_fault_lies calls resolve P (loop_start names span) f k x = subst (FoundFine calls resolve P Any) x.1 (items_fine calls resolve P names x.0 span k.0 k.1)
own_fault_lies calls resolve P _ f k x = absurd x

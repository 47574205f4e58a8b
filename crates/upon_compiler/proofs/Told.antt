-- A compiler that is told of the pieces of a tree has the tree's instructions.
use Rattle.std.proofs.Common.{◌≡◌, ℕ, ◌+◌, List, [], ◌∷◌, ◌++◌, length, Some, None, Bool, inl, inr, refl, sym, ap, ◌∙◌, arith, append_assoc, append-nil, length-append}
use Rattle.upon_types.specs.Expression.{expression_span}
use Rattle.upon_types.specs.Path.{LoopVars}
use Rattle.upon_types.specs.declared.types.Span.{Span}
use Rattle.upon_types.specs.BlockKinds.{if_block, for_block, with_block, if_tag, for_tag, with_tag}
use Rattle.upon_types.specs.Tree.{Statement, raw, inline_expr, include, block, Statements, no_statements, statement_then, Else, no_else, otherwise}
use Rattle.upon_machine_spec.specs.Code.{expression_code, else_code, else_start, for_code, if_code, program_of, statement_code, statements_code}
use Rattle.upon_machine_spec.specs.Instr.{Instr, jump, loop_next, loop_start, with_end, with_start}
use Rattle.upon_machine_spec.specs.Instr.{include_with as enter_with}
use Rattle.upon_compiler.specs.After.{after_all, between_branches, branch_ended, else_ifs_ended}
use Rattle.upon_compiler.specs.Compiler.{nothing, state}
use Rattle.upon_compiler.specs.Events.{Event, end_event}
use Rattle.upon_compiler.specs.Told.{AreTold, IsElseIfTold, IsEndTold, IsIfAfterElseTold, IsTold}
use Rattle.upon_compiler.specs.declared.compile.OpenBlock.{OpenBlock}
use Rattle.upon_compiler.specs.declared.compile.OpenBlock.TheVariants.{If, Else as InElse, ElseIf, For, ForElse, With}
use Rattle.upon_compiler.proofs.Jumps.{for_alone, for_otherwise, if_alone, if_otherwise, then_from, value_first}

-- the innermost block does not end with another one
abbrev Settled : List OpenBlock → Type 0
Settled blocks = (code : List Instr) → else_ifs_ended code blocks ≡ state code blocks

-- an `if` from an instruction of this number on
abbrev if_from : Bool → Statements → Else → ℕ → List Instr
if_from negated body other at =
    let inner : List Instr = statements_code (at + 1) body in
    if_code negated other at inner (else_code (else_start other (at + 1 + length inner)) other)

-- a loop
abbrev for_from : LoopVars → Span → Statements → Else → ℕ → List Instr
for_from names span body other at =
    let inner : List Instr = statements_code (at + 1 + 1) body in
    for_code other names span at inner (else_code (at + 1 + 1 + length inner + 1) other)

-- one more instruction is before a body
after_one : (base : List Instr) (i : Instr) (body : Statements)
    → (base ++ i ∷ []) ++ statements_code (length (base ++ i ∷ [])) body ≡ base ++ i ∷ statements_code (length base + 1) body
after_one base i body = value_first base (i ∷ []) (λ n. statements_code n body)

-- a `with` has no other branch
with_ended : (other : Else) (before rest : List Event) → IsEndTold with_block other before rest → before ≡ end_event with_block ∷ rest
with_ended no_else before rest told = told
with_ended (otherwise body) before rest (inl told) = let no = told.2 in absurd cc
with_ended (otherwise body) before rest (inr told) = let no = told.0 in absurd cc

mutual
  told_statement : (t : Statement) (before rest : List Event) (code : List Instr) (blocks : List OpenBlock) → Settled blocks
      → IsTold t before rest
      → after_all before (state code blocks) ≡ after_all rest (state (code ++ statement_code (length code) t) blocks)
  told_statement (raw span) before rest code blocks settled told = ap (λ es. after_all es (state code blocks)) told
  told_statement (inline_expr e span) before rest code blocks settled told = ap (λ es. after_all es (state code blocks)) told
  told_statement (include word None) before rest code blocks settled told = ap (λ es. after_all es (state code blocks)) told
  told_statement (include word (Some e)) before rest code blocks settled told =
      ap (λ es. after_all es (state code blocks)) told
      ∙ ap (λ c. after_all rest (state c blocks)) (append_assoc code (expression_code e) (enter_with word ∷ []))
  told_statement (block (if_tag negated) e body other) before rest code blocks settled told =
      let base : List Instr = code ++ expression_code e in
      let begun : List Instr = base ++ jump 0 ∷ [] in
      ap (λ es. after_all es (state code blocks)) told.2
      ∙ told_statements body told.0 told.1 begun (If negated (length base) ∷ blocks) (λ c. refl) told.3
      ∙ told_else other told.1 rest negated base (statements_code (length base + 1) body)
      (begun ++ statements_code (length begun) body) (jump 0) blocks told.4 (after_one base (jump 0) body)
      ∙ ap (after_all rest) (settled (then_from base (if_from negated body other)))
      ∙ ap (λ c. after_all rest (state c blocks)) (value_first code (expression_code e) (if_from negated body other))
  told_statement (block (for_tag names) e body other) before rest code blocks settled told =
      let span : Span = expression_span e in
      let base : List Instr = code ++ expression_code e in
      let start : List Instr = base ++ loop_start names span ∷ [] in
      let begun : List Instr = start ++ loop_next 0 ∷ [] in
      let k : length start + 1 ≡ length base + 1 + 1 = omega (arith, length-append base (loop_start names span ∷ [])) in
      ap (λ es. after_all es (state code blocks)) told.2
      ∙ told_statements body told.0 told.1 begun (For (length start) ∷ blocks) (λ c. refl) told.3
      ∙ told_for_else other told.1 rest names span base (statements_code (length base + 1 + 1) body)
      (begun ++ statements_code (length begun) body) (loop_next 0) blocks told.4
      (after_one start (loop_next 0) body ∙ ap (λ n. start ++ loop_next 0 ∷ statements_code n body) k)
      ∙ ap (λ c. after_all rest (state c blocks)) (value_first code (expression_code e) (for_from names span body other))
  told_statement (block (with_tag word) e body other) before rest code blocks settled told =
      let base : List Instr = code ++ expression_code e in
      let begun : List Instr = base ++ with_start word ∷ [] in
      let body_code : ℕ → List Instr = λ n. statements_code (n + 1) body in
      ap (λ es. after_all es (state code blocks)) told.2
      ∙ told_statements body told.0 told.1 begun (With ∷ blocks) (λ c. refl) told.3
      ∙ ap (λ es. after_all es (state (begun ++ statements_code (length begun) body) (With ∷ blocks))) (with_ended other told.1 rest told.4)
      ∙ ap (λ c. after_all rest (state (c ++ with_end ∷ []) blocks)) (after_one base (with_start word) body)
      ∙ ap (λ c. after_all rest (state c blocks))
      (append_assoc base (with_start word ∷ body_code (length base)) (with_end ∷ [])
      ∙ value_first code (expression_code e) (λ n. with_start word ∷ (body_code n ++ with_end ∷ [])))

  told_statements : (ts : Statements) (before rest : List Event) (code : List Instr) (blocks : List OpenBlock) → Settled blocks
      → AreTold ts before rest
      → after_all before (state code blocks) ≡ after_all rest (state (code ++ statements_code (length code) ts) blocks)
  told_statements no_statements before rest code blocks settled told =
      ap (λ es. after_all es (state code blocks)) told ∙ ap (λ c. after_all rest (state c blocks)) (sym (append-nil code))
  told_statements (statement_then t ts) before rest code blocks settled told =
      told_statement t before told.0 code blocks settled told.1
      ∙ told_statements ts told.0 rest (code ++ statement_code (length code) t) blocks settled told.2
      ∙ ap (λ c. after_all rest (state c blocks)) (value_first code (statement_code (length code) t) (λ n. statements_code n ts))

  -- the other case of an `if`, after its first branch
  told_else : (other : Else) (before rest : List Event) (negated : Bool) (base inner code : List Instr) (old : Instr)
      (blocks : List OpenBlock) → IsEndTold if_block other before rest → code ≡ base ++ old ∷ inner
      → after_all before (state code (If negated (length base) ∷ blocks))
      ≡ after_all rest (else_ifs_ended (base ++ if_code negated other (length base) inner
      (else_code (else_start other (length base + 1 + length inner)) other)) blocks)
  told_else no_else before rest negated base inner code old blocks told is =
      ap (λ es. after_all es (state code (If negated (length base) ∷ blocks))) told
      ∙ ap (λ c. after_all rest (else_ifs_ended c blocks)) (if_alone base inner code negated old is)
  told_else (otherwise body) before rest negated base inner code old blocks (inl told) is =
      let way : List Instr = between_branches negated (length base) code in
      let both : List Instr = way ++ statements_code (length way) body in
      ap (λ es. after_all es (state code (If negated (length base) ∷ blocks))) told.3
      ∙ told_statements body told.0 told.1 way (InElse (length code) ∷ blocks) (λ c. refl) told.4
      ∙ ap (λ es. after_all es (state both (InElse (length code) ∷ blocks))) told.5
      ∙ ap (λ c. after_all rest (else_ifs_ended c blocks))
      (if_otherwise base inner code negated old body (λ n. statements_code n body) is)
  told_else (otherwise body) before rest negated base inner code old blocks (inr told) is =
      told_else_if body before rest negated (length base) code blocks told.1
      ∙ ap (λ c. after_all rest (else_ifs_ended c blocks))
      (if_otherwise base inner code negated old body (λ n. statements_code n body) is)

  -- an `else if`
  told_else_if : (ts : Statements) (before rest : List Event) (negated : Bool) (start : ℕ) (code : List Instr)
      (blocks : List OpenBlock) → IsElseIfTold ts before rest
      → after_all before (state code (If negated start ∷ blocks))
      ≡ after_all rest (else_ifs_ended (branch_ended (ElseIf (length code))
      (between_branches negated start code ++ statements_code (length (between_branches negated start code)) ts)) blocks)
  told_else_if no_statements before rest negated start code blocks told = absurd told
  told_else_if (statement_then t no_statements) before rest negated start code blocks told =
      let way : List Instr = between_branches negated start code in
      told_if_after_else t before rest negated start code blocks told
      ∙ ap (λ c. after_all rest (else_ifs_ended (branch_ended (ElseIf (length code)) (way ++ c)) blocks))
      (sym (append-nil (statement_code (length way) t)))
  told_else_if (statement_then t (statement_then u ts)) before rest negated start code blocks told = absurd told

  -- its `if`
  told_if_after_else : (t : Statement) (before rest : List Event) (negated : Bool) (start : ℕ) (code : List Instr)
      (blocks : List OpenBlock) → IsIfAfterElseTold t before rest
      → after_all before (state code (If negated start ∷ blocks))
      ≡ after_all rest (else_ifs_ended (branch_ended (ElseIf (length code))
      (between_branches negated start code ++ statement_code (length (between_branches negated start code)) t)) blocks)
  told_if_after_else (block (if_tag second) e body other) before rest negated start code blocks told =
      let way : List Instr = between_branches negated start code in
      let base : List Instr = way ++ expression_code e in
      let begun : List Instr = base ++ jump 0 ∷ [] in
      let around : List OpenBlock = ElseIf (length code) ∷ blocks in
      ap (λ es. after_all es (state code (If negated start ∷ blocks))) told.2
      ∙ told_statements body told.0 told.1 begun (If second (length base) ∷ around) (λ c. refl) told.3
      ∙ told_else other told.1 rest second base (statements_code (length base + 1) body)
      (begun ++ statements_code (length begun) body) (jump 0) around told.4 (after_one base (jump 0) body)
      ∙ ap (λ c. after_all rest (else_ifs_ended (branch_ended (ElseIf (length code)) c) blocks))
      (value_first way (expression_code e) (if_from second body other))
  told_if_after_else t before rest negated start code blocks told = absurd told

  -- the other branch of a loop, after its body
  told_for_else : (other : Else) (before rest : List Event) (names : LoopVars) (span : Span) (base inner code : List Instr)
      (old : Instr) (blocks : List OpenBlock) → IsEndTold for_block other before rest
      → code ≡ (base ++ loop_start names span ∷ []) ++ old ∷ inner
      → after_all before (state code (For (length (base ++ loop_start names span ∷ [])) ∷ blocks))
      ≡ after_all rest (state (base ++ for_code other names span (length base) inner
      (else_code (length base + 1 + 1 + length inner + 1) other)) blocks)
  told_for_else no_else before rest names span base inner code old blocks told is =
      let next : ℕ = length (base ++ loop_start names span ∷ []) in
      ap (λ es. after_all es (state code (For next ∷ blocks))) told
      ∙ ap (λ c. after_all rest (state c blocks)) (for_alone base inner code names span old is)
  told_for_else (otherwise body) before rest names span base inner code old blocks (inl told) is =
      let next : ℕ = length (base ++ loop_start names span ∷ []) in
      let back : List Instr = code ++ jump next ∷ [] in
      let both : List Instr = back ++ statements_code (length back) body in
      ap (λ es. after_all es (state code (For next ∷ blocks))) told.3
      ∙ told_statements body told.0 told.1 back (ForElse next (length back) ∷ blocks) (λ c. refl) told.4
      ∙ ap (λ es. after_all es (state both (ForElse next (length back) ∷ blocks))) told.5
      ∙ ap (λ c. after_all rest (state c blocks))
      (for_otherwise base inner code names span old body (λ n. statements_code n body) is)
  told_for_else (otherwise body) before rest names span base inner code old blocks (inr told) is = let no = told.0 in absurd cc

-- the pieces of a whole tree
pub told_tree : (tree : Statements) (events : List Event) → AreTold tree events [] → after_all events nothing ≡ state (program_of tree) []
told_tree tree events told = told_statements tree events [] [] [] (λ c. refl) told

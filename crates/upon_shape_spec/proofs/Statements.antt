-- A walk along a tree's program doubts what is in doubt in the tree.
use Rattle.std.proofs.Common.{◌≡◌, ℕ, ◌+◌, ◌≤◌, List, [], ◌∷◌, ◌++◌, length, length-append, append-nil, Bool, true, false, not, if◌then◌else◌, Some, None, refl, sym, ap, ◌∙◌, arith}
use Rattle.std.proofs.lemmas.Bool.{le-leb, lt-leb}
use Rattle.upon_types.specs.Expression.{Expression, expression_span}
use Rattle.upon_types.specs.Path.{Ident, LoopVars}
use Rattle.upon_types.specs.BlockKinds.{if_tag, for_tag, with_tag}
use Rattle.upon_types.specs.Tree.{Statement, raw, inline_expr, include, block, Statements, no_statements, statement_then, Else, no_else, otherwise}
use Rattle.upon_machine_spec.specs.Code.{expression_code, jump_unless, else_start, else_part, turn, statement_code, statements_code, else_code, program_of}
use Rattle.upon_machine_spec.specs.Instr.{Instr, jump, emit_raw, loop_start, with_start, with_end}
use Rattle.upon_machine_spec.specs.Instr.{include as enter, include_with as enter_with}
use Rattle.upon_shape_spec.specs.Accepted.{iteration_names}
use Rattle.upon_shape_spec.specs.Declared.{Declared}
use Rattle.upon_shape_spec.specs.Doubts.{Doubt, if_some, expression_doubts, items_in_doubt, or_never, bound_names, statement_doubts, statements_doubts, else_doubts}
use Rattle.upon_shape_spec.specs.ExpressionShapes.{expression_shape}
use Rattle.upon_shape_spec.specs.Narrowed.{tested_scope}
use Rattle.upon_shape_spec.specs.Scope.{value_of, name_shape, Scope, scope_over, with_names}
use Rattle.upon_shape_spec.specs.Shape.{Shape}
use Rattle.upon_shape_spec.specs.Known.{KnownOperand, Open, body_to, other_to, binding, Known, known, known_at_begin, path_tested, left_at}
use Rattle.upon_shape_spec.specs.ProgramDoubts.{leaves_block, other_case, include_doubts, instr_doubts, stepped, program_doubts}
use Rattle.upon_shape_spec.proofs.Blocks.{EndFrom, sooner, stays, leaves_body, leaves_other}
use Rattle.upon_shape_spec.proofs.Emissions.{emission_walks}
use Rattle.upon_shape_spec.proofs.Expressions.{expression_walks}
use Rattle.upon_shape_spec.proofs.Operands.{operand_of, tested}
use Rattle.upon_shape_spec.proofs.SomeCode.{some_code}
use Rattle.upon_shape_spec.proofs.AlongPrograms.{Walks, walk_nothing, walk_then, walk_step, walk_after, from_known, to_known, to_number}

-- a body ends where its other case begins, or before
begins_after : (branch : Else) (at : ℕ) → at ≤ else_start branch at
begins_after no_else at = omega arith
begins_after (otherwise body) at = omega arith

module _ (declared : Declared) (included : List ℕ → Scope → Bool) where
  abbrev Follows : ℕ → Known → List Instr → List Doubt → Known → Type 0
  Follows at k c ds next = Walks declared included at k c ds next

  -- an expression, and what is done with its value
  after_value : (e : Expression) (at : ℕ) (os : List KnownOperand) (scope : Scope) (opens : List Open) (c : List Instr) (ds : List Doubt) (next : Known) → EndFrom (at + length (expression_code e) + 1) opens
      → Follows (at + length (expression_code e)) (known (operand_of declared scope e ∷ os) scope opens) c ds next → Follows at (known os scope opens) (expression_code e ++ c) (expression_doubts declared scope e ++ ds) next
  after_value e at os scope opens c ds next h w =
      walk_then declared included at (known os scope opens) (known (operand_of declared scope e ∷ os) scope opens) next (expression_code e) c (expression_doubts declared scope e) ds (expression_walks declared included scope opens e at os h) w

  -- ---- `if`
  unless_steps : (negated : Bool) (at n : ℕ) (o : KnownOperand) (os : List KnownOperand) (scope : Scope) (opens : List Open)
      → stepped declared included at (known (o ∷ os) scope opens) (jump_unless negated n) ≡ known os (path_tested (not negated) o.path scope) (body_to n (path_tested negated o.path scope) scope ∷ opens)
  unless_steps true at n o os scope opens = refl
  unless_steps false at n o os scope opens = refl

  unless_doubts : (negated : Bool) (n : ℕ) (k : Known) → instr_doubts declared included k (jump_unless negated n) ≡ []
  unless_doubts true n k = refl
  unless_doubts false n k = refl

  to_case : (negated : Bool) (e : Expression) (at n : ℕ) (os : List KnownOperand) (scope : Scope) (opens : List Open)
      → stepped declared included at (known (operand_of declared scope e ∷ os) scope opens) (jump_unless negated n) ≡ known os (tested_scope (not negated) e scope) (body_to n (tested_scope negated e scope) scope ∷ opens)
  to_case negated e at n os scope opens =
      unless_steps negated at n (operand_of declared scope e) os scope opens ∙ (λ x. known os (tested (not negated) e scope x) (body_to n (tested negated e scope x) scope ∷ opens))

  forward : (at n : ℕ) (os : List KnownOperand) (scope other outer : Scope) (end : ℕ) (opens : List Open) → at + 1 ≤ n
      → stepped declared included at (known os scope (body_to end other outer ∷ opens)) (jump n) ≡ known os other (other_to n outer ∷ opens)
  forward at n os scope other outer end opens h =
      let k : Known = known os scope (body_to end other outer ∷ opens) in
      ap (λ b. if b then leaves_block k k.opens else other_case n k k.opens) (lt-leb n at (omega (arith, h)))

  back : (at n : ℕ) (os : List KnownOperand) (scope outer : Scope) (opens : List Open) → n ≤ at
      → stepped declared included at (known os scope (binding outer ∷ opens)) (jump n) ≡ known os outer opens
  back at n os scope outer opens h =
      let k : Known = known os scope (binding outer ∷ opens) in
      ap (λ b. if b then leaves_block k k.opens else other_case n k k.opens) (le-leb n at h)

  -- a walk, from where the blocks are left that end there to where the ones are left that end there
  abbrev Turns : ℕ → List KnownOperand → Scope → List Open → List Instr → List Doubt → Type 0
  Turns at os scope opens c ds = Follows at (left_at at os scope opens) c ds (left_at (at + length c) os scope opens)

  if_follows : (negated : Bool) (e : Expression) (branch : Else) (at : ℕ) (os : List KnownOperand) (scope : Scope) (opens : List Open) (inner part : List Instr) (ds es : List Doubt) →
      let n : ℕ = else_start branch (at + 1 + length inner) in
      let inside : List Open = body_to n (tested_scope negated e scope) scope ∷ opens in
      let begun : Scope = tested_scope (not negated) e scope in
      Turns (at + 1) os begun inside inner ds
      → Follows (at + 1 + length inner) (left_at (at + 1 + length inner) os begun inside) part es (left_at (at + 1 + length inner + length part) os scope opens)
      → Follows at (known (operand_of declared scope e ∷ os) scope opens) (jump_unless negated n ∷ (inner ++ part)) (ds ++ es) (left_at (at + 1 + length inner + length part) os scope opens)
  if_follows negated e branch at os scope opens inner part ds es w v =
      let n : ℕ = else_start branch (at + 1 + length inner) in
      let inside : List Open = body_to n (tested_scope negated e scope) scope ∷ opens in
      let begun : Scope = tested_scope (not negated) e scope in
      let k : Known = known (operand_of declared scope e ∷ os) scope opens in
      walk_after declared included at k _ (jump_unless negated n) (inner ++ part) [] (ds ++ es) os begun inside (unless_doubts negated n k) (to_case negated e at n os scope opens)
      (walk_then declared included (at + 1) (left_at (at + 1) os begun inside) (left_at (at + 1 + length inner) os begun inside) _ inner part ds es w v)

  -- ---- loops and `with`
  turn_steps : (branch : Else) (other past at : ℕ) (k : Known) → stepped declared included at k (turn branch other past) ≡ k
  turn_steps no_else other past at k = refl
  turn_steps (otherwise body) other past at k = refl

  turn_doubts : (branch : Else) (other past : ℕ) (k : Known) → instr_doubts declared included k (turn branch other past) ≡ []
  turn_doubts no_else other past k = refl
  turn_doubts (otherwise body) other past k = refl

  for_follows : (names : LoopVars) (e : Expression) (branch : Else) (at to past : ℕ) (os : List KnownOperand) (scope : Scope) (opens : List Open) (inner other : List Instr) (ds es : List Doubt) →
      let s : Shape = or_never (expression_shape declared scope e) in
      let inside : Scope = with_names (iteration_names (bound_names names s)) scope in
      let after : ℕ = at + 1 + 1 + length inner + 1 in
      Turns (at + 1 + 1) os inside (binding scope ∷ opens) inner ds
      → Turns after os scope opens other es
      → Follows at (known (operand_of declared scope e ∷ os) scope opens) (loop_start names (expression_span e) ∷ turn branch to past ∷ (inner ++ jump (at + 1) ∷ other)) (items_in_doubt (expression_span e) names s ++ (ds ++ es)) (left_at (after + length other) os scope opens)
  for_follows names e branch at to past os scope opens inner other ds es w v =
      let s : Shape = or_never (expression_shape declared scope e) in
      let inside : Scope = with_names (iteration_names (bound_names names s)) scope in
      let k : Known = known os inside (binding scope ∷ opens) in
      let p : ℕ = at + 1 + 1 + length inner in
      let end : Known = left_at (p + 1 + length other) os scope opens in
      walk_after declared included at (known (operand_of declared scope e ∷ os) scope opens) end (loop_start names (expression_span e)) (turn branch to past ∷ (inner ++ jump (at + 1) ∷ other)) (items_in_doubt (expression_span e) names s) (ds ++ es) os inside (binding scope ∷ opens) refl refl
      (walk_after declared included (at + 1) k end (turn branch to past) (inner ++ jump (at + 1) ∷ other) [] (ds ++ es) os inside (binding scope ∷ opens) (turn_doubts branch to past k) (turn_steps branch to past (at + 1) k)
      (walk_then declared included (at + 1 + 1) k k end inner (jump (at + 1) ∷ other) ds es w
      (walk_after declared included p k end (jump (at + 1)) other [] es os scope opens refl (back p (at + 1) os inside scope opens (omega arith)) v)))

  with_follows : (e : Expression) (word : Ident) (at : ℕ) (os : List KnownOperand) (scope : Scope) (opens : List Open) (inner : List Instr) (ds : List Doubt) →
      let s : Shape = or_never (expression_shape declared scope e) in
      Turns (at + 1) os (with_names (name_shape word.text (value_of s) ∷ []) scope) (binding scope ∷ opens) inner ds
      → Follows at (known (operand_of declared scope e ∷ os) scope opens) (with_start word ∷ (inner ++ with_end ∷ [])) (ds ++ []) (left_at (at + 1 + length inner + 1) os scope opens)
  with_follows e word at os scope opens inner ds w =
      let s : Shape = or_never (expression_shape declared scope e) in
      let inside : Scope = with_names (name_shape word.text (value_of s) ∷ []) scope in
      let k : Known = known os inside (binding scope ∷ opens) in
      let p : ℕ = at + 1 + length inner in
      let end : Known = left_at (p + 1) os scope opens in
      walk_after declared included at (known (operand_of declared scope e ∷ os) scope opens) end (with_start word) (inner ++ with_end ∷ []) [] (ds ++ []) os inside (binding scope ∷ opens) refl refl
      (walk_then declared included (at + 1) k k end inner (with_end ∷ []) ds [] w
      (walk_step declared included p k with_end [] os scope opens refl refl))

  -- ---- trees
  mutual
    statement_follows : (t : Statement) (at : ℕ) (os : List KnownOperand) (scope : Scope) (opens : List Open) → EndFrom (at + length (statement_code at t)) opens
        → Follows at (known os scope opens) (statement_code at t) (statement_doubts declared included scope t) (left_at (at + length (statement_code at t)) os scope opens)
    statement_follows (raw span) at os scope opens h = walk_step declared included at (known os scope opens) (emit_raw span) [] os scope opens refl refl
    statement_follows (inline_expr e span) at os scope opens h = emission_walks declared included scope opens e at os h
    statement_follows (include word None) at os scope opens h = walk_step declared included at (known os scope opens) (enter word) (include_doubts declared included word scope) os scope opens refl refl
    statement_follows (include word (Some e)) at os scope opens h =
        let c : List Instr = expression_code e in
        let end : List Instr = enter_with word ∷ [] in
        let ds : List Doubt = if_some (expression_shape declared scope e) (λ s. include_doubts declared included word (scope_over s)) in
        let len : at + length c + 1 ≡ at + length (c ++ end) = omega (arith, length-append c end) in
        to_number declared included at (at + length c + 1) (at + length (c ++ end)) (known os scope opens) (c ++ end) (expression_doubts declared scope e ++ ds) os scope opens len
        (after_value e at os scope opens end ds (left_at (at + length c + 1) os scope opens) (sooner (at + length (c ++ end)) (at + length c + 1) opens (omega arith) h)
        (walk_step declared included (at + length c) (known (operand_of declared scope e ∷ os) scope opens) (enter_with word) ds os scope opens refl refl))
    statement_follows (block (if_tag negated) e body branch) at os scope opens h =
        let c : List Instr = expression_code e in
        let from : ℕ = at + length c in
        let inner : List Instr = statements_code (from + 1) body in
        let p : ℕ = from + 1 + length inner in
        let n : ℕ = else_start branch p in
        let part : List Instr = else_part branch p (else_code n branch) in
        let code : List Instr = jump_unless negated n ∷ (inner ++ part) in
        let begun : Scope = tested_scope (not negated) e scope in
        let turned : Scope = tested_scope negated e scope in
        let inside : List Open = body_to n turned scope ∷ opens in
        let ds : List Doubt = statements_doubts declared included begun body in
        let es : List Doubt = else_doubts declared included turned true branch in
        let len : p + length part ≡ at + length (c ++ code) = omega (arith, length-append c code, length-append inner part) in
        let far : EndFrom (p + length part) opens = sooner (at + length (c ++ code)) (p + length part) opens (omega arith) h in
        to_number declared included at (p + length part) (at + length (c ++ code)) (known os scope opens) (c ++ code) (expression_doubts declared scope e ++ (ds ++ es)) os scope opens len
        (after_value e at os scope opens code (ds ++ es) (left_at (p + length part) os scope opens) (sooner (p + length part) (from + 1) opens (omega arith) far)
        (if_follows negated e branch from os scope opens inner part ds es
        (statements_follow body (from + 1) os begun inside (begins_after branch p, sooner (p + length part) p opens (omega arith) far))
        (else_follows branch p os begun turned scope opens far)))
    statement_follows (block (for_tag names) e body branch) at os scope opens h =
        let c : List Instr = expression_code e in
        let from : ℕ = at + length c in
        let s : Shape = or_never (expression_shape declared scope e) in
        let inside : Scope = with_names (iteration_names (bound_names names s)) scope in
        let inner : List Instr = statements_code (from + 1 + 1) body in
        let after : ℕ = from + 1 + 1 + length inner + 1 in
        let other : List Instr = else_code after branch in
        let way : List Instr = inner ++ jump (from + 1) ∷ other in
        let code : List Instr = loop_start names (expression_span e) ∷ turn branch after (after + length other) ∷ way in
        let ds : List Doubt = statements_doubts declared included inside body in
        let es : List Doubt = else_doubts declared included scope true branch in
        let items : List Doubt = items_in_doubt (expression_span e) names s in
        let len : after + length other ≡ at + length (c ++ code) = omega (arith, length-append c code, length-append inner (jump (from + 1) ∷ other)) in
        let far : EndFrom (after + length other) opens = sooner (at + length (c ++ code)) (after + length other) opens (omega arith) h in
        to_number declared included at (after + length other) (at + length (c ++ code)) (known os scope opens) (c ++ code) (expression_doubts declared scope e ++ (items ++ (ds ++ es))) os scope opens len
        (after_value e at os scope opens code (items ++ (ds ++ es)) (left_at (after + length other) os scope opens) (sooner (after + length other) (from + 1) opens (omega arith) far)
        (for_follows names e branch from after (after + length other) os scope opens inner other ds es
        (statements_follow body (from + 1 + 1) os inside (binding scope ∷ opens) (tt, sooner (after + length other) (from + 1 + 1 + length inner) opens (omega arith) far))
        (branch_follows branch after os scope opens far)))
    statement_follows (block (with_tag word) e body branch) at os scope opens h =
        let c : List Instr = expression_code e in
        let from : ℕ = at + length c in
        let s : Shape = or_never (expression_shape declared scope e) in
        let inside : Scope = with_names (name_shape word.text (value_of s) ∷ []) scope in
        let inner : List Instr = statements_code (from + 1) body in
        let code : List Instr = with_start word ∷ (inner ++ with_end ∷ []) in
        let p : ℕ = from + 1 + length inner in
        let ds : List Doubt = statements_doubts declared included inside body in
        let len : p + 1 ≡ at + length (c ++ code) = omega (arith, length-append c code, length-append inner (with_end ∷ [])) in
        let far : EndFrom (p + 1) opens = sooner (at + length (c ++ code)) (p + 1) opens (omega arith) h in
        to_number declared included at (p + 1) (at + length (c ++ code)) (known os scope opens) (c ++ code) (expression_doubts declared scope e ++ (ds ++ [])) os scope opens len
        (after_value e at os scope opens code (ds ++ []) (left_at (p + 1) os scope opens) (sooner (p + 1) (from + 1) opens (omega arith) far)
        (with_follows e word from os scope opens inner ds (statements_follow body (from + 1) os inside (binding scope ∷ opens) (tt, sooner (p + 1) p opens (omega arith) far))))

    statements_follow : (ts : Statements) (at : ℕ) (os : List KnownOperand) (scope : Scope) (opens : List Open) → EndFrom (at + length (statements_code at ts)) opens
        → Turns at os scope opens (statements_code at ts) (statements_doubts declared included scope ts)
    statements_follow no_statements at os scope opens h =
        let e : at ≡ at + 0 = omega arith in
        to_number declared included at at (at + 0) (left_at at os scope opens) [] [] os scope opens e (walk_nothing declared included at (left_at at os scope opens))
    statements_follow (statement_then t ts) at os scope opens h =
        let first : List Instr = statement_code at t in
        let p : ℕ = at + length first in
        let rest : List Instr = statements_code p ts in
        let ds : List Doubt = statement_doubts declared included scope t in
        let es : List Doubt = statements_doubts declared included scope ts in
        let len : p + length rest ≡ at + length (first ++ rest) = omega (arith, length-append first rest) in
        let some : 1 ≤ length first = some_code at t in
        let far : EndFrom (p + length rest) opens = sooner (at + length (first ++ rest)) (p + length rest) opens (omega arith) h in
        to_number declared included at (p + length rest) (at + length (first ++ rest)) (left_at at os scope opens) (first ++ rest) (ds ++ es) os scope opens len
        (walk_then declared included at (left_at at os scope opens) (left_at p os scope opens) (left_at (p + length rest) os scope opens) first rest ds es
        (from_known declared included at (known os scope opens) (left_at at os scope opens) (left_at p os scope opens) first ds
        (sym (stays at os scope opens (sooner (p + length rest) (at + 1) opens (omega arith) far)))
        (statement_follows t at os scope opens (sooner (p + length rest) p opens (omega arith) far)))
        (statements_follow ts p os scope opens far))

    -- the other branch of a loop
    branch_follows : (branch : Else) (at : ℕ) (os : List KnownOperand) (scope : Scope) (opens : List Open) → EndFrom (at + length (else_code at branch)) opens
        → Turns at os scope opens (else_code at branch) (else_doubts declared included scope true branch)
    branch_follows no_else at os scope opens h =
        let e : at ≡ at + 0 = omega arith in
        to_number declared included at at (at + 0) (left_at at os scope opens) [] [] os scope opens e (walk_nothing declared included at (left_at at os scope opens))
    branch_follows (otherwise body) at os scope opens h = statements_follow body at os scope opens h

    -- the other case of an `if`, whose body ends at this number
    else_follows : (branch : Else) (at : ℕ) (os : List KnownOperand) (scope turned outer : Scope) (opens : List Open) → EndFrom (at + length (else_part branch at (else_code (else_start branch at) branch))) opens
        → Follows at (left_at at os scope (body_to (else_start branch at) turned outer ∷ opens)) (else_part branch at (else_code (else_start branch at) branch)) (else_doubts declared included turned true branch)
        (left_at (at + length (else_part branch at (else_code (else_start branch at) branch))) os outer opens)
    else_follows no_else at os scope turned outer opens h =
        let e : at ≡ at + 0 = omega arith in
        from_known declared included at (left_at at os outer opens) _ _ [] [] (sym (leaves_body at os scope turned outer opens))
        (to_number declared included at at (at + 0) (left_at at os outer opens) [] [] os outer opens e (walk_nothing declared included at (left_at at os outer opens)))
    else_follows (otherwise body) at os scope turned outer opens h =
        let other : List Instr = statements_code (at + 1) body in
        let end : ℕ = at + 1 + length other in
        let start : List Open = body_to (at + 1) turned outer ∷ opens in
        let inside : List Open = other_to end outer ∷ opens in
        let ds : List Doubt = statements_doubts declared included turned body in
        let len : end ≡ at + length (jump end ∷ other) = omega arith in
        let far : EndFrom end opens = sooner (at + length (jump end ∷ other)) end opens (omega arith) h in
        let after : EndFrom (at + 1) start = (omega arith, sooner end (at + 1) opens (omega arith) far) in
        let least : end ≤ end = omega arith in
        from_known declared included at (known os scope start) (left_at at os scope start) _ (jump end ∷ other) ds (sym (stays at os scope start after))
        (to_number declared included at end (at + length (jump end ∷ other)) (known os scope start) (jump end ∷ other) ds os outer opens len
        (to_known declared included at (known os scope start) (left_at end os turned inside) (left_at end os outer opens) (jump end ∷ other) ds (leaves_other end os turned outer opens)
        (walk_after declared included at (known os scope start) (left_at end os turned inside) (jump end) other [] ds os turned inside refl (forward at end os scope turned outer (at + 1) opens (omega arith))
        (statements_follow body (at + 1) os turned inside (least, far)))))

  pub tree_doubts : (scope : Scope) (tree : Statements) → program_doubts declared included 0 (known_at_begin scope) (program_of tree) ≡ statements_doubts declared included scope tree
  tree_doubts scope tree =
      let c : List Instr = program_of tree in
      let ds : List Doubt = statements_doubts declared included scope tree in
      ap (program_doubts declared included 0 (known_at_begin scope)) (sym (append-nil c)) ∙ statements_follow tree 0 [] scope [] tt [] ∙ append-nil ds

-- What walks along a tree's program find of its names is what the tree says.
use Rattle.std.proofs.Common.{◌≡◌, ◌⊎◌, ◌↔◌, ℕ, ◌+◌, List, [], ◌∷◌, ◌++◌, length, filter_map, Option, Some, None, Bool, true, false, ◌||◌, inl, inr, refl, sym, ap, ◌∙◌, bytes_eq}
use Rattle.std.specs.List.{list_any, cons_option}
use Rattle.upon_types.specs.Expression.{Expression, expression_span}
use Rattle.upon_types.specs.BlockKinds.{block_names, opened_kind, may_have_else}
use Rattle.upon_types.specs.Tree.{Statement, raw, inline_expr, include, block, Statements, no_statements, statement_then, Else, no_else, otherwise}
use Rattle.upon_meaning_spec.specs.Includes.{StatementIncludes, Includes, ElseIncludes}
use Rattle.upon_meaning_spec.specs.Needs.{Start, a_name, OneHides, ExpressionBegins, StatementBegins, StatementsBegin, ElseBegins, StatementPasses, StatementsPass, ElsePasses}
use Rattle.upon_machine_spec.specs.Code.{expression_code, emission_code, body_start, block_code, statement_code, statements_code, else_code, program_of}
use Rattle.upon_machine_spec.specs.Instr.{Instr, emit_raw, expr_start_var}
use Rattle.upon_machine_spec.specs.Instr.{include as enter, include_with as enter_with}
use Rattle.upon_machine_spec.specs.ProgramNames.{unbound, is_this, plain_include, any_include, begins, passes_on, IsListed}
use Rattle.upon_machine_spec.specs.ProgramNames.{includes}
use Rattle.upon_machine_spec.proofs.Walks.{plain_append, either, Walks, reworded, walk_nothing, walk_plain, walk_then}
use Rattle.upon_machine_spec.proofs.BlockCode.{IsOfBlock, past_body, block_walk, block_any}
use Rattle.upon_machine_spec.proofs.NamesOfExpressions.{of_expression, of_emission, plain, none, this_name, with_last, after_none, joined, f, g, expression_begins, emission_begins, in_value, nothing_passes, nothing_included}

-- a name is among those that instructions give where an instruction gives it
pub listed : (get : Instr → Option (List ℕ)) (name : List ℕ) (c : List Instr) → list_any (bytes_eq name) (filter_map get c) ≡ list_any (λ i. is_this name (get i)) c
listed get name [] = refl
listed get name (i ∷ c) = given (get i) ∙ ap (λ x. is_this name (get i) || x) (listed get name c)
  where
    given : (o : Option (List ℕ)) → list_any (bytes_eq name) (cons_option o (filter_map get c)) ≡ (is_this name o || list_any (bytes_eq name) (filter_map get c))
    given None = refl
    given (Some word) = refl

module _ (name : List ℕ) where
  abbrev start : Start
  start = a_name name

  or_none : {P : Type 0} → P ⊎ ⊥ → P
  or_none (inl p) = p
  or_none (inr h) = absurd h

  none_or : {P : Type 0} → ⊥ ⊎ P → P
  none_or (inl h) = absurd h
  none_or (inr p) = p

  -- a block without another branch has nothing there
  none_begins : (branch : Else) → ElseBegins start branch false → ⊥
  none_begins no_else h = h
  none_begins (otherwise body) h = h

  -- where the name begins paths
  begins_quiet : (i : Instr) → IsOfBlock i → f name i ≡ false
  begins_quiet (expr_start_var first rest) own = absurd own
  begins_quiet _ own = refl

  mutual
    statement_begins : (at : ℕ) (t : Statement) → Walks name (f name) at (statement_code at t) (StatementBegins start t)
    statement_begins at (raw span) = walk_plain name (f name) at (emit_raw span ∷ []) ⊥ (tt, tt) none
    statement_begins at (inline_expr e span) = walk_plain name (f name) at (emission_code e) (ExpressionBegins start e) (plain (emission_code e) (of_emission e)) (emission_begins name e)
    statement_begins at (include word None) = walk_plain name (f name) at (enter word ∷ []) ⊥ (tt, tt) none
    statement_begins at (include word (Some e)) =
        walk_plain name (f name) at (expression_code e ++ enter_with word ∷ []) (ExpressionBegins start e) (plain_append (expression_code e) (enter_with word ∷ []) (plain (expression_code e) (of_expression e)) (tt, tt)) (with_last (f name) (expression_code e) (enter_with word) refl (expression_begins name e))
    statement_begins at (block opening e body branch) =
        let from : ℕ = at + length (expression_code e) in
        let inner : List Instr = statements_code (body_start opening from) body in
        let to : ℕ = past_body opening branch from inner in
        walk_then name (f name) at (expression_code e) (block_code opening branch (expression_span e) from inner (else_code to branch)) (ExpressionBegins start e) (((OneHides (block_names opening) start → ⊥) × StatementsBegin start body) ⊎ ElseBegins start branch (may_have_else (opened_kind opening))) (in_value name at e)
        (block_walk (f name) begins_quiet name opening branch (expression_span e) from inner (StatementsBegin start body) (ElseBegins start branch) (none_begins branch) (statements_begin (body_start opening from) body) (branch_begins to branch))

    statements_begin : (at : ℕ) (ts : Statements) → Walks name (f name) at (statements_code at ts) (StatementsBegin start ts)
    statements_begin at no_statements = walk_nothing name (f name) at
    statements_begin at (statement_then t ts) =
        let first : List Instr = statement_code at t in
        walk_then name (f name) at first (statements_code (at + length first) ts) (StatementBegins start t) (StatementsBegin start ts) (statement_begins at t) (statements_begin (at + length first) ts)

    branch_begins : (at : ℕ) (branch : Else) → Walks name (f name) at (else_code at branch) (ElseBegins start branch true)
    branch_begins at no_else = walk_nothing name (f name) at
    branch_begins at (otherwise body) = statements_begin at body

  pub tree_begins : (tree : Statements) → (begins name (program_of tree) ≡ true) ↔ StatementsBegin start tree
  tree_begins tree = (statements_begin 0 tree).finds

  -- where templates are included without a value
  module _ (via : List ℕ) where
    passes_quiet : (i : Instr) → IsOfBlock i → g via i ≡ false
    passes_quiet (enter word) own = absurd own
    passes_quiet _ own = refl

    -- an expression includes nothing
    after_value : (at : ℕ) (e : Expression) (c : List Instr) (P : Type 0) → Walks name (g via) (at + length (expression_code e)) c P → Walks name (g via) at (expression_code e ++ c) P
    after_value at e c P w =
        let quiet = nothing_passes via (expression_code e) (of_expression e) in
        let value : Walks name (g via) at (expression_code e) ⊥ = walk_plain name (g via) at (expression_code e) ⊥ (plain (expression_code e) (of_expression e)) (λ h. none.0 (sym quiet ∙ h), λ h. absurd h) in
        reworded name (g via) at (expression_code e ++ c) (⊥ ⊎ P) P none_or (λ p. inr p) (walk_then name (g via) at (expression_code e) c ⊥ P value w)

    none_passes : (branch : Else) → ElsePasses start via branch false → ⊥
    none_passes no_else h = h
    none_passes (otherwise body) h = h

    -- the name of an include
    this_include : (word : List ℕ) → ((is_this via (Some word) || false) ≡ true) ↔ (word ≡ via)
    this_include word = let last = either (bytes_eq via word) false (this_name via word) none in (λ e. or_none (last.0 e), λ h. last.1 (inl h))

    mutual
      statement_passes : (at : ℕ) (t : Statement) → Walks name (g via) at (statement_code at t) (StatementPasses start via t)
      statement_passes at (raw span) = walk_plain name (g via) at (emit_raw span ∷ []) ⊥ (tt, tt) none
      statement_passes at (inline_expr e span) = walk_plain name (g via) at (emission_code e) ⊥ (plain (emission_code e) (of_emission e)) (λ h. none.0 (sym (nothing_passes via (emission_code e) (of_emission e)) ∙ h), λ h. absurd h)
      statement_passes at (include word None) = walk_plain name (g via) at (enter word ∷ []) (word.text ≡ via) (tt, tt) (this_include word.text)
      statement_passes at (include word (Some e)) = after_value at e (enter_with word ∷ []) ⊥ (walk_plain name (g via) (at + length (expression_code e)) (enter_with word ∷ []) ⊥ (tt, tt) none)
      statement_passes at (block opening e body branch) =
          let from : ℕ = at + length (expression_code e) in
          let inner : List Instr = statements_code (body_start opening from) body in
          let to : ℕ = past_body opening branch from inner in
          after_value at e (block_code opening branch (expression_span e) from inner (else_code to branch)) (((OneHides (block_names opening) start → ⊥) × StatementsPass start via body) ⊎ ElsePasses start via branch (may_have_else (opened_kind opening)))
          (block_walk (g via) passes_quiet name opening branch (expression_span e) from inner (StatementsPass start via body) (ElsePasses start via branch) (none_passes branch) (statements_pass (body_start opening from) body) (branch_passes to branch))

      statements_pass : (at : ℕ) (ts : Statements) → Walks name (g via) at (statements_code at ts) (StatementsPass start via ts)
      statements_pass at no_statements = walk_nothing name (g via) at
      statements_pass at (statement_then t ts) =
          let first : List Instr = statement_code at t in
          walk_then name (g via) at first (statements_code (at + length first) ts) (StatementPasses start via t) (StatementsPass start via ts) (statement_passes at t) (statements_pass (at + length first) ts)

      branch_passes : (at : ℕ) (branch : Else) → Walks name (g via) at (else_code at branch) (ElsePasses start via branch true)
      branch_passes at no_else = walk_nothing name (g via) at
      branch_passes at (otherwise body) = statements_pass at body

    pub tree_passes : (tree : Statements) → IsListed (passes_on name (program_of tree)) via ↔ StatementsPass start via tree
    tree_passes tree = let w = (statements_pass 0 tree).finds in
        let same = listed plain_include via (unbound name 0 0 (program_of tree)) in
        (λ e. w.0 (sym same ∙ e), λ h. same ∙ w.1 h)

-- where templates are included
module _ (via : List ℕ) where
  abbrev every : Instr → Bool
  every i = is_this via (any_include i)

  after_expression : (e : Expression) (c : List Instr) {P : Type 0} → ((list_any every c ≡ true) ↔ P) → (list_any every (expression_code e ++ c) ≡ true) ↔ P
  after_expression e c = after_none every (expression_code e) c (nothing_included via (expression_code e) (of_expression e))

  none_included : (branch : Else) → ElseIncludes via branch false → ⊥
  none_included no_else h = h
  none_included (otherwise body) h = h

  every_quiet : (i : Instr) → IsOfBlock i → every i ≡ false
  every_quiet (enter word) own = absurd own
  every_quiet (enter_with word) own = absurd own
  every_quiet _ own = refl

  one_include : (word : List ℕ) → ((is_this via (Some word) || false) ≡ true) ↔ (word ≡ via)
  one_include word = this_include [] via word

  mutual
    statement_includes : (at : ℕ) (t : Statement) → (list_any every (statement_code at t) ≡ true) ↔ StatementIncludes via t
    statement_includes at (raw span) = none
    statement_includes at (inline_expr e span) = (λ h. none.0 (sym (nothing_included via (emission_code e) (of_emission e)) ∙ h), λ h. absurd h)
    statement_includes at (include word None) = one_include word.text
    statement_includes at (include word (Some e)) = after_expression e (enter_with word ∷ []) (one_include word.text)
    statement_includes at (block opening e body branch) =
        let from : ℕ = at + length (expression_code e) in
        let inner : List Instr = statements_code (body_start opening from) body in
        let to : ℕ = past_body opening branch from inner in
        after_expression e (block_code opening branch (expression_span e) from inner (else_code to branch))
        (block_any every every_quiet opening branch (expression_span e) from inner (Includes via body) (ElseIncludes via branch) (none_included branch) (statements_include (body_start opening from) body) (branch_includes to branch))

    statements_include : (at : ℕ) (ts : Statements) → (list_any every (statements_code at ts) ≡ true) ↔ Includes via ts
    statements_include at no_statements = none
    statements_include at (statement_then t ts) =
        let first : List Instr = statement_code at t in
        joined every first (statements_code (at + length first) ts) (statement_includes at t) (statements_include (at + length first) ts)

    branch_includes : (at : ℕ) (branch : Else) → (list_any every (else_code at branch) ≡ true) ↔ ElseIncludes via branch true
    branch_includes at no_else = none
    branch_includes at (otherwise body) = statements_include at body

  pub tree_includes : (tree : Statements) → IsListed (includes (program_of tree)) via ↔ Includes via tree
  tree_includes tree = let w = statements_include 0 tree in let same = listed any_include via (program_of tree) in (λ e. w.0 (sym same ∙ e), λ h. same ∙ w.1 h)

-- What a program has of indexes that begin paths, and of includes without a value, is what its tree says of an index.
use Rattle.std.proofs.Common.{◌≡◌, ◌⊎◌, ◌↔◌, ℕ, ◌+◌, List, [], ◌∷◌, ◌++◌, length, Some, None, true, false, ◌||◌, inl, inr, refl, sym, ◌∙◌, bytes_eq}
use Rattle.std.specs.List.{list_any}
use Rattle.upon_types.specs.Expression.{Expression, base, filtered, Base, var, literal, list, mapping, paren, call, Bases, no_bases, base_then, Items, no_items, item_then, Arguments, no_arguments, arguments, expression_span}
use Rattle.upon_types.specs.Path.{Access, by_index, by_key}
use Rattle.upon_types.specs.BlockKinds.{block_names}
use Rattle.upon_types.specs.Tree.{Statement, raw, inline_expr, include, block, Statements, no_statements, statement_then, Else, no_else, otherwise}
use Rattle.upon_meaning_spec.specs.Needs.{an_index, IsStart, OneHides, ExpressionBegins, BaseBegins, BasesBegin, ItemsBegin, ArgumentsBegin, StatementBegins, StatementsBegin, ElseBegins, StatementPasses, StatementsPass, ElsePasses}
use Rattle.upon_machine_spec.specs.Code.{expression_code, base_code, bases_code, arguments_code, list_code, map_code, emission_code, base_emission_code, body_start, block_code, statement_code, statements_code, else_code, program_of}
use Rattle.upon_machine_spec.specs.Instr.{Instr, emit, expr_start_var, expr_list_push, expr_map_insert}
use Rattle.upon_machine_spec.specs.Instr.{include as enter, include_with as enter_with}
use Rattle.upon_machine_spec.specs.ProgramNames.{is_this, plain_include, IsListed}
use Rattle.upon_machine_spec.proofs.Walks.{either}
use Rattle.upon_machine_spec.proofs.BlockCode.{IsOfBlock, past_body, block_any}
use Rattle.upon_machine_spec.proofs.NamesOfExpressions.{of_expression, of_emission, none, this_name, joined, with_last, after_none, g, nothing_passes}
use Rattle.upon_machine_spec.proofs.NamesOfTree.{listed}
use Rattle.upon_needs.specs.IndexStarts.{is_index, has_index, begins_by_index, plain_includes}

or_none : {P : Type 0} → P ⊎ ⊥ → P
or_none (inl p) = p
or_none (inr h) = absurd h

none_begins : (branch : Else) → ElseBegins an_index branch false → ⊥
none_begins no_else h = h
none_begins (otherwise body) h = h

-- no block binds an index
none_hides : (names : List (List ℕ)) → OneHides names an_index → ⊥
none_hides [] h = h
none_hides (name ∷ names) (inl h) = h
none_hides (name ∷ names) (inr h) = none_hides names h

unhidden : (names : List (List ℕ)) {E P : Type 0} → (E ↔ P) → E ↔ ((OneHides names an_index → ⊥) × P)
unhidden names w = (λ h. (none_hides names, w.0 h), λ h. w.1 h.1)

-- where indexes begin paths
access_begins : (access : Access) → ((is_index access || false) ≡ true) ↔ IsStart an_index access
access_begins (by_index n span) = (λ e. tt, λ h. refl)
access_begins (by_key word) = none

mutual
  expression_begins : (e : Expression) → (list_any has_index (expression_code e) ≡ true) ↔ ExpressionBegins an_index e
  expression_begins (base b) = base_begins b
  expression_begins (filtered receiver f args span) = joined has_index (expression_code receiver) _ (expression_begins receiver) (with_last has_index (arguments_code args) _ refl (arguments_begin args))

  base_begins : (b : Base) → (list_any has_index (base_code b) ≡ true) ↔ BaseBegins an_index b
  base_begins (var first rest) = access_begins first.access
  base_begins (literal v span) = none
  base_begins (list bases span) = list_begins bases
  base_begins (mapping items span) = map_begins items
  base_begins (paren e span) = expression_begins e
  base_begins (call f args span) = with_last has_index (arguments_code args) _ refl (arguments_begin args)

  bases_begin : (bs : Bases) → (list_any has_index (bases_code bs) ≡ true) ↔ BasesBegin an_index bs
  bases_begin no_bases = none
  bases_begin (base_then b bs) = joined has_index (base_code b) (bases_code bs) (base_begins b) (bases_begin bs)

  arguments_begin : (args : Arguments) → (list_any has_index (arguments_code args) ≡ true) ↔ ArgumentsBegin an_index args
  arguments_begin no_arguments = none
  arguments_begin (arguments bases span) = bases_begin bases

  list_begins : (bs : Bases) → (list_any has_index (list_code bs) ≡ true) ↔ BasesBegin an_index bs
  list_begins no_bases = none
  list_begins (base_then b bs) = joined has_index (base_code b) (expr_list_push ∷ list_code bs) (base_begins b) (list_begins bs)

  map_begins : (items : Items) → (list_any has_index (map_code items) ≡ true) ↔ ItemsBegin an_index items
  map_begins no_items = none
  map_begins (item_then key b items) = joined has_index (base_code b) (expr_map_insert key ∷ map_code items) (base_begins b) (map_begins items)

mutual
  emission_begins : (e : Expression) → (list_any has_index (emission_code e) ≡ true) ↔ ExpressionBegins an_index e
  emission_begins (base b) = base_emission_begins b
  emission_begins (filtered receiver f args span) = joined has_index (expression_code receiver) _ (expression_begins receiver) (with_last has_index (arguments_code args) _ refl (arguments_begin args))

  base_emission_begins : (b : Base) → (list_any has_index (base_emission_code b) ≡ true) ↔ BaseBegins an_index b
  base_emission_begins (paren e span) = emission_begins e
  base_emission_begins (call f args span) = with_last has_index (arguments_code args) _ refl (arguments_begin args)
  base_emission_begins (var first rest) = with_last has_index (base_code (var first rest)) emit refl (base_begins (var first rest))
  base_emission_begins (literal v span) = with_last has_index (base_code (literal v span)) emit refl (base_begins (literal v span))
  base_emission_begins (list bases span) = with_last has_index (base_code (list bases span)) emit refl (base_begins (list bases span))
  base_emission_begins (mapping items span) = with_last has_index (base_code (mapping items span)) emit refl (base_begins (mapping items span))

starts_no_path : (i : Instr) → IsOfBlock i → has_index i ≡ false
starts_no_path (expr_start_var first rest) own = absurd own
starts_no_path _ own = refl

mutual
  statement_begins : (at : ℕ) (t : Statement) → (list_any has_index (statement_code at t) ≡ true) ↔ StatementBegins an_index t
  statement_begins at (raw span) = none
  statement_begins at (inline_expr e span) = emission_begins e
  statement_begins at (include word None) = none
  statement_begins at (include word (Some e)) = with_last has_index (expression_code e) (enter_with word) refl (expression_begins e)
  statement_begins at (block opening e body branch) =
      let from : ℕ = at + length (expression_code e) in
      let inner : List Instr = statements_code (body_start opening from) body in
      let to : ℕ = past_body opening branch from inner in
      joined has_index (expression_code e) (block_code opening branch (expression_span e) from inner (else_code to branch)) (expression_begins e)
      (block_any has_index starts_no_path opening branch (expression_span e) from inner ((OneHides (block_names opening) an_index → ⊥) × StatementsBegin an_index body) (ElseBegins an_index branch) (none_begins branch)
      (unhidden (block_names opening) (statements_begin (body_start opening from) body)) (else_begins to branch))

  statements_begin : (at : ℕ) (ts : Statements) → (list_any has_index (statements_code at ts) ≡ true) ↔ StatementsBegin an_index ts
  statements_begin at no_statements = none
  statements_begin at (statement_then t ts) =
      let first : List Instr = statement_code at t in
      joined has_index first (statements_code (at + length first) ts) (statement_begins at t) (statements_begin (at + length first) ts)

  else_begins : (at : ℕ) (branch : Else) → (list_any has_index (else_code at branch) ≡ true) ↔ ElseBegins an_index branch true
  else_begins at no_else = none
  else_begins at (otherwise body) = statements_begin at body

pub tree_begins_by_index : (tree : Statements) → (begins_by_index (program_of tree) ≡ true) ↔ StatementsBegin an_index tree
tree_begins_by_index tree = statements_begin 0 tree

-- where templates are included without a value
module _ (via : List ℕ) where
  after_expression : (e : Expression) (c : List Instr) {P : Type 0} → ((list_any (g via) c ≡ true) ↔ P) → (list_any (g via) (expression_code e ++ c) ≡ true) ↔ P
  after_expression e c = after_none (g via) (expression_code e) c (nothing_passes via (expression_code e) (of_expression e))

  none_passes : (branch : Else) → ElsePasses an_index via branch false → ⊥
  none_passes no_else h = h
  none_passes (otherwise body) h = h

  includes_nothing : (i : Instr) → IsOfBlock i → g via i ≡ false
  includes_nothing (enter word) own = absurd own
  includes_nothing _ own = refl

  one_include : (word : List ℕ) → ((is_this via (Some word) || false) ≡ true) ↔ (word ≡ via)
  one_include word = let last = either (bytes_eq via word) false (this_name via word) none in (λ e. or_none (last.0 e), λ h. last.1 (inl h))

  mutual
    statement_passes : (at : ℕ) (t : Statement) → (list_any (g via) (statement_code at t) ≡ true) ↔ StatementPasses an_index via t
    statement_passes at (raw span) = none
    statement_passes at (inline_expr e span) = (λ h. none.0 (sym (nothing_passes via (emission_code e) (of_emission e)) ∙ h), λ h. absurd h)
    statement_passes at (include word None) = one_include word.text
    statement_passes at (include word (Some e)) = after_expression e (enter_with word ∷ []) none
    statement_passes at (block opening e body branch) =
        let from : ℕ = at + length (expression_code e) in
        let inner : List Instr = statements_code (body_start opening from) body in
        let to : ℕ = past_body opening branch from inner in
        after_expression e (block_code opening branch (expression_span e) from inner (else_code to branch))
        (block_any (g via) includes_nothing opening branch (expression_span e) from inner ((OneHides (block_names opening) an_index → ⊥) × StatementsPass an_index via body) (ElsePasses an_index via branch) (none_passes branch)
        (unhidden (block_names opening) (statements_pass (body_start opening from) body)) (else_passes to branch))

    statements_pass : (at : ℕ) (ts : Statements) → (list_any (g via) (statements_code at ts) ≡ true) ↔ StatementsPass an_index via ts
    statements_pass at no_statements = none
    statements_pass at (statement_then t ts) =
        let first : List Instr = statement_code at t in
        joined (g via) first (statements_code (at + length first) ts) (statement_passes at t) (statements_pass (at + length first) ts)

    else_passes : (at : ℕ) (branch : Else) → (list_any (g via) (else_code at branch) ≡ true) ↔ ElsePasses an_index via branch true
    else_passes at no_else = none
    else_passes at (otherwise body) = statements_pass at body

  pub tree_passes_index : (tree : Statements) → IsListed (plain_includes (program_of tree)) via ↔ StatementsPass an_index via tree
  tree_passes_index tree = let w = statements_pass 0 tree in let same = listed plain_include via (program_of tree) in (λ e. w.0 (sym same ∙ e), λ h. same ∙ w.1 h)

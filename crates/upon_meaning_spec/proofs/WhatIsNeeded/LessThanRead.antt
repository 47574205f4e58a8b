-- What is needed is read.
use Rattle.std.proofs.Common.{◌≡◌, ℕ, List, [], ◌∷◌, Some, None, inl, inr, Bool, true, false}
use Rattle.upon_types.specs.Expression.{Expression, base, filtered, Base, var, literal, list, mapping, paren, call, Bases, no_bases, base_then, Items, no_items, item_then, Arguments, no_arguments, arguments}
use Rattle.upon_types.specs.Path.{Access, by_index, by_key}
use Rattle.upon_types.specs.BlockKinds.{opened_kind, may_have_else}
use Rattle.upon_types.specs.Tree.{Statement, raw, inline_expr, include, block, Statements, no_statements, statement_then, Else, no_else, otherwise}
use Rattle.upon_meaning_spec.specs.Engine.{Template, Table}
use Rattle.upon_meaning_spec.specs.Includes.{StatementIncludes, Includes, ElseIncludes}
use Rattle.upon_meaning_spec.specs.Names.{IsName, ExpressionReads, BaseReads, BasesRead, ItemsRead, ArgumentsRead, StatementReads, StatementsRead, ElseReads, ReachedTemplate, Reads}
use Rattle.upon_meaning_spec.specs.Needs.{Start, a_name, IsStart, ExpressionBegins, BaseBegins, BasesBegin, ItemsBegin, ArgumentsBegin, StatementBegins, StatementsBegin, ElseBegins, StatementPasses, StatementsPass, ElsePasses, NeedsBy, NeedsName}

module _ (name : List ℕ) where
  access_read : (access : Access) → IsStart (a_name name) access → IsName name access
  access_read (by_index n span) h = h
  access_read (by_key word) h = h

  mutual
    expression_read : (e : Expression) → ExpressionBegins (a_name name) e → ExpressionReads name e
    expression_read (base b) h = base_read b h
    expression_read (filtered receiver f args span) (inl h) = inl (expression_read receiver h)
    expression_read (filtered receiver f args span) (inr h) = inr (arguments_read args h)

    base_read : (b : Base) → BaseBegins (a_name name) b → BaseReads name b
    base_read (var first rest) h = access_read first.access h
    base_read (literal v span) h = h
    base_read (list bases span) h = bases_read bases h
    base_read (mapping items span) h = items_read items h
    base_read (paren e span) h = expression_read e h
    base_read (call f args span) h = arguments_read args h

    bases_read : (bs : Bases) → BasesBegin (a_name name) bs → BasesRead name bs
    bases_read no_bases h = h
    bases_read (base_then b bs) (inl h) = inl (base_read b h)
    bases_read (base_then b bs) (inr h) = inr (bases_read bs h)

    items_read : (items : Items) → ItemsBegin (a_name name) items → ItemsRead name items
    items_read no_items h = h
    items_read (item_then key b items) (inl h) = inl (base_read b h)
    items_read (item_then key b items) (inr h) = inr (items_read items h)

    arguments_read : (args : Arguments) → ArgumentsBegin (a_name name) args → ArgumentsRead name args
    arguments_read no_arguments h = h
    arguments_read (arguments bases span) h = bases_read bases h

  mutual
    statement_read : (t : Statement) → StatementBegins (a_name name) t → StatementReads name t
    statement_read (raw span) h = h
    statement_read (inline_expr e span) h = expression_read e h
    statement_read (include word None) h = h
    statement_read (include word (Some e)) h = expression_read e h
    statement_read (block opening e body other) (inl h) = inl (expression_read e h)
    statement_read (block opening e body other) (inr (inl h)) = inr (inl (statements_read body h.1))
    statement_read (block opening e body other) (inr (inr h)) = inr (inr (else_read other (may_have_else (opened_kind opening)) h))

    statements_read : (ts : Statements) → StatementsBegin (a_name name) ts → StatementsRead name ts
    statements_read no_statements h = h
    statements_read (statement_then t ts) (inl h) = inl (statement_read t h)
    statements_read (statement_then t ts) (inr h) = inr (statements_read ts h)

    else_read : (other : Else) (may : Bool) → ElseBegins (a_name name) other may → ElseReads name other may
    else_read no_else may h = h
    else_read (otherwise body) false h = h
    else_read (otherwise body) true h = statements_read body h

-- what is passed on is included
module _ (start : Start) (via : List ℕ) where
  mutual
    statement_includes : (t : Statement) → StatementPasses start via t → StatementIncludes via t
    statement_includes (raw span) h = h
    statement_includes (inline_expr e span) h = h
    statement_includes (include word None) h = h
    statement_includes (include word (Some e)) h = absurd h
    statement_includes (block opening e body other) (inl h) = inl (statements_include body h.1)
    statement_includes (block opening e body other) (inr h) = inr (else_includes other (may_have_else (opened_kind opening)) h)

    pub statements_include : (ts : Statements) → StatementsPass start via ts → Includes via ts
    statements_include no_statements h = h
    statements_include (statement_then t ts) (inl h) = inl (statement_includes t h)
    statements_include (statement_then t ts) (inr h) = inr (statements_include ts h)

    else_includes : (other : Else) (may : Bool) → ElsePasses start via other may → ElseIncludes via other may
    else_includes no_else may h = h
    else_includes (otherwise body) false h = h
    else_includes (otherwise body) true h = statements_include body h

module _ (table : Table) (name : List ℕ) where
  abbrev ReadFar : Statements → Type 0
  ReadFar tree = (t : Template) × ReachedTemplate table tree t × StatementsRead name t.tree

  further : (tree : Statements) (via : List ℕ) (t : Template) → Includes via tree → table via ≡ Some t → ReadFar t.tree → ReadFar tree
  further tree via t i e far =
      let r = far.1.reaches in
      (far.0, record { name = far.1.name; reaches = (via ∷ r.0, (i, (t, e, r.1))); holds = far.1.holds }, far.2)

  read_far : (tree : Statements) (via : List ℕ) (names : List (List ℕ)) → NeedsBy table tree (via ∷ names) (a_name name) → ReadFar tree
  read_far tree via [] h = (h.1.0, record { name = via; reaches = ([], statements_include (a_name name) via tree h.0); holds = h.1.1 }, statements_read name h.1.0.tree h.1.2)
  read_far tree via (next ∷ names) h = further tree via h.1.0 (statements_include (a_name name) via tree h.0) h.1.1 (read_far h.1.0.tree next names h.1.2)

  by_chain : (tree : Statements) (names : List (List ℕ)) → NeedsBy table tree names (a_name name) → Reads table tree name
  by_chain tree [] h = inl (statements_read name tree h)
  by_chain tree (via ∷ names) h = inr (read_far tree via names h)

  pub needed_is_read : (tree : Statements) → NeedsName table tree name → Reads table tree name
  needed_is_read tree needs = by_chain tree needs.0 needs.1

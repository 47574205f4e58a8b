-- Which names a template reads: those that begin a path in it, or in a template that it reaches.
use Rattle.std.specs.Prelude.{◌≡◌, ◌⊎◌, ℕ, List, Option, Some, None, Bool, true, false}
use Rattle.upon_types.specs.Expression.{Expression, base, filtered, Base, var, literal, list, mapping, paren, call, Bases, no_bases, base_then, Items, no_items, item_then, Arguments, no_arguments, arguments}
use Rattle.upon_types.specs.Path.{Access, by_index, by_key}
use Rattle.upon_types.specs.BlockKinds.{opened_kind, may_have_else}
use Rattle.upon_types.specs.Tree.{Statement, raw, inline_expr, include, block, Statements, no_statements, statement_then, Else, no_else, otherwise}
use Rattle.upon_meaning_spec.specs.Engine.{Template, Table}
use Rattle.upon_meaning_spec.specs.Includes.{Reaches}

-- the first member is this name; an index is no name
abbrev pub IsName : List ℕ → Access → Type 0
IsName name (by_index n span) = ⊥
IsName name (by_key word) = word.text ≡ name

-- the name begins a path in an expression
abbrev mutual
  -- in an expression
  pub ExpressionReads : List ℕ → Expression → Type 0
  ExpressionReads name (base b) = BaseReads name b
  ExpressionReads name (filtered receiver f args span) = ExpressionReads name receiver ⊎ ArgumentsRead name args

  -- in an expression without filters
  pub BaseReads : List ℕ → Base → Type 0
  BaseReads name (var first rest) = IsName name first.access
  BaseReads name (literal v span) = ⊥
  BaseReads name (list bases span) = BasesRead name bases
  BaseReads name (mapping items span) = ItemsRead name items
  BaseReads name (paren e span) = ExpressionReads name e
  BaseReads name (call f args span) = ArgumentsRead name args

  -- in expressions
  pub BasesRead : List ℕ → Bases → Type 0
  BasesRead name no_bases = ⊥
  BasesRead name (base_then b bs) = BaseReads name b ⊎ BasesRead name bs

  -- in the entries of a map
  pub ItemsRead : List ℕ → Items → Type 0
  ItemsRead name no_items = ⊥
  ItemsRead name (item_then key b items) = BaseReads name b ⊎ ItemsRead name items

  -- in arguments
  pub ArgumentsRead : List ℕ → Arguments → Type 0
  ArgumentsRead name no_arguments = ⊥
  ArgumentsRead name (arguments bases span) = BasesRead name bases

-- the value that an include is given
abbrev pub GivenReads : List ℕ → Option Expression → Type 0
GivenReads name None = ⊥
GivenReads name (Some e) = ExpressionReads name e

-- the name begins a path in a tree
abbrev mutual
  -- in a statement
  pub StatementReads : List ℕ → Statement → Type 0
  StatementReads name (raw span) = ⊥
  StatementReads name (inline_expr e span) = ExpressionReads name e
  StatementReads name (include word value) = GivenReads name value
  StatementReads name (block opening e body other) = ExpressionReads name e ⊎
      (StatementsRead name body ⊎ ElseReads name other (may_have_else (opened_kind opening)))

  -- in statements
  pub StatementsRead : List ℕ → Statements → Type 0
  StatementsRead name no_statements = ⊥
  StatementsRead name (statement_then t ts) = StatementReads name t ⊎ StatementsRead name ts

  -- in the other branch of a block, if it may have one
  pub ElseReads : List ℕ → Else → Bool → Type 0
  ElseReads name no_else may = ⊥
  ElseReads name (otherwise body) false = ⊥
  ElseReads name (otherwise body) true = StatementsRead name body

-- a template that the table holds under a name that is reached
pub record ReachedTemplate (table : Table) (tree : Statements) (t : Template) : Type 0 where
  pub name : List ℕ
  pub reaches : Reaches table tree name
  pub holds : table name ≡ Some t

-- the name begins a path in the tree, or in a template that it reaches
abbrev pub Reads : Table → Statements → List ℕ → Type 0
Reads table tree name = StatementsRead name tree ⊎
    ((t : Template) × ReachedTemplate table tree t × StatementsRead name t.tree)

-- two maps hold the same at each of these names: both the same, or neither any
abbrev pub AgreeOn : {A : Type 0} → (List ℕ → Type 0) → (List ℕ → Option A) → (List ℕ → Option A) → Type 0
AgreeOn names f g = (name : List ℕ) → names name → f name ≡ g name

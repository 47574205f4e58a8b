-- What a template needs of its context: the names that begin a path outside of each `with` and `for` that binds them,
-- in it, or in what it includes there without a value; and the whole context where an index begins a path.
use Rattle.std.specs.Prelude.{◌≡◌, ◌⊎◌, ℕ, List, [], ◌∷◌, Option, Some, None, Bool, true, false}
use Rattle.upon_types.specs.Expression.{Expression, base, filtered, Base, var, literal, list, mapping, paren, call, Bases, no_bases, base_then, Items, no_items, item_then, Arguments, no_arguments, arguments}
use Rattle.upon_types.specs.Path.{Access, by_index, by_key}
use Rattle.upon_types.specs.BlockKinds.{block_names, opened_kind, may_have_else}
use Rattle.upon_types.specs.Tree.{Statement, raw, inline_expr, include, block, Statements, no_statements, statement_then, Else, no_else, otherwise}
use Rattle.upon_types.specs.Val.{Val, map_val, entry_at}
use Rattle.upon_meaning_spec.specs.Engine.{Template, Table}

-- what begins a path: this name, or an index
pub data Start : Type 0 where
  a_name : List ℕ → Start
  an_index : Start

-- a path's first member is such a one
abbrev pub IsStart : Start → Access → Type 0
IsStart (a_name name) (by_index n span) = ⊥
IsStart (a_name name) (by_key word) = word.text ≡ name
IsStart an_index (by_index n span) = Unit {0}
IsStart an_index (by_key word) = ⊥

-- a binding of the word answers such a path; an index is never bound
abbrev pub Hides : List ℕ → Start → Type 0
Hides word (a_name name) = word ≡ name
Hides word an_index = ⊥

-- a binding of one of the words does
abbrev pub OneHides : List (List ℕ) → Start → Type 0
OneHides [] start = ⊥
OneHides (word ∷ words) start = Hides word start ⊎ OneHides words start

-- it begins a path in an expression
abbrev mutual
  -- in an expression
  pub ExpressionBegins : Start → Expression → Type 0
  ExpressionBegins start (base b) = BaseBegins start b
  ExpressionBegins start (filtered receiver f args span) = ExpressionBegins start receiver ⊎ ArgumentsBegin start args

  -- in an expression without filters
  pub BaseBegins : Start → Base → Type 0
  BaseBegins start (var first rest) = IsStart start first.access
  BaseBegins start (literal v span) = ⊥
  BaseBegins start (list bases span) = BasesBegin start bases
  BaseBegins start (mapping items span) = ItemsBegin start items
  BaseBegins start (paren e span) = ExpressionBegins start e
  BaseBegins start (call f args span) = ArgumentsBegin start args

  -- in expressions
  pub BasesBegin : Start → Bases → Type 0
  BasesBegin start no_bases = ⊥
  BasesBegin start (base_then b bs) = BaseBegins start b ⊎ BasesBegin start bs

  -- in the entries of a map
  pub ItemsBegin : Start → Items → Type 0
  ItemsBegin start no_items = ⊥
  ItemsBegin start (item_then key b items) = BaseBegins start b ⊎ ItemsBegin start items

  -- in arguments
  pub ArgumentsBegin : Start → Arguments → Type 0
  ArgumentsBegin start no_arguments = ⊥
  ArgumentsBegin start (arguments bases span) = BasesBegin start bases

-- in the value that an include is given
abbrev pub GivenBegins : Start → Option Expression → Type 0
GivenBegins start None = ⊥
GivenBegins start (Some e) = ExpressionBegins start e

-- it begins a path in a tree, outside of what binds it there
abbrev mutual
  -- in a statement
  pub StatementBegins : Start → Statement → Type 0
  StatementBegins start (raw span) = ⊥
  StatementBegins start (inline_expr e span) = ExpressionBegins start e
  StatementBegins start (include word value) = GivenBegins start value
  StatementBegins start (block opening e body other) = ExpressionBegins start e ⊎
      (((OneHides (block_names opening) start → ⊥) × StatementsBegin start body)
      ⊎ ElseBegins start other (may_have_else (opened_kind opening)))

  -- in statements
  pub StatementsBegin : Start → Statements → Type 0
  StatementsBegin start no_statements = ⊥
  StatementsBegin start (statement_then t ts) = StatementBegins start t ⊎ StatementsBegin start ts

  -- in the other branch of a block, if it may have one, which is outside of what the block binds
  pub ElseBegins : Start → Else → Bool → Type 0
  ElseBegins start no_else may = ⊥
  ElseBegins start (otherwise body) false = ⊥
  ElseBegins start (otherwise body) true = StatementsBegin start body

-- an include of this name, without a value, is in the tree, outside of what binds it
abbrev mutual
  -- in a statement
  pub StatementPasses : Start → List ℕ → Statement → Type 0
  StatementPasses start via (raw span) = ⊥
  StatementPasses start via (inline_expr e span) = ⊥
  StatementPasses start via (include word None) = word.text ≡ via
  StatementPasses start via (include word (Some e)) = ⊥
  StatementPasses start via (block opening e body other) =
      ((OneHides (block_names opening) start → ⊥) × StatementsPass start via body)
      ⊎ ElsePasses start via other (may_have_else (opened_kind opening))

  -- in statements
  pub StatementsPass : Start → List ℕ → Statements → Type 0
  StatementsPass start via no_statements = ⊥
  StatementsPass start via (statement_then t ts) = StatementPasses start via t ⊎ StatementsPass start via ts

  -- in the other branch of a block, if it may have one, which is outside of what the block binds
  pub ElsePasses : Start → List ℕ → Else → Bool → Type 0
  ElsePasses start via no_else may = ⊥
  ElsePasses start via (otherwise body) false = ⊥
  ElsePasses start via (otherwise body) true = StatementsPass start via body

-- the tree passes it to the first of these templates, which the table holds, that one to the next, and so on to the
-- last, where it begins a path
abbrev pub NeedsBy : Table → Statements → List (List ℕ) → Start → Type 0
NeedsBy table tree [] start = StatementsBegin start tree
NeedsBy table tree (via ∷ names) start = StatementsPass start via tree ×
    ((t : Template) × (table via ≡ Some t) × NeedsBy table t.tree names start)

-- paths that begin so are asked of the context
abbrev pub Needs : Table → Statements → Start → Type 0
Needs table tree start = (names : List (List ℕ)) × NeedsBy table tree names start

-- the context's entry of this name is needed
abbrev pub NeedsName : Table → Statements → List ℕ → Type 0
NeedsName table tree name = Needs table tree (a_name name)

-- an index begins a path, and so the context counts where it is a list
abbrev pub NeedsAll : Table → Statements → Type 0
NeedsAll table tree = Needs table tree an_index

-- the entry of a name, if the value is a map
abbrev pub entry_in : List ℕ → Val → Option (Option Val)
entry_in name (map_val es) = Some (entry_at name es)
entry_in name v = None

-- two contexts agree on what a tree needs: both are maps with the same entry of each name needed, or neither is a map;
-- if all is needed they are the same
pub record AgreeForNeeds (table : Table) (tree : Statements) (this that : Val) : Type 0 where
  pub on_names : (name : List ℕ) → NeedsName table tree name → entry_in name this ≡ entry_in name that
  pub on_all : NeedsAll table tree → this ≡ that

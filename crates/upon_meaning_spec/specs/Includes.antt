-- Which templates a template reaches: those that it includes, and those that they include.
use Rattle.std.specs.Prelude.{◌≡◌, ◌<◌, ◌⊎◌, ℕ, List, [], ◌∷◌, Some, Bool, true, false}
use Rattle.upon_types.specs.BlockKinds.{opened_kind, may_have_else}
use Rattle.upon_types.specs.Tree.{Statement, raw, inline_expr, include, block, Statements, no_statements, statement_then, Else, no_else, otherwise}
use Rattle.upon_meaning_spec.specs.Engine.{Template, Table}

-- an include of this name occurs in the tree
abbrev mutual
  -- an include of this name is in a statement
  pub StatementIncludes : List ℕ → Statement → Type 0
  StatementIncludes name (raw span) = ⊥
  StatementIncludes name (inline_expr e span) = ⊥
  StatementIncludes name (include word value) = word.text ≡ name
  StatementIncludes name (block opening e body other) =
      Includes name body ⊎ ElseIncludes name other (may_have_else (opened_kind opening))

  -- in statements
  pub Includes : List ℕ → Statements → Type 0
  Includes name no_statements = ⊥
  Includes name (statement_then t ts) = StatementIncludes name t ⊎ Includes name ts

  -- in the other branch of a block, if it may have one
  pub ElseIncludes : List ℕ → Else → Bool → Type 0
  ElseIncludes name no_else may = ⊥
  ElseIncludes name (otherwise body) false = ⊥
  ElseIncludes name (otherwise body) true = Includes name body

-- the tree includes the first of the names, which the table holds; its tree includes the next, and so on to the last,
-- and this name
abbrev pub ReachesBy : Table → Statements → List (List ℕ) → List ℕ → Type 0
ReachesBy table tree [] name = Includes name tree
ReachesBy table tree (via ∷ names) name = Includes via tree ×
    ((t : Template) × (table via ≡ Some t) × ReachesBy table t.tree names name)

-- an include of this name occurs in the tree, or in one that it reaches
abbrev pub Reaches : Table → Statements → List ℕ → Type 0
Reaches table tree name = (names : List (List ℕ)) × ReachesBy table tree names name

-- the stored templates that a tree includes have numbers less than k
abbrev pub IncludesBelow : Table → (List ℕ → ℕ) → Statements → ℕ → Type 0
IncludesBelow table number tree k = (name : List ℕ) (t : Template) → Includes name tree → table name ≡ Some t
    → number name < k

-- Numbers that show how deep includes go: the tree has the number k, and it and each stored template that it reaches
-- have numbers
-- greater than those of the stored templates that they include.
pub record IsNumbered (table : Table) (number : List ℕ → ℕ) (tree : Statements) (k : ℕ) : Type 0 where
  pub itself : IncludesBelow table number tree k
  pub reached : (name : List ℕ) (t : Template) → Reaches table tree name → table name ≡ Some t
      → IncludesBelow table number t.tree (number name)

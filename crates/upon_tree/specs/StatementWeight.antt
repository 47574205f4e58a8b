-- How large a statement is, with those in it: what falls while one is dropped. One with nothing inside counts 1.
use Rattle.std.specs.Prelude.{ℕ, List, ◌+◌, map, Option, Some, None, option_map}
use Rattle.upon_tree.specs.Weight.{total}
use Rattle.upon_tree.specs.declared.ast.Scope.{Scope, fold-Scope}
use Rattle.upon_tree.specs.declared.ast.Stmt.{Stmt, fold-Stmt}
use Rattle.upon_tree.specs.declared.ast.Stmt.TheOpen.{Stmt-F, ForLoop-F, IfElse-F, Scope-F, With-F}
use Rattle.upon_tree.specs.declared.ast.taking_apart.Bodies.{Bodies}
use Rattle.upon_tree.specs.declared.ast.taking_apart.Bodies.TheVariants.{Leaf, One, Two}
use Rattle.upon_tree.specs.declared.ast.taking_apart.Nested.{Nested}

-- one more than the number of the statements for the other case, or 0 if there is no other case
abbrev pub others : Option ℕ → ℕ
others None = 0
others (Some n) = n + 1

-- one level of each type, where what is inside has been counted already
abbrev pub stmt_counts : Stmt-F ℕ ℕ ℕ ℕ ℕ → ℕ
stmt_counts (Stmt-F.Raw span) = 1
stmt_counts (Stmt-F.InlineExpr e) = 1
stmt_counts (Stmt-F.Include i) = 1
stmt_counts (Stmt-F.IfElse n) = n
stmt_counts (Stmt-F.ForLoop n) = n
stmt_counts (Stmt-F.With n) = n

-- of a loop
abbrev pub for_counts : ForLoop-F ℕ ℕ ℕ ℕ ℕ → ℕ
for_counts f = f.body + others f.else_branch + 2

-- of an `if`
abbrev pub if_counts : IfElse-F ℕ ℕ ℕ ℕ ℕ → ℕ
if_counts i = i.then_branch + others i.else_branch + 2

-- of statements
abbrev pub scope_counts : Scope-F ℕ ℕ ℕ ℕ ℕ → ℕ
scope_counts s = total s.stmts.items

-- of a `with`
abbrev pub with_counts : With-F ℕ ℕ ℕ ℕ ℕ → ℕ
with_counts w = w.body + 2

-- the size of a statement, with those in it
unfoldable pub stmt_weight : Stmt → ℕ
stmt_weight = fold-Stmt ℕ ℕ ℕ ℕ ℕ stmt_counts for_counts if_counts scope_counts with_counts

-- the size of the statements of a scope, with those in them
unfoldable pub scope_weight : Scope → ℕ
scope_weight = fold-Scope ℕ ℕ ℕ ℕ ℕ stmt_counts for_counts if_counts scope_counts with_counts

-- the size of the statements for the other case, where there is one, with those in them
abbrev pub else_weight : Option Scope → ℕ
else_weight branch = others (option_map scope_weight branch)

-- the size of statements in a row, with those in them
abbrev pub stmts_weight : List Stmt → ℕ
stmts_weight ss = total (map stmt_weight ss)

-- the size of a statement that was opened, by the bodies that it has
abbrev pub bodies_weight : Bodies → ℕ
bodies_weight Leaf = 1
bodies_weight (One stmts) = stmts_weight stmts.items + 2
bodies_weight (Two stmts others) = stmts_weight stmts.items + stmts_weight others.items + 3

-- the size of all statements that are yet to be dropped
abbrev pub nested_weight : Nested → ℕ
nested_weight nested = bodies_weight nested.hand + stmt_weight nested.above

-- The weight of a statement, one level at a time, and what a step of taking apart does to it.
use Rattle.std.proofs.Common.{◌≡◌, ℕ, zero, suc, ◌+◌, ◌<◌, ◌≤◌, List, [], ◌∷◌, ◌++◌, rules, arith, get_or, length, Vec, Global, None, Some, false}
use Rattle.std.proofs.Math.ListN.{set}
use Rattle.upon_tree.specs.StatementWeight.{stmt_weight, scope_weight, else_weight, stmts_weight}
use Rattle.upon_tree.specs.declared.ast.ForLoop.{ForLoop}
use Rattle.upon_tree.specs.declared.ast.IfElse.{IfElse}
use Rattle.upon_tree.specs.declared.ast.Include.{Include}
use Rattle.upon_tree.specs.declared.ast.InlineExpr.{InlineExpr}
use Rattle.upon_tree.specs.declared.ast.Scope.{Scope}
use Rattle.upon_tree.specs.declared.ast.Stmt.{Stmt, Raw as RawStmt, InlineExpr as InlineStmt, Include as IncludeStmt, IfElse as IfStmt, ForLoop as ForStmt, With as WithStmt, the_lemmas as statement_lemmas}
use Rattle.upon_tree.specs.declared.ast.Stmt.TheViews.{out-ForLoop, out-IfElse, out-Scope, out-With, roll-IfElse, roll-Scope}
use Rattle.upon_tree.specs.declared.ast.With.{With}
use Rattle.upon_tree.specs.declared.ast.expression.Expr.{Expr}
use Rattle.upon_types.specs.declared.types.Span.{Span}

-- ---- one level
pub weight-Raw : (span : Span) → stmt_weight (RawStmt span) ≡ 1
unfolding stmt_weight
weight-Raw span = search (rules, statement_lemmas)

pub weight-InlineExpr : (e : InlineExpr) → stmt_weight (InlineStmt e) ≡ 1
unfolding stmt_weight
weight-InlineExpr e = search (rules, statement_lemmas)

pub weight-Include : (i : Include) → stmt_weight (IncludeStmt i) ≡ 1
unfolding stmt_weight
weight-Include i = search (rules, statement_lemmas)

pub weight-IfElse : (i : IfElse) → stmt_weight (IfStmt i) ≡ scope_weight (out-IfElse i).then_branch + else_weight (out-IfElse i).else_branch + 2
unfolding stmt_weight scope_weight
weight-IfElse i = search (rules, statement_lemmas)

pub weight-ForLoop : (f : ForLoop) → stmt_weight (ForStmt f) ≡ scope_weight (out-ForLoop f).body + else_weight (out-ForLoop f).else_branch + 2
unfolding stmt_weight scope_weight
weight-ForLoop f = search (rules, statement_lemmas)

pub weight-With : (w : With) → stmt_weight (WithStmt w) ≡ scope_weight (out-With w).body + 2
unfolding stmt_weight scope_weight
weight-With w = search (rules, statement_lemmas)

pub weight-Scope : (s : Scope) → scope_weight s ≡ stmts_weight (out-Scope s).stmts.items
unfolding stmt_weight scope_weight
weight-Scope s = search (rules, statement_lemmas)

-- an `if` that was made of statements
pub weight-body : (cond : Expr) (ss : Vec Stmt Global) → stmt_weight (IfStmt (roll-IfElse (record { not = false; cond = cond; then_branch = roll-Scope (record { stmts = ss }); else_branch = None }))) ≡ stmts_weight ss.items + 2
unfolding stmt_weight scope_weight
weight-body cond ss = search (rules, statement_lemmas)

pub weight-bodies : (cond : Expr) (ss ts : Vec Stmt Global) → stmt_weight (IfStmt (roll-IfElse (record { not = false; cond = cond; then_branch = roll-Scope (record { stmts = ss }); else_branch = Some (roll-Scope (record { stmts = ts })) }))) ≡ stmts_weight ss.items + stmts_weight ts.items + 3
unfolding stmt_weight scope_weight
weight-bodies cond ss ts = search (rules, arith, statement_lemmas)

pub ruleset statement_weights = (weight-Raw, weight-InlineExpr, weight-Include, weight-IfElse, weight-ForLoop, weight-With, weight-Scope)

-- ---- statements in a row
pub stmts_weight-append : (ss ts : List Stmt) → stmts_weight (ss ++ ts) ≡ stmts_weight ss + stmts_weight ts
stmts_weight-append [] ts = omega arith
stmts_weight-append (s ∷ ss) ts = omega (arith, stmts_weight-append ss ts)

pub stmts_weight-set : (ss : List Stmt) (i : ℕ) (t d : Stmt) → i < length ss → stmts_weight (set ss i t) + stmt_weight (get_or ss i d) ≡ stmts_weight ss + stmt_weight t
stmts_weight-set [] i t d h = absurd (omega arith)
stmts_weight-set (s ∷ ss) zero t d h = omega arith
stmts_weight-set (s ∷ ss) (suc i) t d h = omega (arith, stmts_weight-set ss i t d (omega arith))

pub stmts_weight-part : (ss : List Stmt) (i : ℕ) (d : Stmt) → i < length ss → stmt_weight (get_or ss i d) ≤ stmts_weight ss
stmts_weight-part [] i d h = absurd (omega arith)
stmts_weight-part (s ∷ ss) zero d h = omega arith
stmts_weight-part (s ∷ ss) (suc i) d h = omega (arith, stmts_weight-part ss i d (omega arith))

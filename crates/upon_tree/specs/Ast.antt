-- What the tree of the code denotes.
use Rattle.std.specs.Prelude.{List, [], ◌∷◌, map, Option, Some, None, option_map}
use Rattle.upon_tree.specs.AstExpression.{expression_tree}
use Rattle.upon_types.specs.AstPath.{ident_of, string_of, loop_vars_of}
use Rattle.upon_types.specs.Tree.{Statement, raw, inline_expr, include, if_else, for_loop, with, Statements, no_statements, statement_then, Else, no_else, otherwise}
use Rattle.upon_tree.specs.declared.ast.ForLoop.{ForLoop, fold-ForLoop}
use Rattle.upon_tree.specs.declared.ast.IfElse.{IfElse, fold-IfElse}
use Rattle.upon_tree.specs.declared.ast.Scope.{Scope, fold-Scope}
use Rattle.upon_tree.specs.declared.ast.Stmt.{Stmt, fold-Stmt}
use Rattle.upon_tree.specs.declared.ast.Stmt.TheOpen.{Stmt-F, ForLoop-F, IfElse-F, Scope-F, With-F}
use Rattle.upon_tree.specs.declared.ast.Template.{Template}
use Rattle.upon_tree.specs.declared.ast.With.{With, fold-With}

-- statements one after the other
abbrev pub statements_from : List Statement → Statements
statements_from [] = no_statements
statements_from (t ∷ ts) = statement_then t (statements_from ts)

-- the other branch, if there is one
abbrev pub else_from : Option Statements → Else
else_from None = no_else
else_from (Some ts) = otherwise ts

-- one level of each type, where what is inside has been seen already
abbrev pub statement_level : Stmt-F Statement Statement Statement Statements Statement → Statement
statement_level (Stmt-F.Raw span) = raw span
statement_level (Stmt-F.InlineExpr e) = inline_expr (expression_tree e.expr) e.span
statement_level (Stmt-F.Include i) = include (string_of i.name) (option_map expression_tree i.globals)
statement_level (Stmt-F.IfElse t) = t
statement_level (Stmt-F.ForLoop t) = t
statement_level (Stmt-F.With t) = t

-- of a loop
abbrev pub for_level : ForLoop-F Statement Statement Statement Statements Statement → Statement
for_level f = for_loop (loop_vars_of f.vars) (expression_tree f.iterable) f.body (else_from f.else_branch)

-- of an `if`
abbrev pub if_level : IfElse-F Statement Statement Statement Statements Statement → Statement
if_level i = if_else i.not (expression_tree i.cond) i.then_branch (else_from i.else_branch)

-- of statements
abbrev pub scope_level : Scope-F Statement Statement Statement Statements Statement → Statements
scope_level s = statements_from s.stmts.items

-- of a `with`
abbrev pub with_level : With-F Statement Statement Statement Statements Statement → Statement
with_level w = with (expression_tree w.expr) (ident_of w.name) w.body

-- the whole of each type
abbrev pub statement_tree : Stmt → Statement
statement_tree =
    fold-Stmt Statement Statement Statement Statements Statement statement_level for_level if_level scope_level
    with_level

-- a loop
abbrev pub for_tree : ForLoop → Statement
for_tree =
    fold-ForLoop Statement Statement Statement Statements Statement statement_level for_level if_level scope_level
    with_level

-- an `if`
abbrev pub if_tree : IfElse → Statement
if_tree =
    fold-IfElse Statement Statement Statement Statements Statement statement_level for_level if_level scope_level
    with_level

-- statements
abbrev pub scope_tree : Scope → Statements
scope_tree =
    fold-Scope Statement Statement Statement Statements Statement statement_level for_level if_level scope_level
    with_level

-- a `with`
abbrev pub with_tree : With → Statement
with_tree =
    fold-With Statement Statement Statement Statements Statement statement_level for_level if_level scope_level
    with_level

-- the tree of a template
abbrev pub tree_of : Template → Statements
tree_of template = scope_tree template.scope

-- statements in a row, and those for the other case
abbrev pub statements_tree : List Stmt → Statements
statements_tree ts = statements_from (map statement_tree ts)

-- the other branch of an `if` or a `for`
abbrev pub else_tree : Option Scope → Else
else_tree branch = else_from (option_map scope_tree branch)

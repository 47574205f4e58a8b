-- What the expressions and the statements of the code denote, one level at a time. A struct of a tree is opened
-- by its `out-`, which computes at a literal.
use Rattle.std.proofs.Common.{◌≡◌, option_map, rules}
use Rattle.upon_tree.specs.Ast.{statement_tree, for_tree, if_tree, scope_tree, with_tree, statements_tree, else_tree}
use Rattle.upon_tree.specs.AstExpression.{base_tree, expression_tree, arguments_tree, call_tree, filter_tree, list_tree, map_tree, paren_tree, maybe_arguments_tree, bases_tree, items_tree}
use Rattle.upon_types.specs.AstPath.{ident_of, string_of, loop_vars_of, first_member, rest_members}
use Rattle.upon_types.specs.Expression.{base, filtered, var, literal, list, mapping, paren, call, arguments}
use Rattle.upon_types.specs.Tree.{raw, inline_expr, include, if_else, for_loop, with}
use Rattle.upon_types.specs.View.{view}
use Rattle.upon_types.specs.declared.types.Span.{Span}
use Rattle.upon_tree.specs.declared.ast.ForLoop.{ForLoop}
use Rattle.upon_tree.specs.declared.ast.IfElse.{IfElse}
use Rattle.upon_tree.specs.declared.ast.Include.{Include}
use Rattle.upon_tree.specs.declared.ast.InlineExpr.{InlineExpr}
use Rattle.upon_tree.specs.declared.ast.Scope.{Scope}
use Rattle.upon_tree.specs.declared.ast.Stmt.{Raw as RawStmt, InlineExpr as InlineStmt, Include as IncludeStmt, IfElse as IfStmt, ForLoop as ForStmt, With as WithStmt, the_lemmas as statement_lemmas}
use Rattle.upon_tree.specs.declared.ast.Stmt.TheViews.{out-ForLoop, out-IfElse, out-Scope, out-With}
use Rattle.upon_tree.specs.declared.ast.With.{With}
use Rattle.upon_tree.specs.declared.ast.expression.Args.{Args}
use Rattle.upon_tree.specs.declared.ast.expression.BaseExpr.{BaseExpr, Var as VarBase, Literal as LiteralBase, List as ListBase, Map as MapBase, Paren as ParenBase, Call as CallBase, the_lemmas}
use Rattle.upon_tree.specs.declared.ast.expression.BaseExpr.TheViews.{out-Args, out-Call, out-Filter, out-List, out-Map, out-Paren}
use Rattle.upon_tree.specs.declared.ast.expression.Call.{Call}
use Rattle.upon_tree.specs.declared.ast.expression.Expr.{Base as BaseOf, Filter as FilterOf}
use Rattle.upon_tree.specs.declared.ast.expression.Filter.{Filter}
use Rattle.upon_tree.specs.declared.ast.expression.List.{List as ListExpr}
use Rattle.upon_types.specs.declared.types.ast.expression.Literal.{Literal}
use Rattle.upon_tree.specs.declared.ast.expression.Map.{Map as MapExpr}
use Rattle.upon_tree.specs.declared.ast.expression.Paren.{Paren}
use Rattle.upon_types.specs.declared.types.ast.path.Var.{Var}

-- ---- the variants of an expression
pub view-Var : (path : Var) → base_tree (VarBase path) ≡ var (first_member path) (rest_members path)
view-Var path = search (rules, the_lemmas)

pub view-Literal : (value : Literal) → base_tree (LiteralBase value) ≡ literal (view value.value) value.span
view-Literal value = search (rules, the_lemmas)

pub view-List : (l : ListExpr) → base_tree (ListBase l) ≡ list_tree l
view-List l = search (rules, the_lemmas)

pub view-Map : (m : MapExpr) → base_tree (MapBase m) ≡ map_tree m
view-Map m = search (rules, the_lemmas)

pub view-Paren : (p : Paren) → base_tree (ParenBase p) ≡ paren_tree p
view-Paren p = search (rules, the_lemmas)

pub view-Call : (c : Call) → base_tree (CallBase c) ≡ call_tree c
view-Call c = search (rules, the_lemmas)

pub view-Base : (b : BaseExpr) → expression_tree (BaseOf b) ≡ base (base_tree b)
view-Base b = search (rules, the_lemmas)

pub view-Filter : (f : Filter) → expression_tree (FilterOf f) ≡ filter_tree f
view-Filter f = search (rules, the_lemmas)

-- ---- the structs of an expression
pub list_tree-out : (l : ListExpr) → list_tree l ≡ list (bases_tree (out-List l).items.items) (out-List l).span
list_tree-out l = search (rules, the_lemmas)

pub map_tree-out : (m : MapExpr) → map_tree m ≡ mapping (items_tree (out-Map m).items.items) (out-Map m).span
map_tree-out m = search (rules, the_lemmas)

pub paren_tree-out : (p : Paren) → paren_tree p ≡ paren (expression_tree (out-Paren p).expr.value) (out-Paren p).span
paren_tree-out p = search (rules, the_lemmas)

pub call_tree-out : (c : Call) → call_tree c ≡ call (ident_of (out-Call c).name) (maybe_arguments_tree (out-Call c).args) (out-Call c).span
call_tree-out c = search (rules, the_lemmas)

pub arguments_tree-out : (a : Args) → arguments_tree a ≡ arguments (bases_tree (out-Args a).values.items) (out-Args a).span
arguments_tree-out a = search (rules, the_lemmas)

pub filter_tree-out : (f : Filter) → filter_tree f ≡ filtered (expression_tree (out-Filter f).receiver.value) (ident_of (out-Filter f).name) (maybe_arguments_tree (out-Filter f).args) (out-Filter f).span
filter_tree-out f = search (rules, the_lemmas)

pub ruleset expression_views = (view-Var, view-Literal, view-List, view-Map, view-Paren, view-Call, view-Base, view-Filter, list_tree-out, map_tree-out, paren_tree-out, call_tree-out, arguments_tree-out, filter_tree-out)

-- ---- the variants of a statement
pub view-Raw : (span : Span) → statement_tree (RawStmt span) ≡ raw span
view-Raw span = search (rules, statement_lemmas)

pub view-InlineExpr : (e : InlineExpr) → statement_tree (InlineStmt e) ≡ inline_expr (expression_tree e.expr) e.span
view-InlineExpr e = search (rules, statement_lemmas)

pub view-Include : (i : Include) → statement_tree (IncludeStmt i) ≡ include (string_of i.name) (option_map expression_tree i.globals)
view-Include i = search (rules, statement_lemmas)

pub view-IfElse : (i : IfElse) → statement_tree (IfStmt i) ≡ if_tree i
view-IfElse i = search (rules, statement_lemmas)

pub view-ForLoop : (f : ForLoop) → statement_tree (ForStmt f) ≡ for_tree f
view-ForLoop f = search (rules, statement_lemmas)

pub view-With : (w : With) → statement_tree (WithStmt w) ≡ with_tree w
view-With w = search (rules, statement_lemmas)

-- ---- the structs of a statement
pub if_tree-out : (i : IfElse) → if_tree i ≡ if_else (out-IfElse i).not (expression_tree (out-IfElse i).cond) (scope_tree (out-IfElse i).then_branch) (else_tree (out-IfElse i).else_branch)
if_tree-out i = search (rules, statement_lemmas)

pub for_tree-out : (f : ForLoop) → for_tree f ≡ for_loop (loop_vars_of (out-ForLoop f).vars) (expression_tree (out-ForLoop f).iterable) (scope_tree (out-ForLoop f).body) (else_tree (out-ForLoop f).else_branch)
for_tree-out f = search (rules, statement_lemmas)

pub with_tree-out : (w : With) → with_tree w ≡ with (expression_tree (out-With w).expr) (ident_of (out-With w).name) (scope_tree (out-With w).body)
with_tree-out w = search (rules, statement_lemmas)

pub scope_tree-out : (s : Scope) → scope_tree s ≡ statements_tree (out-Scope s).stmts.items
scope_tree-out s = search (rules, statement_lemmas)

pub ruleset statement_views = (view-Raw, view-InlineExpr, view-Include, view-IfElse, view-ForLoop, view-With, if_tree-out, for_tree-out, with_tree-out, scope_tree-out)

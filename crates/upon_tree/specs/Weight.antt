-- How large an expression is, with those in it: what falls while one is dropped. One with nothing inside counts 1.
use Rattle.std.specs.Prelude.{ℕ, List, [], ◌∷◌, ◌+◌, map, Option, Some, None, option_map}
use Rattle.upon_tree.specs.declared.ast.expression.Args.{Args, fold-Args}
use Rattle.upon_tree.specs.declared.ast.expression.BaseExpr.{BaseExpr, fold-BaseExpr}
use Rattle.upon_tree.specs.declared.ast.expression.BaseExpr.TheOpen.{BaseExpr-F, Expr-F, Args-F, Call-F, Filter-F, List-F, Map-F, Paren-F}
use Rattle.upon_tree.specs.declared.ast.expression.Call.{Call, fold-Call}
use Rattle.upon_tree.specs.declared.ast.expression.Expr.{Expr, fold-Expr}
use Rattle.upon_tree.specs.declared.ast.expression.Filter.{Filter, fold-Filter}
use Rattle.upon_tree.specs.declared.ast.expression.List.{List as ListExpr, fold-List}
use Rattle.upon_tree.specs.declared.ast.expression.Map.{Map as MapExpr, fold-Map}
use Rattle.upon_tree.specs.declared.ast.expression.Paren.{Paren, fold-Paren}
use Rattle.upon_tree.specs.declared.ast.expression.taking_apart.Parts.{Parts}
use Rattle.upon_tree.specs.declared.ast.expression.taking_apart.Parts.TheVariants.{Leaf, Items, Entries, Inside}
use Rattle.upon_tree.specs.declared.ast.expression.taking_apart.Rest.{Rest}
use Rattle.upon_tree.specs.declared.ast.expression.taking_apart.Work.{Work}
use Rattle.upon_types.specs.declared.types.ast.expression.String.{String as Quoted}

-- the sum of these
abbrev pub total : List ℕ → ℕ
total [] = 0
total (n ∷ ns) = n + total ns

-- the sum of what is at these keys
abbrev pub entries_total : List (Quoted × ℕ) → ℕ
entries_total [] = 0
entries_total (e ∷ es) = e.1 + entries_total es

-- one more than what the arguments are, or 0 if there are none
abbrev pub arguments : Option ℕ → ℕ
arguments None = 0
arguments (Some n) = n + 1

-- one level of each type, where what is inside has been counted already
abbrev pub base_counts : BaseExpr-F ℕ ℕ ℕ ℕ ℕ ℕ ℕ ℕ → ℕ
base_counts (BaseExpr-F.Var path) = 1
base_counts (BaseExpr-F.Literal value) = 1
base_counts (BaseExpr-F.List n) = n
base_counts (BaseExpr-F.Map n) = n
base_counts (BaseExpr-F.Paren n) = n
base_counts (BaseExpr-F.Call n) = n

-- of an expression with filters
abbrev pub expr_counts : Expr-F ℕ ℕ ℕ ℕ ℕ ℕ ℕ ℕ → ℕ
expr_counts (Expr-F.Base n) = n
expr_counts (Expr-F.Filter n) = n

-- of arguments
abbrev pub args_counts : Args-F ℕ ℕ ℕ ℕ ℕ ℕ ℕ ℕ → ℕ
args_counts args = total args.values.items

-- of a call
abbrev pub call_counts : Call-F ℕ ℕ ℕ ℕ ℕ ℕ ℕ ℕ → ℕ
call_counts c = arguments c.args + 1

-- of a filter
abbrev pub filter_counts : Filter-F ℕ ℕ ℕ ℕ ℕ ℕ ℕ ℕ → ℕ
filter_counts f = f.receiver.value + arguments f.args + 1

-- of a list
abbrev pub list_counts : List-F ℕ ℕ ℕ ℕ ℕ ℕ ℕ ℕ → ℕ
list_counts l = total l.items.items + 2

-- of a map
abbrev pub map_counts : Map-F ℕ ℕ ℕ ℕ ℕ ℕ ℕ ℕ → ℕ
map_counts m = entries_total m.items.items + 2

-- of parentheses
abbrev pub paren_counts : Paren-F ℕ ℕ ℕ ℕ ℕ ℕ ℕ ℕ → ℕ
paren_counts p = p.expr.value + 2

-- the size of an expression without a filter, with those in it
unfoldable pub base_weight : BaseExpr → ℕ
base_weight =
    fold-BaseExpr ℕ ℕ ℕ ℕ ℕ ℕ ℕ ℕ base_counts expr_counts args_counts call_counts filter_counts list_counts map_counts
    paren_counts

-- the size of any expression, with those in it
unfoldable pub expr_weight : Expr → ℕ
expr_weight =
    fold-Expr ℕ ℕ ℕ ℕ ℕ ℕ ℕ ℕ base_counts expr_counts args_counts call_counts filter_counts list_counts map_counts
    paren_counts

-- the size of arguments, with the expressions in them
unfoldable pub args_weight : Args → ℕ
args_weight =
    fold-Args ℕ ℕ ℕ ℕ ℕ ℕ ℕ ℕ base_counts expr_counts args_counts call_counts filter_counts list_counts map_counts
    paren_counts

-- the size of a call, with the expressions in it
unfoldable pub call_weight : Call → ℕ
call_weight =
    fold-Call ℕ ℕ ℕ ℕ ℕ ℕ ℕ ℕ base_counts expr_counts args_counts call_counts filter_counts list_counts map_counts
    paren_counts

-- the size of a filter, with the expressions in it
unfoldable pub filter_weight : Filter → ℕ
filter_weight =
    fold-Filter ℕ ℕ ℕ ℕ ℕ ℕ ℕ ℕ base_counts expr_counts args_counts call_counts filter_counts list_counts map_counts
    paren_counts

-- the size of a list, with the expressions in it
unfoldable pub list_weight : ListExpr → ℕ
list_weight =
    fold-List ℕ ℕ ℕ ℕ ℕ ℕ ℕ ℕ base_counts expr_counts args_counts call_counts filter_counts list_counts map_counts
    paren_counts

-- the size of a map, with the expressions in it
unfoldable pub map_weight : MapExpr → ℕ
map_weight =
    fold-Map ℕ ℕ ℕ ℕ ℕ ℕ ℕ ℕ base_counts expr_counts args_counts call_counts filter_counts list_counts map_counts
    paren_counts

-- the size of parentheses, with the expressions in them
unfoldable pub paren_weight : Paren → ℕ
paren_weight =
    fold-Paren ℕ ℕ ℕ ℕ ℕ ℕ ℕ ℕ base_counts expr_counts args_counts call_counts filter_counts list_counts map_counts
    paren_counts

-- the size of arguments, if there are some, with the expressions in them
abbrev pub maybe_weight : Option Args → ℕ
maybe_weight args = arguments (option_map args_weight args)

-- the size of expressions in a row, with those in them
abbrev pub items_weight : List BaseExpr → ℕ
items_weight bs = total (map base_weight bs)

-- the size of keys with expressions, with those in them
abbrev pub entries_weight : List (Quoted × BaseExpr) → ℕ
entries_weight es = entries_total (map (λ e. (e.0, base_weight e.1)) es)

-- the size of an expression that was opened, by the parts that it has
abbrev pub parts_weight : Parts → ℕ
parts_weight Leaf = 1
parts_weight (Items items) = items_weight items.items + 2
parts_weight (Entries entries) = entries_weight entries.items + 2
parts_weight (Inside expr) = expr_weight expr.value + 2

-- the size of both rows of expressions that were left behind
abbrev pub ways_weight : BaseExpr → Expr → ℕ
ways_weight bases exprs = base_weight bases + expr_weight exprs

-- the size of all that is yet to be dropped: what is in hand, and both rows that were left behind
abbrev pub work_weight : Work → ℕ
work_weight work = expr_weight work.hand + ways_weight work.bases work.exprs

-- the size of all that is yet to be dropped, where nothing is in hand
abbrev pub rest_weight : Rest → ℕ
rest_weight rest = ways_weight rest.bases rest.exprs

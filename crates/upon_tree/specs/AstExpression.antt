-- What the expressions of the code denote.
use Rattle.std.specs.Prelude.{List, [], ◌∷◌, map, Option, Some, None, option_map}
use Rattle.upon_types.specs.AstPath.{ident_of, string_of, first_member, rest_members}
use Rattle.upon_types.specs.Expression.{Expression, base, filtered, Base, var, literal, list, mapping, paren, call, Bases, no_bases, base_then, Items, no_items, item_then, Arguments, no_arguments, arguments}
use Rattle.upon_types.specs.View.{view}
use Rattle.upon_tree.specs.declared.ast.expression.Args.{Args, fold-Args}
use Rattle.upon_tree.specs.declared.ast.expression.BaseExpr.{BaseExpr, fold-BaseExpr}
use Rattle.upon_tree.specs.declared.ast.expression.BaseExpr.TheOpen.{BaseExpr-F, Expr-F, Args-F, Call-F, Filter-F, List-F, Map-F, Paren-F}
use Rattle.upon_tree.specs.declared.ast.expression.Call.{Call, fold-Call}
use Rattle.upon_tree.specs.declared.ast.expression.Expr.{Expr, fold-Expr}
use Rattle.upon_tree.specs.declared.ast.expression.Filter.{Filter, fold-Filter}
use Rattle.upon_tree.specs.declared.ast.expression.List.{List as ListExpr, fold-List}
use Rattle.upon_tree.specs.declared.ast.expression.Map.{Map as MapExpr, fold-Map}
use Rattle.upon_tree.specs.declared.ast.expression.Paren.{Paren, fold-Paren}
use Rattle.upon_types.specs.declared.types.ast.expression.String.{String as Quoted}

-- expressions one after the other
abbrev pub bases_from : List Base → Bases
bases_from [] = no_bases
bases_from (b ∷ bs) = base_then b (bases_from bs)

-- the entries of a map
abbrev pub items_from : List (Quoted × Base) → Items
items_from [] = no_items
items_from (item ∷ items) = item_then (string_of item.0) item.1 (items_from items)

-- arguments, if there are some
abbrev pub arguments_from : Option Arguments → Arguments
arguments_from None = no_arguments
arguments_from (Some args) = args

-- one level of each type, where what is inside has been seen already
abbrev pub base_level : BaseExpr-F Base Expression Arguments Base Expression Base Base Base → Base
base_level (BaseExpr-F.Var path) = var (first_member path) (rest_members path)
base_level (BaseExpr-F.Literal value) = literal (view value.value) value.span
base_level (BaseExpr-F.List b) = b
base_level (BaseExpr-F.Map b) = b
base_level (BaseExpr-F.Paren b) = b
base_level (BaseExpr-F.Call b) = b

-- of an expression with filters
abbrev pub expression_level : Expr-F Base Expression Arguments Base Expression Base Base Base → Expression
expression_level (Expr-F.Base b) = base b
expression_level (Expr-F.Filter e) = e

-- of arguments
abbrev pub arguments_level : Args-F Base Expression Arguments Base Expression Base Base Base → Arguments
arguments_level args = arguments (bases_from args.values.items) args.span

-- of a call
abbrev pub call_level : Call-F Base Expression Arguments Base Expression Base Base Base → Base
call_level c = call (ident_of c.name) (arguments_from c.args) c.span

-- of a filter
abbrev pub filter_level : Filter-F Base Expression Arguments Base Expression Base Base Base → Expression
filter_level f = filtered f.receiver.value (ident_of f.name) (arguments_from f.args) f.span

-- of a list
abbrev pub list_level : List-F Base Expression Arguments Base Expression Base Base Base → Base
list_level l = list (bases_from l.items.items) l.span

-- of a map
abbrev pub map_level : Map-F Base Expression Arguments Base Expression Base Base Base → Base
map_level m = mapping (items_from m.items.items) m.span

-- of parentheses
abbrev pub paren_level : Paren-F Base Expression Arguments Base Expression Base Base Base → Base
paren_level p = paren p.expr.value p.span

-- the whole of each type
abbrev pub base_tree : BaseExpr → Base
base_tree =
    fold-BaseExpr Base Expression Arguments Base Expression Base Base Base base_level expression_level arguments_level
    call_level filter_level list_level map_level paren_level

-- an expression with filters
abbrev pub expression_tree : Expr → Expression
expression_tree =
    fold-Expr Base Expression Arguments Base Expression Base Base Base base_level expression_level arguments_level
    call_level filter_level list_level map_level paren_level

-- arguments
abbrev pub arguments_tree : Args → Arguments
arguments_tree =
    fold-Args Base Expression Arguments Base Expression Base Base Base base_level expression_level arguments_level
    call_level filter_level list_level map_level paren_level

-- a call
abbrev pub call_tree : Call → Base
call_tree =
    fold-Call Base Expression Arguments Base Expression Base Base Base base_level expression_level arguments_level
    call_level filter_level list_level map_level paren_level

-- a filter
abbrev pub filter_tree : Filter → Expression
filter_tree =
    fold-Filter Base Expression Arguments Base Expression Base Base Base base_level expression_level arguments_level
    call_level filter_level list_level map_level paren_level

-- a list
abbrev pub list_tree : ListExpr → Base
list_tree =
    fold-List Base Expression Arguments Base Expression Base Base Base base_level expression_level arguments_level
    call_level filter_level list_level map_level paren_level

-- a map
abbrev pub map_tree : MapExpr → Base
map_tree =
    fold-Map Base Expression Arguments Base Expression Base Base Base base_level expression_level arguments_level
    call_level filter_level list_level map_level paren_level

-- parentheses
abbrev pub paren_tree : Paren → Base
paren_tree =
    fold-Paren Base Expression Arguments Base Expression Base Base Base base_level expression_level arguments_level
    call_level filter_level list_level map_level paren_level

-- arguments, if there may be none
abbrev pub maybe_arguments_tree : Option Args → Arguments
maybe_arguments_tree args = arguments_from (option_map arguments_tree args)

-- expressions in a row, and keys with expressions
abbrev pub bases_tree : List BaseExpr → Bases
bases_tree bs = bases_from (map base_tree bs)

-- the entries of a map
abbrev pub items_tree : List (Quoted × BaseExpr) → Items
items_tree items = items_from (map (λ item. (item.0, base_tree item.1)) items)

-- The weight of an expression, one level at a time, and what a step of taking apart does to it.
use Rattle.std.proofs.Common.{◌≡◌, ℕ, zero, suc, ◌+◌, ◌*◌, ◌<◌, ◌≤◌, List, [], ◌∷◌, ◌++◌, rules, arith, get_or, length}
use Rattle.std.proofs.lemmas.Nat.{mul-le}
use Rattle.std.proofs.Math.ListN.{set}
use Rattle.std.specs.Box.{with_value}
use Rattle.upon_tree.specs.Weight.{base_weight, expr_weight, args_weight, maybe_weight, items_weight, entries_weight}
use Rattle.upon_tree.specs.declared.ast.expression.Args.{Args}
use Rattle.upon_tree.specs.declared.ast.expression.BaseExpr.{BaseExpr, Var as VarBase, Literal as LiteralBase, List as ListBase, Map as MapBase, Paren as ParenBase, Call as CallBase, the_lemmas}
use Rattle.upon_tree.specs.declared.ast.expression.BaseExpr.TheViews.{out-Args, out-Call, out-Filter, out-List, out-Map, out-Paren, roll-Filter}
use Rattle.upon_tree.specs.declared.ast.expression.Call.{Call}
use Rattle.upon_tree.specs.declared.ast.expression.Expr.{Expr, Base as BaseOf, Filter as FilterOf}
use Rattle.upon_tree.specs.declared.ast.expression.Filter.{Filter}
use Rattle.upon_tree.specs.declared.ast.expression.List.{List as ListExpr}
use Rattle.upon_tree.specs.declared.ast.expression.Map.{Map as MapExpr}
use Rattle.upon_tree.specs.declared.ast.expression.Paren.{Paren}
use Rattle.upon_types.specs.declared.types.ast.expression.Literal.{Literal}
use Rattle.upon_types.specs.declared.types.ast.expression.String.{String as Quoted}
use Rattle.upon_types.specs.declared.types.ast.path.Var.{Var}

-- ---- one level
pub weight-Var : (path : Var) → base_weight (VarBase path) ≡ 1
unfolding base_weight
weight-Var path = search (rules, the_lemmas)

pub weight-Literal : (value : Literal) → base_weight (LiteralBase value) ≡ 1
unfolding base_weight
weight-Literal value = search (rules, the_lemmas)

pub weight-List : (l : ListExpr) → base_weight (ListBase l) ≡ items_weight (out-List l).items.items + 2
unfolding base_weight
weight-List l = search (rules, the_lemmas)

pub weight-Map : (m : MapExpr) → base_weight (MapBase m) ≡ entries_weight (out-Map m).items.items + 2
unfolding base_weight
weight-Map m = search (rules, the_lemmas)

pub weight-Paren : (p : Paren) → base_weight (ParenBase p) ≡ expr_weight (out-Paren p).expr.value + 2
unfolding base_weight expr_weight
weight-Paren p = search (rules, the_lemmas)

pub weight-Call : (c : Call) → base_weight (CallBase c) ≡ maybe_weight (out-Call c).args + 1
unfolding base_weight args_weight
weight-Call c = search (rules, the_lemmas)

pub weight-Base : (b : BaseExpr) → expr_weight (BaseOf b) ≡ base_weight b
unfolding base_weight expr_weight
weight-Base b = search (rules, the_lemmas)

pub weight-Filter : (f : Filter) → expr_weight (FilterOf f) ≡ expr_weight (out-Filter f).receiver.value + maybe_weight (out-Filter f).args + 1
unfolding expr_weight args_weight
weight-Filter f = search (rules, the_lemmas)

pub weight-Args : (a : Args) → args_weight a ≡ items_weight (out-Args a).values.items
unfolding base_weight args_weight
weight-Args a = search (rules, the_lemmas)

-- a filter into which another expression was put
pub weight-over : (f : Filter) (e : Expr) → expr_weight (FilterOf (roll-Filter (record (out-Filter f) { receiver = with_value (out-Filter f).receiver e }))) ≡ expr_weight e + maybe_weight (out-Filter f).args + 1
unfolding expr_weight args_weight
weight-over f e = search (rules, the_lemmas)

pub ruleset weights = (weight-Var, weight-Literal, weight-List, weight-Map, weight-Paren, weight-Call, weight-Base, weight-Filter, weight-Args)

-- ---- the measure: first the weight of all, then that of what is in hand
unfoldable pub measure : ℕ → ℕ → ℕ
measure now left = (now + left) * (now + left) + now

square_less : (a b n : ℕ) → a < b → n ≤ a → a * a + n < b * b
square_less a b n less small =
    omega (arith, mul-le (a + 1) (a + 1) b b (omega arith) (omega arith))

pub measure-smaller_hand : (now left now' left' : ℕ) → now' + left' ≤ now + left → now' < now → measure now' left' < measure now left
unfolding measure
measure-smaller_hand now left now' left' within less =
    omega (arith, mul-le (now' + left') (now' + left') (now + left) (now + left) within within)

pub measure-smaller_both : (now left now' left' : ℕ) → now' + left' < now + left → measure now' left' < measure now left
unfolding measure
measure-smaller_both now left now' left' less = omega (arith, square_less (now' + left') (now + left) now' less (omega arith))

-- ---- the items of a list
pub items_weight-append : (vs ws : List BaseExpr) → items_weight (vs ++ ws) ≡ items_weight vs + items_weight ws
items_weight-append [] ws = omega arith
items_weight-append (v ∷ vs) ws = omega (arith, items_weight-append vs ws)

pub entries_weight-append : (vs ws : List (Quoted × BaseExpr)) → entries_weight (vs ++ ws) ≡ entries_weight vs + entries_weight ws
entries_weight-append [] ws = omega arith
entries_weight-append (v ∷ vs) ws = omega (arith, entries_weight-append vs ws)

pub items_weight-set : (vs : List BaseExpr) (i : ℕ) (w d : BaseExpr) → i < length vs → items_weight (set vs i w) + base_weight (get_or vs i d) ≡ items_weight vs + base_weight w
items_weight-set [] i w d h = absurd (omega arith)
items_weight-set (v ∷ vs) zero w d h = omega arith
items_weight-set (v ∷ vs) (suc i) w d h = omega (arith, items_weight-set vs i w d (omega arith))

pub entries_weight-set : (vs : List (Quoted × BaseExpr)) (i : ℕ) (w d : Quoted × BaseExpr) → i < length vs → entries_weight (set vs i w) + base_weight (get_or vs i d).1 ≡ entries_weight vs + base_weight w.1
entries_weight-set [] i w d h = absurd (omega arith)
entries_weight-set (v ∷ vs) zero w d h = omega arith
entries_weight-set (v ∷ vs) (suc i) w d h = omega (arith, entries_weight-set vs i w d (omega arith))

pub items_weight-part : (vs : List BaseExpr) (i : ℕ) (d : BaseExpr) → i < length vs → base_weight (get_or vs i d) ≤ items_weight vs
items_weight-part [] i d h = absurd (omega arith)
items_weight-part (v ∷ vs) zero d h = omega arith
items_weight-part (v ∷ vs) (suc i) d h = omega (arith, items_weight-part vs i d (omega arith))

pub entries_weight-part : (vs : List (Quoted × BaseExpr)) (i : ℕ) (d : Quoted × BaseExpr) → i < length vs → base_weight (get_or vs i d).1 ≤ entries_weight vs
entries_weight-part [] i d h = absurd (omega arith)
entries_weight-part (v ∷ vs) zero d h = omega arith
entries_weight-part (v ∷ vs) (suc i) d h = omega (arith, entries_weight-part vs i d (omega arith))

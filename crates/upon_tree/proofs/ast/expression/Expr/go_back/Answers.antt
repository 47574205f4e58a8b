use Rattle.std.proofs.Common.{◌+◌, ◌≤◌, ◌∙◌, IfSome, arith, sym, ap, subst, ℕ}
use Rattle.upon_tree.specs.Weight.{expr_weight, work_weight}
use Rattle.upon_tree.specs.declared.ast.expression.taking_apart.Work.{Work}
use Rattle.upon_tree.proofs.Weights.{weight-Base, weight-Filter}
use Rattle.upon_tree.proofs.ast.expression.Expr.go_back.Goals as goal

pub returns-in-Base : goal.returns-in-Base
returns-in-Base c =
    let is = ap expr_weight c.in-Base.is ∙ weight-Base c.in-Base.base in
    subst (λ (n : ℕ). IfSome c.go_back_to_expr.result (λ (next : Work). work_weight next ≤ n + 1)) (sym is) c.go_back_to_expr.ensures

pub returns-in-Filter : goal.returns-in-Filter
returns-in-Filter c =
    let was = ap expr_weight c.in-Filter.is ∙ weight-Filter c.in-Filter.filter in
    omega (arith, was, weight-Base c.list_of_arguments.result, c.list_of_arguments.ensures, c.leaf.ensures, ap expr_weight c.into_inner.ensures)

use Rattle.std.proofs.Common.{◌+◌, ◌<◌, ◌≤◌, ◌∙◌, IfOk, IfErr, arith, sym, ap, subst, ℕ}
use Rattle.upon_tree.specs.Weight.{expr_weight, work_weight, rest_weight, ways_weight}
use Rattle.upon_tree.specs.declared.ast.expression.taking_apart.Rest.{Rest}
use Rattle.upon_tree.specs.declared.ast.expression.taking_apart.Work.{Work}
use Rattle.upon_tree.proofs.Weights.{weight-Base, weight-Filter, weight-over}
use Rattle.upon_tree.proofs.ast.expression.Expr.go_down.Goals as goal

pub returns-in-Base-clause-same : goal.returns-in-Base-clause-same
returns-in-Base-clause-same c =
    let is = ap expr_weight c.in-Base.is ∙ weight-Base c.in-Base.base in
    subst (λ (n : ℕ). IfOk c.go_down.result (λ (next : Work). work_weight next ≤ n + ways_weight c.args.bases c.args.exprs)) (sym is) c.go_down.ensures.same

pub returns-in-Base-clause-inside : goal.returns-in-Base-clause-inside
returns-in-Base-clause-inside c =
    let is = ap expr_weight c.in-Base.is ∙ weight-Base c.in-Base.base in
    subst (λ (n : ℕ). IfOk c.go_down.result (λ (next : Work). expr_weight next.hand < n)) (sym is) c.go_down.ensures.inside

pub returns-in-Base-clause-left : goal.returns-in-Base-clause-left
returns-in-Base-clause-left c =
    let is = ap expr_weight c.in-Base.is ∙ weight-Base c.in-Base.base in
    subst (λ (n : ℕ). IfErr c.go_down.result (λ (rest : Rest). rest_weight rest < n + ways_weight c.args.bases c.args.exprs)) (sym is) c.go_down.ensures.left

pub returns-in-Filter-clause-same : goal.returns-in-Filter-clause-same
returns-in-Filter-clause-same c =
    let was = ap expr_weight c.in-Filter.is ∙ weight-Filter c.in-Filter.filter in
    omega (arith, was, weight-over c.in-Filter.filter c.replace-hand.new.dest, ap expr_weight c.deref_mut.ensures.value, ap expr_weight c.replace-hand.ensures.value, ap expr_weight c.replace-hand.ensures.after)

pub returns-in-Filter-clause-inside : goal.returns-in-Filter-clause-inside
returns-in-Filter-clause-inside c =
    let was = ap expr_weight c.in-Filter.is ∙ weight-Filter c.in-Filter.filter in
    omega (arith, was, ap expr_weight c.deref_mut.ensures.value, ap expr_weight c.replace-hand.ensures.value)

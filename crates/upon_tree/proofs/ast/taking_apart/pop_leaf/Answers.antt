use Rattle.std.proofs.Common.{◌≡◌, ◌+◌, ◌∙◌, ◌∷◌, [], arith, ap}
use Rattle.upon_tree.specs.StatementWeight.{stmt_weight, stmts_weight}
use Rattle.upon_tree.proofs.StatementWeights.{stmts_weight-append}
use Rattle.upon_tree.proofs.ast.taking_apart.pop_leaf.Goals as goal

pub returns-in-Some-pop-clause-within : goal.returns-in-Some-pop-clause-within
returns-in-Some-pop-clause-within c =
    let parts : stmts_weight c.args.stmts.now.items ≡ stmts_weight c.pop.new.self.items + (stmt_weight c.in-Some-pop.stmt + 0) = ap stmts_weight c.in-Some-pop.ensures.items ∙ stmts_weight-append c.pop.new.self.items (c.in-Some-pop.stmt ∷ []) in
    omega (arith, parts)

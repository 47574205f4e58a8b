use Rattle.std.proofs.Common.{◌≡◌, ◌+◌, ◌∙◌, ◌∷◌, [], arith, sym, ap}
use Rattle.upon_tree.specs.StatementWeight.{stmt_weight, stmts_weight, bodies_weight}
use Rattle.upon_tree.proofs.StatementWeights.{weight-Raw, stmts_weight-append}
use Rattle.upon_tree.proofs.ast.Stmt.go_back.Goals as goal

pub returns-in-Some : goal.returns-in-Some
returns-in-Some c =
    let was : stmt_weight c.args.self ≡ stmts_weight c.in-One.stmts.items + 2 = sym c.into_bodies.ensures ∙ ap bodies_weight c.in-One.is in
    let parts : stmts_weight c.in-One.stmts.items ≡ stmts_weight c.pop.new.self.items + (stmt_weight c.in-Some.above + 0) = ap stmts_weight c.in-Some.ensures.items ∙ stmts_weight-append c.pop.new.self.items (c.in-Some.above ∷ []) in
    omega (arith, was, parts)

pub returns-in-Some-pop : goal.returns-in-Some-pop
returns-in-Some-pop c =
    let was : stmt_weight c.args.self ≡ stmts_weight c.in-Two.stmts.items + stmts_weight c.in-Two.others.items + 3 = sym c.into_bodies.ensures ∙ ap bodies_weight c.in-Two.is in
    let parts : stmts_weight c.in-Two.stmts.items ≡ stmts_weight c.pop-in-Two.new.self.items + (stmt_weight c.in-Some-pop.above + 0) = ap stmts_weight c.in-Some-pop.ensures.items ∙ stmts_weight-append c.pop-in-Two.new.self.items (c.in-Some-pop.above ∷ []) in
    omega (arith, was, parts)

pub returns-in-None-pop : goal.returns-in-None-pop
returns-in-None-pop c =
    let was : stmt_weight c.args.self ≡ stmts_weight c.in-Two.stmts.items + stmts_weight c.in-Two.others.items + 3 = sym c.into_bodies.ensures ∙ ap bodies_weight c.in-Two.is in
    omega (arith, was, weight-Raw)

use Rattle.std.proofs.Common.{◌-◌, ◌<◌, arith, vec_len, length, ap}
use Rattle.upon_tree.specs.StatementWeight.{stmt_weight}
use Rattle.upon_tree.proofs.StatementWeights.{stmts_weight-set, stmts_weight-part}
use Rattle.upon_tree.proofs.ast.taking_apart.hang.Goals as goal

pub returns-in-Some-clause-last : goal.returns-in-Some-clause-last
returns-in-Some-clause-last c =
    let stmts = c.drop_leaves.new.stmts in
    let at : vec_len stmts - 1 < length stmts.items = omega (arith, c.in-Some.ensures.item) in
    let set = stmts_weight-set stmts.items (vec_len stmts - 1) c.replace.new.dest c.in-Some.place.now at in
    omega (arith, set, c.drop_leaves.ensures, ap stmt_weight c.in-Some.ensures.value, ap stmt_weight c.replace.ensures.value, ap stmt_weight c.replace.ensures.after)

pub returns-in-Some-clause-part : goal.returns-in-Some-clause-part
returns-in-Some-clause-part c =
    let stmts = c.drop_leaves.new.stmts in
    let at : vec_len stmts - 1 < length stmts.items = omega (arith, c.in-Some.ensures.item) in
    omega (arith, stmts_weight-part stmts.items (vec_len stmts - 1) c.in-Some.place.now at, c.drop_leaves.ensures, ap stmt_weight c.in-Some.ensures.value, ap stmt_weight c.replace.ensures.value)

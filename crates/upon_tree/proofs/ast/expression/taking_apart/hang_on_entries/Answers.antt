use Rattle.std.proofs.Common.{◌-◌, ◌<◌, arith, vec_len, length, ap}
use Rattle.upon_tree.specs.Weight.{base_weight}
use Rattle.upon_tree.specs.declared.ast.expression.BaseExpr.{BaseExpr}
use Rattle.upon_types.specs.declared.types.ast.expression.String.{String as Quoted}
use Rattle.upon_tree.proofs.Weights.{entries_weight-set, entries_weight-part}
use Rattle.upon_tree.proofs.ast.expression.taking_apart.hang_on_entries.Goals as goal

pub returns-in-Some-clause-last : goal.returns-in-Some-clause-last
returns-in-Some-clause-last c =
    let entries = c.drop_last_entries.new.entries in
    let at : vec_len entries - 1 < length entries.items = omega (arith, c.in-Some.ensures.item) in
    let is = ap (λ (e : Quoted × BaseExpr). base_weight e.1) c.in-Some.ensures.value in
    let set = entries_weight-set entries.items (vec_len entries - 1) (c.in-Some.entry.now.0, c.replace.new.dest) c.in-Some.entry.now at in
    omega (arith, set, c.drop_last_entries.ensures, is, ap base_weight c.replace.ensures.value, ap base_weight c.replace.ensures.after)

pub returns-in-Some-clause-part : goal.returns-in-Some-clause-part
returns-in-Some-clause-part c =
    let entries = c.drop_last_entries.new.entries in
    let at : vec_len entries - 1 < length entries.items = omega (arith, c.in-Some.ensures.item) in
    let is = ap (λ (e : Quoted × BaseExpr). base_weight e.1) c.in-Some.ensures.value in
    omega (arith, c.drop_last_entries.ensures, entries_weight-part entries.items (vec_len entries - 1) c.in-Some.entry.now at, is, ap base_weight c.replace.ensures.value)

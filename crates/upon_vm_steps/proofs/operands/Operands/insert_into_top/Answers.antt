use Rattle.std.proofs.Common.{◌≡◌, ◌+◌, ◌-◌, length, arith, refl, ◌∙◌}
use Rattle.std.proofs.Math.ListN.{set}
use Rattle.std.proofs.lemmas.List.{length-set}
use Rattle.upon_types.specs.AstPath.{string_of}
use Rattle.upon_types.specs.Cow.{cow_view}
use Rattle.upon_types.specs.View.{view}
use Rattle.upon_vm_steps.specs.Operands.{operands_of}
use Rattle.upon_vm_steps.proofs.Rows.{entry_on_top, top_put}
use Rattle.upon_vm_steps.proofs.operands.Operands.insert_into_top.Goals as goal

pub returns : goal.returns
returns c =
    λ at.
    let o = c.args.self.now in
    let values = o.values.items in
    let k = c.len-len.result - 1 in
    let old = c.index_mut.result.now in
    let new = c.insert_into.new.map in
    let count : k + 1 ≡ length values = omega (arith, c.if-len-eq0.false, c.len-len.ensures, o.values.ok.0) in
    let on_top = top_put values (set values k new) o.spans.items k old new o.paired (length-set values k new ∙ o.paired) count c.index_mut.ensures.value refl in
    entry_on_top c.insert_into.result (view c.args.value) at on_top.0 (operands_of o) _ on_top.1 (cow_view old) (cow_view new) on_top.2 on_top.3 (string_of c.args.key.now) (c.insert_into.ensures on_top.0 on_top.1)

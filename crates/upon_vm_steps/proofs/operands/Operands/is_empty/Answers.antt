use Rattle.std.proofs.Common.{◌==◌, sym, ap, ◌∙◌}
use Rattle.upon_vm_steps.proofs.Rows.{operands-length}
use Rattle.upon_vm_steps.proofs.operands.Operands.is_empty.Goals as goal

pub returns : goal.returns
returns c =
    let o = c.args.self.now in
    c.is_empty.ensures ∙ ap (λ n. n == 0) (o.values.ok.0 ∙ sym (operands-length o.values.items o.spans.items o.paired))

use Rattle.upon_std.proofs.CuttingLemmas.Sums.{gives_sum}
use Rattle.upon_std.proofs.cutting.parts.SumCall1LResultResultI64StringAllocError.call.Goals as goal

pub returns : goal.returns
returns c = gives_sum c.sum.result c.args.first.now c.sum.ensures

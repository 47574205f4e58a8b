use Rattle.upon_types.specs.Val.{Val}
use Rattle.upon_std.proofs.OrderingLemmas.Giving.{gives_sorted}
use Rattle.upon_std.proofs.ordering.calls.SortCall1LResultResultVecValueStringAllocError.call.Goals as goal

pub returns : goal.returns
returns c = gives_sorted c.sorted.result (λ (v : Val). v) c.args.first.now c.sorted.ensures

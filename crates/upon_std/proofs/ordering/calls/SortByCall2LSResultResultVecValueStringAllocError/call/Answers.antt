use Rattle.upon_std.specs.Basic.Items.{value_at_key}
use Rattle.upon_std.proofs.OrderingLemmas.Giving.{gives_sorted}
use Rattle.upon_std.proofs.ordering.calls.SortByCall2LSResultResultVecValueStringAllocError.call.Goals as goal

pub returns : goal.returns
returns c = gives_sorted c.sorted.result (value_at_key c.args.second.now) c.args.first.now c.sorted.ensures

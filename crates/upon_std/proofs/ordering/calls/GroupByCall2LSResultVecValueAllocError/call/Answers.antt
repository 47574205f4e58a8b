use Rattle.upon_std.specs.Ordering.Grouping.{grouped}
use Rattle.upon_std.specs.Basic.Items.{value_at_key}
use Rattle.upon_std.proofs.OrderingLemmas.Giving.{gives_values}
use Rattle.upon_std.proofs.ordering.calls.GroupByCall2LSResultVecValueAllocError.call.Goals as goal

pub returns : goal.returns
returns c = gives_values c.grouped.result (grouped (value_at_key c.args.second.now)) c.args.first.now c.grouped.ensures

use Rattle.upon_types.specs.Same.{val_eq}
use Rattle.upon_std.specs.Ordering.Distinct.{distinct}
use Rattle.upon_std.proofs.OrderingLemmas.Giving.{gives_values}
use Rattle.upon_std.proofs.ordering.calls.UniqueCall1LResultVecValueAllocError.call.Goals as goal

pub returns : goal.returns
returns c = gives_values c.distinct.result (distinct val_eq) c.args.first.now c.distinct.ensures

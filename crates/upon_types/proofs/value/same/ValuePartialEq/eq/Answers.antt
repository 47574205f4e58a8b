use Rattle.std.proofs.Common.{◌∙◌}
use Rattle.upon_types.specs.View.{view}
use Rattle.upon_types.proofs.ValueEquality.{part_by_part}
use Rattle.upon_types.proofs.value.same.ValuePartialEq.eq.Goals as goal

pub returns : goal.returns
returns c = c.same.ensures ∙ part_by_part (view c.args.self.now) (view c.args.other.now)

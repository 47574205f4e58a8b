use Rattle.std.proofs.Common.{arith}
use Rattle.std.proofs.lemmas.Grind.{common_steps}
use Rattle.upon_types.specs.View.{view}
use Rattle.upon_std.proofs.OrderingLemmas.PartSpelling.{spelling_by_parts}
use Rattle.upon_std.proofs.ordering.spelling.spelling.Goals as goal

pub returns : goal.returns
returns c = grind (arith, common_steps, spelling_by_parts (view c.args.value.now))

use Rattle.upon_meaning_spec.proofs.NegatedCondition.{negated_condition}
use Rattle.upon_meaning_spec.proofs.laws.negated_condition.Goals as goal

pub returns : goal.returns
returns c given = negated_condition

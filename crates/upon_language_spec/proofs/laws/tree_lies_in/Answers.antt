use Rattle.upon_language_spec.proofs.Spans.Trees.{tree_lies_in}
use Rattle.upon_language_spec.proofs.laws.tree_lies_in.Goals as goal

pub returns : goal.returns
returns c = tree_lies_in

use Rattle.upon_before_spec.proofs.TreeKept.{tree_kept, tree_was}
use Rattle.upon_before_spec.proofs.laws.tree_kept.Goals as goal

pub returns : goal.returns
returns c = record { now = tree_kept; before = tree_was }

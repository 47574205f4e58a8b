use Rattle.std.proofs.Common.{◌≡◌, vec_len}
use Rattle.upon_tree.specs.Statements.{builder_state, tree_block_ended}
use Rattle.upon_tree.proofs.statements.TreeBuilder.end.Given as goal

abbrev pub invariant-ends : goal.invariant-ends
invariant-ends l = tree_block_ended (builder_state l.self) ≡ tree_block_ended (builder_state l.initial.self)

abbrev pub decreases-ends : goal.decreases-ends
decreases-ends l = vec_len l.self.blocks

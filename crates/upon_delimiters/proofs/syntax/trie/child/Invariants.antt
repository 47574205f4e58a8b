use Rattle.std.proofs.Common.{◌≡◌, ◌<◌, length}
use Rattle.upon_delimiters.specs.Nodes.{child_of, sibling_with}
use Rattle.upon_delimiters.proofs.syntax.trie.child.Given as goal

abbrev pub invariant-loop-at : goal.invariant-loop-at
invariant-loop-at l = record {
  inside : l.at < length l.nodes;
  found : sibling_with l.nodes l.at l.byte ≡ child_of l.nodes l.of l.byte;
}

abbrev pub decreases-loop-at : goal.decreases-loop-at
decreases-loop-at l = l.at

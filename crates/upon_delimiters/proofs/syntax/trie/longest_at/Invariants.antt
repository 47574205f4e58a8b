use Rattle.std.proofs.Common.{◌-◌, ◌<◌, List, length, take, drop}
use Rattle.upon_language_spec.specs.Search.{DelimiterText}
use Rattle.upon_delimiters.specs.Nodes.{LeadsTo}
use Rattle.upon_delimiters.specs.Trie.{IsTrieOf, LongestShorter}
use Rattle.upon_delimiters.proofs.syntax.trie.longest_at.Given as goal

abbrev pub invariant-loop-end : goal.invariant-loop-end
invariant-loop-end l = record {
  inside : l.node < length l.nodes;
  leads : LeadsTo l.nodes 0 (take (l.end - l.at) (drop l.at l.source)) l.node;
  longest : (delimiters : List DelimiterText) → IsTrieOf (length delimiters) delimiters l.nodes
      → LongestShorter (l.end - l.at) delimiters l.source l.at l.longest;
}

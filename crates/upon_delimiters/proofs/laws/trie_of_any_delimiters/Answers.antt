use Rattle.upon_delimiters.proofs.TrieOf.{nodes_of-trie}
use Rattle.upon_delimiters.proofs.laws.trie_of_any_delimiters.Goals as goal

pub returns : goal.returns
returns c = nodes_of-trie

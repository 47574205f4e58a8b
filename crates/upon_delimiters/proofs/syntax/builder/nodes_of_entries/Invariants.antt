use Rattle.std.proofs.Common.{◌≡◌, map, drop}
use Rattle.upon_delimiters.specs.Entries.{delimiter_text_of}
use Rattle.upon_delimiters.specs.Trie.{IsTrieOf}
use Rattle.upon_delimiters.specs.Grown.{with_texts, nodes_of}
use Rattle.upon_delimiters.proofs.syntax.builder.nodes_of_entries.Given as goal

abbrev pub invariant-loop-i : goal.invariant-loop-i
invariant-loop-i l =
    let ds = map delimiter_text_of l.entries.items in
    record {
      trie : IsTrieOf l.i ds l.nodes.items;
      nodes : with_texts l.nodes.items l.i (drop l.i ds) ≡ nodes_of ds;
    }

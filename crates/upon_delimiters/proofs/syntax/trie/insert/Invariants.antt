use Rattle.std.proofs.Common.{◌≡◌, ◌<◌, length, drop}
use Rattle.upon_delimiters.specs.Nodes.{IsLinked}
use Rattle.upon_delimiters.specs.Grown.{with_path, path_end}
use Rattle.upon_delimiters.proofs.syntax.trie.insert.Given as goal

abbrev pub invariant-loop-byte : goal.invariant-loop-byte
invariant-loop-byte l = record {
  linked : IsLinked l.nodes.items;
  inside : l.at < length l.nodes.items;
  nodes : with_path l.nodes.items l.at (drop l.byte-index l.text) ≡ with_path l.fn.nodes.items 0 l.text;
  ends : path_end l.nodes.items l.at (drop l.byte-index l.text) ≡ path_end l.fn.nodes.items 0 l.text;
}

-- How a trie is made, text after text.
use Rattle.std.specs.Prelude.{ℕ, ◌+◌, ◌==◌, List, [], ◌∷◌, ◌++◌, None, Some, cond, is_some, length, slice_set}
use Rattle.upon_language_spec.specs.Search.{DelimiterText}
use Rattle.upon_delimiters.specs.declared.syntax.trie.Node.{Node}
use Rattle.upon_delimiters.specs.Nodes.{blank, node_at, child_of}

-- a list of nodes with one node more: a child of a node by a byte, before the children that it had
unfoldable pub grown : List Node → ℕ → ℕ → List Node
grown nodes n b =
    let longer = nodes ++ record { byte = b; child = 0; sibling = (node_at nodes n).child; pair = None } ∷ [] in
    slice_set longer n (record (node_at longer n) { child = length nodes })

-- a list of nodes where a node has a child by a byte
abbrev pub with_child : List Node → ℕ → ℕ → List Node
with_child nodes n b = cond (child_of nodes n b == 0) (grown nodes n b) nodes

-- that child
abbrev pub made_child : List Node → ℕ → ℕ → ℕ
made_child nodes n b = cond (child_of nodes n b == 0) (length nodes) (child_of nodes n b)

-- a list of nodes where a text leads on from a node
abbrev pub with_path : List Node → ℕ → List ℕ → List Node
with_path nodes n [] = nodes
with_path nodes n (b ∷ t) = with_path (with_child nodes n b) (made_child nodes n b) t

-- the node to which it leads
abbrev pub path_end : List Node → ℕ → List ℕ → ℕ
path_end nodes n [] = n
path_end nodes n (b ∷ t) = path_end (with_child nodes n b) (made_child nodes n b) t

-- a list of nodes where a node holds a delimiter's index, unless it held one
unfoldable pub marked : List Node → ℕ → ℕ → List Node
marked nodes n i = cond (is_some (node_at nodes n).pair) nodes (slice_set nodes n (record (node_at nodes n) {
  pair =
      Some i;
}))

-- a trie with one text more
abbrev pub with_trie_text : List Node → List ℕ → ℕ → List Node
with_trie_text nodes text i = marked (with_path nodes 0 text) (path_end nodes 0 text) i

-- a trie with the texts of these delimiters more, whose indices count from i on
abbrev pub with_texts : List Node → ℕ → List DelimiterText → List Node
with_texts nodes i [] = nodes
with_texts nodes i (p ∷ ps) = with_texts (with_trie_text nodes p.text i) (i + 1) ps

-- the trie of a list of delimiters
abbrev pub nodes_of : List DelimiterText → List Node
nodes_of delimiters = with_texts (blank ∷ []) 0 delimiters

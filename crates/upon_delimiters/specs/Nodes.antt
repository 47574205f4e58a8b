-- A trie of texts, as one list of nodes.
use Rattle.std.specs.Prelude.{◌≡◌, ℕ, zero, suc, ◌<◌, ◌==◌, List, [], ◌∷◌, None, cond, length, slice_index_or}
use Rattle.upon_delimiters.specs.declared.syntax.trie.Node.{Node}

-- the root before any text is put in
abbrev pub blank : Node
blank = record { byte = 0; child = 0; sibling = 0; pair = None }

-- the node at an index
abbrev pub node_at : List Node → ℕ → Node
node_at nodes n = slice_index_or nodes n blank

-- there is a root, each first child is in the list, and siblings lead to lesser indices
pub record IsLinked (nodes : List Node) : Type 0 where
  pub some : 0 < length nodes
  pub children : (n : ℕ) → n < length nodes → (node_at nodes n).child < length nodes
  pub siblings : (n : ℕ) → 0 < n → n < length nodes → (node_at nodes n).sibling < n

-- of a node and the siblings after it, the one with a byte, where it is among so many of them; else 0
abbrev pub sibling_within : ℕ → List Node → ℕ → ℕ → ℕ
sibling_within zero nodes n b = 0
sibling_within (suc more) nodes zero b = 0
sibling_within (suc more) nodes (suc n) b =
    cond ((node_at nodes (suc n)).byte == b) (suc n) (sibling_within more nodes (node_at nodes (suc n)).sibling b)

-- of a node and the siblings after it, the one with a byte; else 0
unfoldable pub sibling_with : List Node → ℕ → ℕ → ℕ
sibling_with nodes n b = sibling_within n nodes n b

-- the child of a node by a byte; 0 if there is none
abbrev pub child_of : List Node → ℕ → ℕ → ℕ
child_of nodes n b = sibling_with nodes (node_at nodes n).child b

-- from a node, a text leads to a node
abbrev pub LeadsTo : List Node → ℕ → List ℕ → ℕ → Type 0
LeadsTo nodes n [] m = n ≡ m
LeadsTo nodes n (b ∷ t) m = (0 < child_of nodes n b) × LeadsTo nodes (child_of nodes n b) t m

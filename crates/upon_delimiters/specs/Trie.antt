-- A trie of the texts of delimiters.
use Rattle.std.specs.Prelude.{◌≡◌, ℕ, ◌+◌, ◌<◌, ◌≤◌, List, Option, None, Some, length, MatchOption}
use Rattle.upon_language_spec.specs.Search.{DelimiterText, text_at, Occurs, NoneAt, IsBest}
use Rattle.upon_delimiters.specs.declared.syntax.trie.Node.{Node}
use Rattle.upon_delimiters.specs.Nodes.{IsLinked, node_at, LeadsTo}

-- of the first k delimiters, the first that has a text is this one, or none has it
abbrev pub IsFirstWith : ℕ → List DelimiterText → List ℕ → Option ℕ → Type 0
IsFirstWith k delimiters t None = (j : ℕ) → j < k → text_at delimiters j ≡ t → ⊥
IsFirstWith k delimiters t (Some i) =
    (i < k) × (text_at delimiters i ≡ t) × ((j : ℕ) → j < i → text_at delimiters j ≡ t → ⊥)

-- the nodes are a trie of the first k delimiters
pub record IsTrieOf (k : ℕ) (delimiters : List DelimiterText) (nodes : List Node) : Type 0 where
  pub linked : IsLinked nodes
  pub covers : (i : ℕ) → i < k → (m : ℕ) × LeadsTo nodes 0 (text_at delimiters i) m
  pub one : (t u : List ℕ) (m : ℕ) → LeadsTo nodes 0 t m → LeadsTo nodes 0 u m → t ≡ u
  pub pairs : (t : List ℕ) (m : ℕ) → LeadsTo nodes 0 t m → IsFirstWith k delimiters t (node_at nodes m).pair

-- the delimiter of a node, with an offset, or else the one before
abbrev pub longer_of : Option ℕ → ℕ → Option (ℕ × ℕ) → Option (ℕ × ℕ)
longer_of None end longest = longest
longer_of (Some pair) end longest = Some (pair, end)

-- of the delimiters whose texts are shorter than k, the i-th is the best in s at p
pub record IsBestShorter (k : ℕ) (delimiters : List DelimiterText) (s : List ℕ) (p i : ℕ) : Type 0 where
  pub in_range : i < length delimiters
  pub occurs : Occurs s p (text_at delimiters i)
  pub longest : (j : ℕ) → j < length delimiters → length (text_at delimiters j) < k → Occurs s p (text_at delimiters j)
      → length (text_at delimiters j) ≤ length (text_at delimiters i)
  pub earliest : (j : ℕ) → j < i → length (text_at delimiters j) < k → Occurs s p (text_at delimiters j)
      → length (text_at delimiters j) < length (text_at delimiters i)

-- the best of them, and the offset of its end; or none of them is there
abbrev pub LongestShorter : ℕ → List DelimiterText → List ℕ → ℕ → Option (ℕ × ℕ) → Type 0
LongestShorter k delimiters s p None =
    (j : ℕ) → j < length delimiters → length (text_at delimiters j) < k → Occurs s p (text_at delimiters j) → ⊥
LongestShorter k delimiters s p (Some found) =
    IsBestShorter k delimiters s p found.0 × (found.1 ≡ p + length (text_at delimiters found.0))

-- the best delimiter at an offset, and the offset of its end; or none is there
abbrev pub LongestAt : List DelimiterText → List ℕ → ℕ → Option (ℕ × ℕ) → Type 0
LongestAt delimiters s p found = MatchOption found (NoneAt delimiters s p)
    (λ (best : ℕ × ℕ). IsBest delimiters s p best.0 × (best.1 ≡ p + length (text_at delimiters best.0)))

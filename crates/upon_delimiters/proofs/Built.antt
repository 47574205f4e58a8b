-- A trie that is built delimiter after delimiter.
use Rattle.std.proofs.Common.{◌≡◌, ℕ, ◌+◌, ◌<◌, ◌≤◌, List, [], ◌∷◌, length, drop, get_or, sym, ap, ◌∙◌, subst}
use Rattle.std.proofs.lemmas.List.{at_drop_more, at_drop_all, get_or-map}
use Rattle.upon_types.specs.declared.types.Delimiter.TheVariants.{BeginExpr}
use Rattle.upon_language_spec.specs.Search.{DelimiterText, text_at}
use Rattle.upon_delimiters.specs.Nodes.{blank}
use Rattle.upon_delimiters.specs.Grown.{with_trie_text, with_texts, nodes_of}
use Rattle.upon_delimiters.specs.Trie.{IsTrieOf}
use Rattle.upon_delimiters.specs.declared.syntax.trie.Node.{Node}
use Rattle.upon_delimiters.proofs.TrieOf.{blank-trie, with_text-trie}

-- any delimiter
abbrev any : DelimiterText
any = record { kind = BeginExpr; text = [] }

pub first_trie : (ds : List DelimiterText) (nodes : List Node) → nodes ≡ blank ∷ [] → IsTrieOf 0 ds nodes
first_trie ds nodes is = subst (λ x. IsTrieOf 0 ds x) (sym is) (blank-trie ds)

pub first_nodes : (ds : List DelimiterText) (nodes : List Node) → nodes ≡ blank ∷ [] → with_texts nodes 0 (drop 0 ds) ≡ nodes_of ds
first_nodes ds nodes is = ap (λ x. with_texts x 0 ds) is

module _ (ds : List DelimiterText) (k : ℕ) (nodes new : List Node) (t : List ℕ) (same : t ≡ text_at ds k) (is : new ≡ with_trie_text nodes t k) where
  pub next_trie : IsTrieOf k ds nodes → IsTrieOf (k + 1) ds new
  next_trie trie =
      subst (λ x. IsTrieOf (k + 1) ds x) (sym is)
      (subst (λ u. IsTrieOf (k + 1) ds (with_trie_text nodes u k)) (sym same) (with_text-trie k ds nodes trie))

  pub next_nodes : k < length ds → with_texts nodes k (drop k ds) ≡ nodes_of ds → with_texts new (k + 1) (drop (k + 1) ds) ≡ nodes_of ds
  next_nodes inside so_far =
      let text : text_at ds k ≡ (get_or ds k any).text = get_or-map (λ (p : DelimiterText). p.text) ds k any [] inside in
      ap (λ x. with_texts x (k + 1) (drop (k + 1) ds)) (is ∙ ap (λ u. with_trie_text nodes u k) (same ∙ text))
      ∙ sym (at_drop_more (λ r. with_texts nodes k r) ds k any inside)
      ∙ so_far

pub last_nodes : (ds : List DelimiterText) (k : ℕ) (nodes : List Node) → length ds ≤ k → with_texts nodes k (drop k ds) ≡ nodes_of ds → nodes ≡ nodes_of ds
last_nodes ds k nodes past so_far = sym (at_drop_all (λ r. with_texts nodes k r) ds k past) ∙ so_far

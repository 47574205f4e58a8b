-- What the code writes is what the definitions say.
use Rattle.std.proofs.Common.{◌≡◌, ℕ, ◌+◌, ◌<◌, ◌≤◌, ◌==◌, List, [], ◌∷◌, ◌++◌, None, Some, is_some, cond, true, false, length, drop, get_or, set, arith, sym, ◌∙◌, ap}
use Rattle.std.proofs.lemmas.List.{get_or_read, length_push, at_drop_more, at_drop_all}
use Rattle.upon_delimiters.specs.declared.syntax.trie.Node.{Node}
use Rattle.upon_delimiters.specs.Nodes.{IsLinked, blank, node_at, child_of}
use Rattle.upon_delimiters.specs.Grown.{grown, with_child, made_child, with_path, path_end, marked}
use Rattle.upon_delimiters.proofs.Leads.{child_inside}
use Rattle.upon_delimiters.proofs.Growth.{grown-length, grown-linked}

pub grown_is : (nodes longer : List Node) (n b len : ℕ) (read x : Node) → n < length nodes → child_of nodes n b ≡ 0
    → len ≡ length nodes → read ≡ get_or nodes n read
    → longer ≡ nodes ++ record { byte = b; child = 0; sibling = read.child; pair = None } ∷ []
    → x ≡ get_or longer n x → set longer n (record x { child = len }) ≡ with_child nodes n b
unfolding grown
grown_is nodes longer n b len read x inside absent is_len is_read is_pushed is_x =
    let first = (node_at nodes n).child in
    let new : Node = record { byte = b; child = 0; sibling = first; pair = None } in
    let all = nodes ++ new ∷ [] in
    let is_longer : longer ≡ all = is_pushed
    ∙ ap (λ f. nodes ++ record { byte = b; child = 0; sibling = f; pair = None } ∷ [])
    (ap (λ (y : Node). y.child) (get_or_read nodes n read inside is_read blank)) in
    let there : n < length longer = omega (arith, inside, ap length is_longer, length_push nodes new) in
    let is_old : x ≡ node_at all n = get_or_read longer n x there is_x blank ∙ ap (λ l. node_at l n) is_longer in
    ap (λ l. set l n (record x { child = len })) is_longer
    ∙ ap (λ (y : Node). set all n (record y { child = len })) is_old
    ∙ ap (λ i. set all n (record (node_at all n) { child = i })) is_len
    ∙ sym (ap (λ v. cond (v == 0) (grown nodes n b) nodes) absent)

pub with_child-linked : (nodes : List Node) → IsLinked nodes → (n b : ℕ) → n < length nodes → IsLinked (with_child nodes n b)
with_child-linked nodes linked n b inside = elim (child_of nodes n b == 0) as (λ v. IsLinked (cond v (grown nodes n b) nodes)) [
  | true ↦ grown-linked nodes n b linked inside
  | false ↦ linked
]

pub made_child-inside : (nodes : List Node) → IsLinked nodes → (n b : ℕ) → n < length nodes
    → made_child nodes n b < length (with_child nodes n b)
made_child-inside nodes linked n b inside =
    elim (child_of nodes n b == 0) as (λ v. cond v (length nodes) (child_of nodes n b) < length (cond v (grown nodes n b) nodes)) [
      | true ↦ omega (arith, grown-length nodes n b linked inside)
      | false ↦ child_inside nodes linked n b inside
    ]

module _ (old new : List Node) (n m i : ℕ) (t : List ℕ) (below : i < length t)
    (new_is : new ≡ with_child old n (get_or t i 0)) (m_is : m ≡ made_child old n (get_or t i 0)) where
  pub path_more : with_path new m (drop (i + 1) t) ≡ with_path old n (drop i t)
  path_more =
      ap (λ x. with_path x m (drop (i + 1) t)) new_is
      ∙ ap (λ y. with_path (with_child old n (get_or t i 0)) y (drop (i + 1) t)) m_is
      ∙ sym (at_drop_more (λ r. with_path old n r) t i 0 below)

  pub end_more : path_end new m (drop (i + 1) t) ≡ path_end old n (drop i t)
  end_more =
      ap (λ x. path_end x m (drop (i + 1) t)) new_is
      ∙ ap (λ y. path_end (with_child old n (get_or t i 0)) y (drop (i + 1) t)) m_is
      ∙ sym (at_drop_more (λ r. path_end old n r) t i 0 below)

pub path_whole : (nodes : List Node) (n i : ℕ) (t : List ℕ) → length t ≤ i → nodes ≡ with_path nodes n (drop i t)
path_whole nodes n i t past = sym (at_drop_all (λ r. with_path nodes n r) t i past)

pub end_whole : (nodes : List Node) (n i : ℕ) (t : List ℕ) → length t ≤ i → n ≡ path_end nodes n (drop i t)
end_whole nodes n i t past = sym (at_drop_all (λ r. path_end nodes n r) t i past)

module _ (nodes : List Node) (n i : ℕ) (inside : n < length nodes) (read : Node) (is_read : read ≡ get_or nodes n read) where
  test : is_some (node_at nodes n).pair ≡ is_some read.pair
  test = ap (λ (y : Node). is_some y.pair) (sym (get_or_read nodes n read inside is_read blank))

  pub marked_is : (x : Node) → x ≡ get_or nodes n x → is_some read.pair ≡ false
      → set nodes n (record x { pair = Some i }) ≡ marked nodes n i
  unfolding marked
  marked_is x is_x none =
      ap (λ (y : Node). set nodes n (record y { pair = Some i })) (get_or_read nodes n x inside is_x blank)
      ∙ sym (ap (λ v. cond v nodes (set nodes n (record (node_at nodes n) { pair = Some i }))) (test ∙ none))

  pub not_marked : is_some read.pair ≡ true → nodes ≡ marked nodes n i
  unfolding marked
  not_marked some = sym (ap (λ v. cond v nodes (set nodes n (record (node_at nodes n) { pair = Some i }))) (test ∙ some))

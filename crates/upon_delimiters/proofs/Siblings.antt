-- The child of a node by a byte.
use Rattle.std.proofs.Common.{◌≡◌, ℕ, zero, suc, ◌<◌, ◌≤◌, ◌≢◌, ◌==◌, List, cond, length, arith, refl, sym, ◌∙◌, ap, subst, true, false, eq-eqb, ne_eqb}
use Rattle.upon_delimiters.specs.declared.syntax.trie.Node.{Node}
use Rattle.upon_delimiters.specs.Nodes.{IsLinked, node_at, sibling_within, sibling_with}

module _ (nodes : List Node) (linked : IsLinked nodes) (b : ℕ) where
  -- more than the index itself is never needed
  enough : (k f n : ℕ) → n ≤ k → n ≤ f → n < length nodes → sibling_within f nodes n b ≡ sibling_within n nodes n b
  enough k zero zero below within inside = refl
  enough k (suc f) zero below within inside = refl
  enough zero f (suc n) below within inside = absurd (omega (arith, below))
  enough (suc k) zero (suc n) below within inside = absurd (omega (arith, within))
  enough (suc k) (suc f) (suc n) below within inside =
      let s = (node_at nodes (suc n)).sibling in
      let lower : s < suc n = linked.siblings (suc n) (omega arith) inside in
      let one = enough k f s (omega arith) (omega arith) (omega arith) in
      let other = enough k n s (omega arith) (omega arith) (omega arith) in
      ap (λ x. cond ((node_at nodes (suc n)).byte == b) (suc n) x) (one ∙ sym other)

  pub sibling_with-step : (n : ℕ) → 0 < n → n < length nodes
      → sibling_with nodes n b ≡ cond ((node_at nodes n).byte == b) n (sibling_with nodes (node_at nodes n).sibling b)
  unfolding sibling_with
  sibling_with-step zero some inside = absurd (omega (arith, some))
  sibling_with-step (suc n) some inside =
      let s = (node_at nodes (suc n)).sibling in
      let lower : s < suc n = linked.siblings (suc n) some inside in
      ap (λ x. cond ((node_at nodes (suc n)).byte == b) (suc n) x) (enough n n s (omega arith) (omega arith) (omega arith))

pub sibling_with-zero : (nodes : List Node) (b : ℕ) → sibling_with nodes 0 b ≡ 0
unfolding sibling_with
sibling_with-zero nodes b = refl

pub sibling_with-inside : (nodes : List Node) → IsLinked nodes → (b k n : ℕ) → n ≤ k → n < length nodes
    → sibling_with nodes n b < length nodes
sibling_with-inside nodes linked b k zero below inside = omega (arith, sibling_with-zero nodes b, linked.some)
sibling_with-inside nodes linked b zero (suc n) below inside = absurd (omega (arith, below))
sibling_with-inside nodes linked b (suc k) (suc n) below inside =
    let s = (node_at nodes (suc n)).sibling in
    let lower : s < suc n = linked.siblings (suc n) (omega arith) inside in
    let Below : ℕ → Type 0 = λ x. x < length nodes in
    let rest = sibling_with-inside nodes linked b k s (omega arith) (omega arith) in
    subst Below (sym (sibling_with-step nodes linked b (suc n) (omega arith) inside))
    (elim ((node_at nodes (suc n)).byte == b) as (λ v. cond v (suc n) (sibling_with nodes s b) < length nodes) [
      | true ↦ inside
      | false ↦ rest
    ])

-- the nodes below a length keep their bytes and siblings
pub record SameLinks (old new : List Node) : Type 0 where
  pub longer : length old ≤ length new
  pub bytes : (m : ℕ) → m < length old → (node_at new m).byte ≡ (node_at old m).byte
  pub siblings : (m : ℕ) → m < length old → (node_at new m).sibling ≡ (node_at old m).sibling

module _ (old new : List Node) (before : IsLinked old) (after : IsLinked new) (same : SameLinks old new) (b : ℕ) where
  pub unchanged : (k n : ℕ) → n ≤ k → n < length old → sibling_with new n b ≡ sibling_with old n b
  unchanged k zero below inside = sibling_with-zero new b ∙ sym (sibling_with-zero old b)
  unchanged zero (suc n) below inside = absurd (omega (arith, below))
  unchanged (suc k) (suc n) below inside =
      let s = (node_at old (suc n)).sibling in
      let lower : s < suc n = before.siblings (suc n) (omega arith) inside in
      let there : suc n < length new = omega (arith, same.longer, inside) in
      sibling_with-step new after b (suc n) (omega arith) there
      ∙ ap (λ x. cond (x == b) (suc n) (sibling_with new (node_at new (suc n)).sibling b)) (same.bytes (suc n) inside)
      ∙ ap (λ x. cond ((node_at old (suc n)).byte == b) (suc n) (sibling_with new x b)) (same.siblings (suc n) inside)
      ∙ ap (λ x. cond ((node_at old (suc n)).byte == b) (suc n) x) (unchanged k s (omega arith) (omega arith))
      ∙ sym (sibling_with-step old before b (suc n) (omega arith) inside)

module _ (nodes : List Node) (linked : IsLinked nodes) (n b : ℕ) (some : 0 < n) (inside : n < length nodes) where
  pub sibling_with-here : (node_at nodes n).byte ≡ b → sibling_with nodes n b ≡ n
  sibling_with-here same =
      sibling_with-step nodes linked b n some inside
      ∙ ap (λ v. cond v n (sibling_with nodes (node_at nodes n).sibling b)) (eq-eqb _ _ same)

  pub sibling_with-further : (node_at nodes n).byte ≢ b → sibling_with nodes n b ≡ sibling_with nodes (node_at nodes n).sibling b
  sibling_with-further differs =
      sibling_with-step nodes linked b n some inside
      ∙ ap (λ v. cond v n (sibling_with nodes (node_at nodes n).sibling b)) (ne_eqb _ _ differs)

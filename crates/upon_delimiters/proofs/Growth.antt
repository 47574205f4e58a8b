-- A list of nodes with one node more.
use Rattle.std.proofs.Common.{◌≡◌, ℕ, ◌+◌, ◌<◌, ◌≢◌, ◌==◌, ◌⊎◌, inl, inr, List, [], ◌∷◌, ◌++◌, None, cond, length, arith, refl, sym, ◌∙◌, ap, subst, eq-eqb, ne_eqb}
use Rattle.std.proofs.lemmas.List.{length-set, length_push, get_or-set_same, get_or-set_other, get_or_append_left, get_or_push}
use Rattle.upon_delimiters.specs.declared.syntax.trie.Node.{Node}
use Rattle.upon_delimiters.specs.Nodes.{IsLinked, blank, node_at, sibling_with, child_of, LeadsTo}
use Rattle.upon_delimiters.specs.Grown.{grown}
use Rattle.upon_delimiters.proofs.Siblings.{SameLinks, unchanged, sibling_with-zero, sibling_with-step}
use Rattle.upon_delimiters.proofs.Leads.{child_inside, leads_on}

which : (m n total : ℕ) → m < total + 1 → (m ≡ total) ⊎ ((m ≡ n) ⊎ ((m < total) × (m ≢ n)))
which m n total below = grind arith

pub same_or_not : (m n : ℕ) → (m ≡ n) ⊎ (m ≢ n)
same_or_not m n = grind arith

not_same : (b c : ℕ) → b ≢ c → (x y : ℕ) → cond (b == c) x y ≡ y
not_same b c differs x y = ap (λ v. cond v x y) (ne_eqb b c differs)

module _ (nodes : List Node) (n b : ℕ) (linked : IsLinked nodes) (inside : n < length nodes) where
  abbrev made : Node
  made = record { byte = b; child = 0; sibling = (node_at nodes n).child; pair = None }

  pub grown-length : length (grown nodes n b) ≡ length nodes + 1
  unfolding grown
  grown-length = length-set _ _ _ ∙ length_push nodes _

  pub grown-other : (m : ℕ) → m < length nodes → m ≢ n → node_at (grown nodes n b) m ≡ node_at nodes m
  unfolding grown
  grown-other m below other = get_or-set_other _ n m _ blank other ∙ get_or_append_left nodes _ blank m below

  pub grown-here : node_at (grown nodes n b) n ≡ record (node_at nodes n) { child = length nodes }
  unfolding grown
  grown-here =
      get_or-set_same _ n _ blank (omega (arith, inside, length_push nodes made))
      ∙ ap (λ (x : Node). record x { child = length nodes }) (get_or_append_left nodes _ blank n inside)

  pub grown-made : node_at (grown nodes n b) (length nodes) ≡ made
  unfolding grown
  grown-made =
      let other : length nodes ≢ n = omega (arith, inside) in
      get_or-set_other _ n (length nodes) _ blank other ∙ get_or_push nodes _ blank (length nodes) refl

  pub grown-linked : IsLinked (grown nodes n b)
  grown-linked =
      let new = grown nodes n b in
      let Child : ℕ → Type 0 = λ m. (node_at new m).child < length new in
      let Sibling : ℕ → Type 0 = λ m. (node_at new m).sibling < m in
      record {
        some = omega (arith, grown-length);
        children = λ m below. elim (which m n (length nodes) (omega (arith, below, grown-length))) [
          | inl e ↦ subst Child (sym e) (omega (arith, grown-length, ap (λ (x : Node). x.child) grown-made))
          | inr h ↦ elim h [
            | inl e ↦ subst Child (sym e) (omega (arith, grown-length, ap (λ (x : Node). x.child) grown-here))
            | inr w ↦ omega (arith, grown-length, linked.children m w.0, ap (λ (x : Node). x.child) (grown-other m w.0 w.1))
          ]
        ];
        siblings = λ m some below. elim (which m n (length nodes) (omega (arith, below, grown-length))) [
          | inl e ↦ subst Sibling (sym e) (omega (arith, linked.children n inside, ap (λ (x : Node). x.sibling) grown-made))
          | inr h ↦ elim h [
            | inl e ↦ let here : 0 < n = omega (arith, e, some) in
                subst Sibling (sym e) (omega (arith, linked.siblings n here inside, ap (λ (x : Node). x.sibling) grown-here))
            | inr w ↦ omega (arith, linked.siblings m some w.0, ap (λ (x : Node). x.sibling) (grown-other m w.0 w.1))
          ]
        ];
      }

  pub grown-same : SameLinks nodes (grown nodes n b)
  grown-same =
      let new = grown nodes n b in
      let Byte : ℕ → Type 0 = λ m. (node_at new m).byte ≡ (node_at nodes m).byte in
      let Sibling : ℕ → Type 0 = λ m. (node_at new m).sibling ≡ (node_at nodes m).sibling in
      record {
        longer = omega (arith, grown-length);
        bytes = λ m below. elim (same_or_not m n) [
          | inl e ↦ subst Byte (sym e) (ap (λ (x : Node). x.byte) grown-here)
          | inr other ↦ ap (λ (x : Node). x.byte) (grown-other m below other)
        ];
        siblings = λ m below. elim (same_or_not m n) [
          | inl e ↦ subst Sibling (sym e) (ap (λ (x : Node). x.sibling) grown-here)
          | inr other ↦ ap (λ (x : Node). x.sibling) (grown-other m below other)
        ];
      }

  among_old : (c x : ℕ) → x < length nodes → sibling_with (grown nodes n b) x c ≡ sibling_with nodes x c
  among_old c x below = unchanged nodes (grown nodes n b) linked grown-linked grown-same c x x (omega arith) below

  pub child-other : (m c : ℕ) → m < length nodes → m ≢ n → child_of (grown nodes n b) m c ≡ child_of nodes m c
  child-other m c below other =
      ap (λ (x : Node). sibling_with (grown nodes n b) x.child c) (grown-other m below other)
      ∙ among_old c (node_at nodes m).child (linked.children m below)

  pub child-here : (c : ℕ) → child_of (grown nodes n b) n c ≡ cond (b == c) (length nodes) (child_of nodes n c)
  child-here c =
      let new = grown nodes n b in
      ap (λ (x : Node). sibling_with new x.child c) grown-here
      ∙ sibling_with-step new grown-linked c (length nodes) (omega (arith, inside)) (omega (arith, grown-length))
      ∙ ap (λ (x : Node). cond (x.byte == c) (length nodes) (sibling_with new x.sibling c)) grown-made
      ∙ ap (λ x. cond (b == c) (length nodes) x) (among_old c (node_at nodes n).child (linked.children n inside))

  pub child-made : (c : ℕ) → child_of (grown nodes n b) (length nodes) c ≡ 0
  child-made c =
      ap (λ (x : Node). sibling_with (grown nodes n b) x.child c) grown-made ∙ sibling_with-zero (grown nodes n b) c

  -- the new node leads nowhere
  from_made : (t : List ℕ) (m : ℕ) → LeadsTo (grown nodes n b) (length nodes) t m → (t ≡ []) × (length nodes ≡ m)
  from_made [] m leads = (refl, leads)
  from_made (c ∷ t) m leads = absurd (omega (arith, leads.0, child-made c))

  module _ (absent : child_of nodes n b ≡ 0) where
    stays_here : (c : ℕ) → 0 < child_of nodes n c → child_of (grown nodes n b) n c ≡ child_of nodes n c
    stays_here c some =
        let differs : b ≢ c = λ e. omega (arith, some, absent, ap (λ x. child_of nodes n x) e) in
        child-here c ∙ not_same b c differs (length nodes) (child_of nodes n c)

    pub stays : (x c : ℕ) → x < length nodes → 0 < child_of nodes x c → child_of (grown nodes n b) x c ≡ child_of nodes x c
    stays x c below some = elim (same_or_not x n) [
      | inl e ↦ let Stays : ℕ → Type 0 = λ y. 0 < child_of nodes y c → child_of (grown nodes n b) y c ≡ child_of nodes y c in
          subst Stays (sym e) (stays_here c) some
      | inr other ↦ child-other x c below other
    ]

    pub leads_still : (x : ℕ) (t : List ℕ) (m : ℕ) → x < length nodes → LeadsTo nodes x t m → LeadsTo (grown nodes n b) x t m
    leads_still = leads_on nodes (grown nodes n b) linked stays

    -- what a text leads to: as before, or to the new node, by its byte at the text's end
    pub leads_new : (x : ℕ) (t : List ℕ) (m : ℕ) → x < length nodes → LeadsTo (grown nodes n b) x t m
        → (LeadsTo nodes x t m) ⊎ ((m ≡ length nodes) × ((u : List ℕ) × (t ≡ u ++ b ∷ []) × LeadsTo nodes x u n))
    leads_new x [] m below leads = inl leads
    leads_new x (c ∷ t) m below leads =
        let new = grown nodes n b in
        let Goal : Type 0 = (LeadsTo nodes x (c ∷ t) m) ⊎ ((m ≡ length nodes) × ((u : List ℕ) × (c ∷ t ≡ u ++ b ∷ []) × LeadsTo nodes x u n)) in
        let old_child : child_of new x c ≡ child_of nodes x c → Goal = λ same.
        let From : ℕ → Type 0 = λ y. LeadsTo new y t m in
        let some : 0 < child_of nodes x c = omega (arith, same, leads.0) in
        elim (leads_new (child_of nodes x c) t m (child_inside nodes linked x c below) (subst From same leads.1)) [
          | inl old ↦ inl (some, old)
          | inr w ↦ inr (w.0, (c ∷ w.1.0, ap (λ r. c ∷ r) w.1.1, (some, w.1.2)))
        ] in
        let new_child : x ≡ n → b ≡ c → child_of new x c ≡ length nodes → Goal = λ at byte same.
        let From : ℕ → Type 0 = λ y. LeadsTo new y t m in
        let ends = from_made t m (subst From same leads.1) in
        inr (sym ends.1, ([], ap (λ r. c ∷ r) ends.0 ∙ ap (λ y. y ∷ []) (sym byte), at)) in
        elim (same_or_not x n) [
          | inr other ↦ old_child (child-other x c below other)
          | inl at ↦ elim (same_or_not b c) [
            | inl byte ↦ new_child at byte
                (ap (λ y. child_of new y c) at ∙ child-here c ∙ ap (λ v. cond v (length nodes) (child_of nodes n c)) (eq-eqb _ _ byte))
            | inr differs ↦ old_child
                (ap (λ y. child_of new y c) at ∙ child-here c ∙ not_same b c differs (length nodes) (child_of nodes n c)
                ∙ ap (λ y. child_of nodes y c) (sym at))
          ]
        ]

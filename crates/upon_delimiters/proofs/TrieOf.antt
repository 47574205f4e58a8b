-- The nodes of a list of delimiters are its trie.
use Rattle.std.proofs.Common.{◌≡◌, ℕ, zero, suc, ◌+◌, ◌<◌, ◌≢◌, ◌==◌, ◌⊎◌, inl, inr, List, [], ◌∷◌, ◌++◌, Option, None, Some, cond, is_some, length, arith, refl, sym, ◌∙◌, ap, subst, set, Bool, eq-eqb, ne_eqb}
use Rattle.std.proofs.lemmas.List.{append_assoc, append-nil, get_or-set_same, get_or-set_other, length-set, length_push}
use Rattle.upon_language_spec.specs.Search.{DelimiterText, text_at}
use Rattle.upon_delimiters.specs.declared.syntax.trie.Node.{Node}
use Rattle.upon_delimiters.specs.Nodes.{IsLinked, blank, node_at, sibling_with, child_of, LeadsTo}
use Rattle.upon_delimiters.specs.Grown.{grown, with_child, made_child, with_path, path_end, marked, with_trie_text, with_texts, nodes_of}
use Rattle.upon_delimiters.specs.Trie.{IsFirstWith, IsTrieOf}
use Rattle.upon_delimiters.proofs.Siblings.{unchanged, sibling_with-zero}
use Rattle.upon_delimiters.proofs.Leads.{leads_append, leads_split, leads_one, leads_inside, leads_on}
use Rattle.upon_delimiters.proofs.Growth.{grown-other, grown-here, grown-made, grown-linked, child-here, leads_still, leads_new, same_or_not}

below_or_at : (j i : ℕ) → j < i + 1 → (j < i) ⊎ (i ≡ j)
below_or_at j i l = grind arith

only_root : (n : ℕ) → n < length (blank ∷ []) → (node_at (blank ∷ []) n).child < length (blank ∷ [])
only_root zero below = omega arith
only_root (suc n) below = absurd (omega (arith, below))

-- a node that a text leads on from
module _ (k : ℕ) (ds : List DelimiterText) (nodes : List Node) (trie : IsTrieOf k ds nodes)
    (n b : ℕ) (p : List ℕ) (at : LeadsTo nodes 0 p n) (absent : child_of nodes n b ≡ 0) where
  here : n < length nodes
  here = leads_inside nodes trie.linked 0 p n trie.linked.some at

  -- no delimiter's text begins with the text of the new node
  no_text : (j : ℕ) → j < k → text_at ds j ≡ p ++ b ∷ [] → ⊥
  no_text j below same =
      let leads = trie.covers j below in
      let To : List ℕ → Type 0 = λ t. LeadsTo nodes 0 t leads.0 in
      let split = leads_split nodes 0 p (b ∷ []) leads.0 (subst To same leads.1) in
      let is : split.0 ≡ n = leads_one nodes 0 p split.0 n split.1 at in
      omega (arith, absent, split.2.0, ap (λ y. child_of nodes y b) is)

  pair_same : (m : ℕ) → m < length nodes → (node_at (grown nodes n b) m).pair ≡ (node_at nodes m).pair
  pair_same m inside = elim (same_or_not m n) [
    | inl e ↦ let Same : ℕ → Type 0 = λ x. (node_at (grown nodes n b) x).pair ≡ (node_at nodes x).pair in
        subst Same (sym e) (ap (λ (x : Node). x.pair) (grown-here nodes n b trie.linked here))
    | inr other ↦ ap (λ (x : Node). x.pair) (grown-other nodes n b trie.linked here m inside other)
  ]

  pub grown-trie : IsTrieOf k ds (grown nodes n b)
  grown-trie =
      let new = grown nodes n b in
      let one_new : (t u : List ℕ) (m : ℕ) → LeadsTo new 0 t m → LeadsTo new 0 u m → t ≡ u = λ t u m first second.
      elim (leads_new nodes n b trie.linked here absent 0 t m trie.linked.some first) [
        | inl old ↦ elim (leads_new nodes n b trie.linked here absent 0 u m trie.linked.some second) [
          | inl other ↦ trie.one t u m old other
          | inr w ↦ absurd (omega (arith, w.0, leads_inside nodes trie.linked 0 t m trie.linked.some old))
        ]
        | inr v ↦ elim (leads_new nodes n b trie.linked here absent 0 u m trie.linked.some second) [
          | inl other ↦ absurd (omega (arith, v.0, leads_inside nodes trie.linked 0 u m trie.linked.some other))
          | inr w ↦ v.1.1 ∙ ap (λ r. r ++ b ∷ []) (trie.one v.1.0 w.1.0 n v.1.2 w.1.2) ∙ sym w.1.1
        ]
      ] in
      let pairs_new : (t : List ℕ) (m : ℕ) → LeadsTo new 0 t m → IsFirstWith k ds t (node_at new m).pair = λ t m leads.
      elim (leads_new nodes n b trie.linked here absent 0 t m trie.linked.some leads) [
        | inl old ↦
            let inside = leads_inside nodes trie.linked 0 t m trie.linked.some old in
            let First : Option ℕ → Type 0 = λ o. IsFirstWith k ds t o in
            subst First (sym (pair_same m inside)) (trie.pairs t m old)
        | inr w ↦
            let First : Option ℕ → Type 0 = λ o. IsFirstWith k ds t o in
            let none : IsFirstWith k ds t None = λ j below same. no_text j below
            (same ∙ w.1.1 ∙ ap (λ r. r ++ b ∷ []) (trie.one w.1.0 p n w.1.2 at)) in
            let is : (node_at new m).pair ≡ None =
            ap (λ x. (node_at new x).pair) w.0 ∙ ap (λ (x : Node). x.pair) (grown-made nodes n b trie.linked here) in
            subst First (sym is) none
      ] in
      record {
        linked = grown-linked nodes n b trie.linked here;
        covers = λ i below. let old = trie.covers i below in
            (old.0, leads_still nodes n b trie.linked here absent 0 (text_at ds i) old.0 trie.linked.some old.1);
        one = one_new;
        pairs = pairs_new;
      }

-- with a child by a byte, which a text of one byte more leads to
module _ (k : ℕ) (ds : List DelimiterText) (nodes : List Node) (trie : IsTrieOf k ds nodes)
    (n b : ℕ) (p : List ℕ) (at : LeadsTo nodes 0 p n) where
  child_case : (v : ℕ) → child_of nodes n b ≡ v
      → IsTrieOf k ds (cond (v == 0) (grown nodes n b) nodes)
      × LeadsTo (cond (v == 0) (grown nodes n b) nodes) 0 (p ++ b ∷ []) (cond (v == 0) (length nodes) v)
  child_case zero absent =
      let new = grown nodes n b in
      let inside = here k ds nodes trie n b p at absent in
      let is : child_of new n b ≡ length nodes =
      child-here nodes n b trie.linked inside b
      ∙ ap (λ v. cond v (length nodes) (child_of nodes n b)) (eq-eqb b b refl) in
      let some : 0 < child_of new n b = omega (arith, is, inside) in (
        grown-trie k ds nodes trie n b p at absent,
        leads_append new 0 p (b ∷ []) n (length nodes)
            (leads_still nodes n b trie.linked inside absent 0 p n trie.linked.some at) (some, is),
      )
  child_case (suc v) is =
      let some : 0 < child_of nodes n b = omega (arith, is) in
      let Has : Bool → Type 0 = λ w.
      IsTrieOf k ds (cond w (grown nodes n b) nodes)
      × LeadsTo (cond w (grown nodes n b) nodes) 0 (p ++ b ∷ []) (cond w (length nodes) (suc v)) in
      let differs : suc v ≢ 0 = omega arith in
      subst Has (sym (ne_eqb (suc v) 0 differs)) (trie, leads_append nodes 0 p (b ∷ []) n (suc v) at (some, is))

  pub with_child-trie : IsTrieOf k ds (with_child nodes n b)
  with_child-trie = (child_case (child_of nodes n b) refl).0

  pub with_child-leads : LeadsTo (with_child nodes n b) 0 (p ++ b ∷ []) (made_child nodes n b)
  with_child-leads = (child_case (child_of nodes n b) refl).1

pub with_path-trie : (k : ℕ) (ds : List DelimiterText) (nodes : List Node) (n : ℕ) (p t : List ℕ) → IsTrieOf k ds nodes → LeadsTo nodes 0 p n
    → IsTrieOf k ds (with_path nodes n t) × LeadsTo (with_path nodes n t) 0 (p ++ t) (path_end nodes n t)
with_path-trie k ds nodes n p [] trie at =
    let To : List ℕ → Type 0 = λ r. LeadsTo nodes 0 r n in
    (trie, subst To (sym (append-nil p)) at)
with_path-trie k ds nodes n p (b ∷ t) trie at =
    let new = with_child nodes n b in
    let m = made_child nodes n b in
    let rest = with_path-trie k ds new m (p ++ b ∷ []) t
    (with_child-trie k ds nodes trie n b p at) (with_child-leads k ds nodes trie n b p at) in
    let To : List ℕ → Type 0 = λ r. LeadsTo (with_path new m t) 0 r (path_end new m t) in
    (rest.0, subst To (append_assoc p (b ∷ []) t) rest.1)

-- a node that is marked with the delimiter whose text leads to it
module _ (k : ℕ) (ds : List DelimiterText) (nodes : List Node) (trie : IsTrieOf k ds nodes)
    (n : ℕ) (at : LeadsTo nodes 0 (text_at ds k) n) where
  there : n < length nodes
  there = leads_inside nodes trie.linked 0 (text_at ds k) n trie.linked.some at

  mark : Node
  mark = record (node_at nodes n) { pair = Some k }

  -- the list of nodes where it is marked
  written : List Node
  written = set nodes n mark

  written-here : node_at written n ≡ mark
  unfolding written
  written-here = get_or-set_same nodes n mark blank there

  written-other : (m : ℕ) → m ≢ n → node_at written m ≡ node_at nodes m
  unfolding written
  written-other m other = get_or-set_other nodes n m mark blank other

  written-length : length written ≡ length nodes
  unfolding written
  written-length = length-set nodes n mark

  module _ {A : Type 0} (f : Node → A) (same : f mark ≡ f (node_at nodes n)) where
    field_same : (m : ℕ) → f (node_at written m) ≡ f (node_at nodes m)
    field_same m = elim (same_or_not m n) [
      | inl e ↦ let Same : ℕ → Type 0 = λ x. f (node_at written x) ≡ f (node_at nodes x) in
          subst Same (sym e) (ap f written-here ∙ same)
      | inr other ↦ ap f (written-other m other)
    ]

  byte_same : (m : ℕ) → (node_at written m).byte ≡ (node_at nodes m).byte
  unfolding mark
  byte_same = field_same (λ (x : Node). x.byte) refl

  child_same : (m : ℕ) → (node_at written m).child ≡ (node_at nodes m).child
  unfolding mark
  child_same = field_same (λ (x : Node). x.child) refl

  sibling_same : (m : ℕ) → (node_at written m).sibling ≡ (node_at nodes m).sibling
  unfolding mark
  sibling_same = field_same (λ (x : Node). x.sibling) refl

  written-linked : IsLinked written
  written-linked = record {
    some = omega (arith, written-length, trie.linked.some);
    children = λ m below. omega (arith, written-length, child_same m, trie.linked.children m (omega (arith, written-length, below)));
    siblings = λ m some below. omega (arith, sibling_same m, trie.linked.siblings m some (omega (arith, written-length, below)));
  }

  children_stay : (x c : ℕ) → x < length nodes → child_of written x c ≡ child_of nodes x c
  children_stay x c inside =
      let first = (node_at nodes x).child in
      ap (λ y. sibling_with written y c) (child_same x)
      ∙ unchanged nodes written trie.linked written-linked
      (record { longer = omega (arith, written-length); bytes = λ m below. byte_same m; siblings = λ m below. sibling_same m })
      c first first (omega arith) (trie.linked.children x inside)

  to_written : (t : List ℕ) (m : ℕ) → LeadsTo nodes 0 t m → LeadsTo written 0 t m
  to_written t m = leads_on nodes written trie.linked (λ x c inside some. children_stay x c inside) 0 t m trie.linked.some

  from_written : (t : List ℕ) (m : ℕ) → LeadsTo written 0 t m → LeadsTo nodes 0 t m
  from_written t m = leads_on written nodes written-linked
      (λ x c inside some. sym (children_stay x c (omega (arith, written-length, inside)))) 0 t m written-linked.some

  -- one delimiter more, in each node but the one where its text leads
  other_node : (t : List ℕ) (m : ℕ) → LeadsTo nodes 0 t m → (t ≡ text_at ds k → ⊥)
      → (o : Option ℕ) → IsFirstWith k ds t o → IsFirstWith (k + 1) ds t o
  other_node t m leads differs None none = λ j below same. elim (below_or_at j k below) [
    | inl less ↦ none j less same
    | inr e ↦ differs (sym same ∙ ap (λ x. text_at ds x) (sym e))
  ]
  other_node t m leads differs (Some i) first = (omega (arith, first.0), first.1, first.2)

  covers_more : (new : List Node) → ((t : List ℕ) (m : ℕ) → LeadsTo nodes 0 t m → LeadsTo new 0 t m)
      → (i : ℕ) → i < k + 1 → (m : ℕ) × LeadsTo new 0 (text_at ds i) m
  covers_more new to i below = elim (below_or_at i k below) [
    | inl less ↦ let old = trie.covers i less in (old.0, to (text_at ds i) old.0 old.1)
    | inr e ↦ let Covered : ℕ → Type 0 = λ x. (m : ℕ) × LeadsTo new 0 (text_at ds x) m in
        subst Covered e (n, to (text_at ds k) n at)
  ]

  differs_at : (t : List ℕ) (m : ℕ) → LeadsTo nodes 0 t m → m ≢ n → t ≡ text_at ds k → ⊥
  differs_at t m leads other same =
      let To : List ℕ → Type 0 = λ r. LeadsTo nodes 0 r m in
      other (leads_one nodes 0 (text_at ds k) m n (subst To same leads) at)

  mark_case : (o : Option ℕ) → (node_at nodes n).pair ≡ o → IsTrieOf (k + 1) ds (cond (is_some o) nodes written)
  unfolding mark
  mark_case None is =
      let first_here : (t : List ℕ) → LeadsTo nodes 0 t n → IsFirstWith (k + 1) ds t (Some k) = λ t leads.
      let same : t ≡ text_at ds k = trie.one t (text_at ds k) n leads at in
      let First : Option ℕ → Type 0 = λ o. IsFirstWith k ds t o in
      let none : IsFirstWith k ds t None = subst First is (trie.pairs t n leads) in
      (omega arith, sym same, none) in
      record {
        linked = written-linked;
        covers = covers_more written to_written;
        one = λ t u m first second. trie.one t u m (from_written t m first) (from_written u m second);
        pairs = λ t m leads.
            let old = from_written t m leads in
            let First : Option ℕ → Type 0 = λ o. IsFirstWith (k + 1) ds t o in
            elim (same_or_not m n) [
              | inl e ↦
                  let Old : ℕ → Type 0 = λ x. LeadsTo nodes 0 t x in
                  let pair : (node_at written m).pair ≡ Some k =
                  ap (λ x. (node_at written x).pair) e ∙ ap (λ (x : Node). x.pair) written-here in
                  subst First (sym pair) (first_here t (subst Old e old))
              | inr other ↦
                  subst First (sym (ap (λ (x : Node). x.pair) (written-other m other)))
                  (other_node t m old (differs_at t m old other) _ (trie.pairs t m old))
            ];
      }
  mark_case (Some i) is =
      let still_first : (t : List ℕ) → LeadsTo nodes 0 t n → IsFirstWith (k + 1) ds t (node_at nodes n).pair = λ t leads.
      let First : Option ℕ → Type 0 = λ o. IsFirstWith k ds t o in
      let More : Option ℕ → Type 0 = λ o. IsFirstWith (k + 1) ds t o in
      let first : IsFirstWith k ds t (Some i) = subst First is (trie.pairs t n leads) in
      subst More (sym is) (omega (arith, first.0), first.1, first.2) in
      record {
        linked = trie.linked;
        covers = covers_more nodes (λ t m leads. leads);
        one = trie.one;
        pairs = λ t m leads. elim (same_or_not m n) [
          | inl e ↦
              let At : ℕ → Type 0 = λ x. LeadsTo nodes 0 t x → IsFirstWith (k + 1) ds t (node_at nodes x).pair in
              subst At (sym e) (still_first t) leads
          | inr other ↦ other_node t m leads (differs_at t m leads other) _ (trie.pairs t m leads)
        ];
      }

  pub marked-trie : IsTrieOf (k + 1) ds (marked nodes n k)
  unfolding marked written mark
  marked-trie = mark_case (node_at nodes n).pair refl

pub with_text-trie : (k : ℕ) (ds : List DelimiterText) (nodes : List Node) → IsTrieOf k ds nodes
    → IsTrieOf (k + 1) ds (with_trie_text nodes (text_at ds k) k)
with_text-trie k ds nodes trie =
    let path = with_path-trie k ds nodes 0 [] (text_at ds k) trie refl in
    marked-trie k ds (with_path nodes 0 (text_at ds k)) path.0 (path_end nodes 0 (text_at ds k)) path.1

text_at-seam : (qs : List DelimiterText) (p : DelimiterText) (ps : List DelimiterText) → text_at (qs ++ p ∷ ps) (length qs) ≡ p.text
text_at-seam [] p ps = refl
text_at-seam (q ∷ qs) p ps = text_at-seam qs p ps

pub with_texts-trie : (ds qs ps : List DelimiterText) (k : ℕ) (nodes : List Node) → ds ≡ qs ++ ps → k ≡ length qs
    → IsTrieOf k ds nodes → IsTrieOf (length ds) ds (with_texts nodes k ps)
with_texts-trie ds qs [] k nodes all count trie =
    let At : ℕ → Type 0 = λ x. IsTrieOf x ds nodes in
    subst At (count ∙ ap length (sym (all ∙ append-nil qs))) trie
with_texts-trie ds qs (p ∷ ps) k nodes all count trie =
    let text : text_at ds k ≡ p.text =
    ap (λ xs. text_at xs k) all ∙ ap (λ x. text_at (qs ++ p ∷ ps) x) count ∙ text_at-seam qs p ps in
    let Has : List ℕ → Type 0 = λ t. IsTrieOf (k + 1) ds (with_trie_text nodes t k) in
    with_texts-trie ds (qs ++ p ∷ []) ps (k + 1) (with_trie_text nodes p.text k)
    (all ∙ sym (append_assoc qs (p ∷ []) ps))
    (ap (λ x. x + 1) count ∙ sym (length_push qs p))
    (subst Has text (with_text-trie k ds nodes trie))

blank_child : (n c : ℕ) → child_of (blank ∷ []) n c ≡ 0
blank_child zero c = sibling_with-zero (blank ∷ []) c
blank_child (suc n) c = sibling_with-zero (blank ∷ []) c

blank_leads : (t : List ℕ) (m : ℕ) → LeadsTo (blank ∷ []) 0 t m → (t ≡ []) × (0 ≡ m)
blank_leads [] m leads = (refl, leads)
blank_leads (c ∷ t) m leads = absurd (omega (arith, leads.0, blank_child 0 c))

pub blank-trie : (ds : List DelimiterText) → IsTrieOf 0 ds (blank ∷ [])
blank-trie ds = record {
  linked = record {
    some = omega arith;
    children = λ n below. only_root n below;
    siblings = λ n some below. absurd (omega (arith, some, below));
  };
  covers = λ i below. absurd (omega (arith, below));
  one = λ t u m first second. (blank_leads t m first).0 ∙ sym (blank_leads u m second).0;
  pairs = λ t m leads.
      let First : Option ℕ → Type 0 = λ o. IsFirstWith 0 ds t o in
      let none : IsFirstWith 0 ds t None = λ j below same. absurd (omega (arith, below)) in
      subst First (ap (λ x. (node_at (blank ∷ []) x).pair) (blank_leads t m leads).1) none;
}

-- the theorem: the nodes of a list of delimiters are its trie
pub nodes_of-trie : (ds : List DelimiterText) → IsTrieOf (length ds) ds (nodes_of ds)
nodes_of-trie ds = with_texts-trie ds [] ds 0 (blank ∷ []) refl refl (blank-trie ds)

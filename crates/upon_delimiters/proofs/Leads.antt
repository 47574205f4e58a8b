-- Where texts lead.
use Rattle.std.proofs.Common.{◌≡◌, ℕ, ◌<◌, List, [], ◌∷◌, ◌++◌, length, arith, refl, sym, ◌∙◌, subst}
use Rattle.upon_delimiters.specs.declared.syntax.trie.Node.{Node}
use Rattle.upon_delimiters.specs.Nodes.{IsLinked, node_at, child_of, LeadsTo}
use Rattle.upon_delimiters.proofs.Siblings.{sibling_with-inside}

pub child_inside : (nodes : List Node) → IsLinked nodes → (n b : ℕ) → n < length nodes → child_of nodes n b < length nodes
child_inside nodes linked n b inside =
    let c = (node_at nodes n).child in
    sibling_with-inside nodes linked b c c (omega arith) (linked.children n inside)

pub leads_append : (nodes : List Node) (n : ℕ) (t u : List ℕ) (x m : ℕ) → LeadsTo nodes n t x → LeadsTo nodes x u m
    → LeadsTo nodes n (t ++ u) m
leads_append nodes n [] u x m first second = let From : ℕ → Type 0 = λ y. LeadsTo nodes y u m in subst From (sym first) second
leads_append nodes n (b ∷ t) u x m first second = (first.0, leads_append nodes (child_of nodes n b) t u x m first.1 second)

pub leads_split : (nodes : List Node) (n : ℕ) (t u : List ℕ) (m : ℕ) → LeadsTo nodes n (t ++ u) m
    → (x : ℕ) × LeadsTo nodes n t x × LeadsTo nodes x u m
leads_split nodes n [] u m both = (n, refl, both)
leads_split nodes n (b ∷ t) u m both =
    let rest = leads_split nodes (child_of nodes n b) t u m both.1 in
    (rest.0, (both.0, rest.1), rest.2)

pub leads_one : (nodes : List Node) (n : ℕ) (t : List ℕ) (m k : ℕ) → LeadsTo nodes n t m → LeadsTo nodes n t k → m ≡ k
leads_one nodes n [] m k first second = sym first ∙ second
leads_one nodes n (b ∷ t) m k first second = leads_one nodes (child_of nodes n b) t m k first.1 second.1

pub leads_inside : (nodes : List Node) → IsLinked nodes → (n : ℕ) (t : List ℕ) (m : ℕ) → n < length nodes → LeadsTo nodes n t m
    → m < length nodes
leads_inside nodes linked n [] m inside leads = let Below : ℕ → Type 0 = λ x. x < length nodes in subst Below leads inside
leads_inside nodes linked n (b ∷ t) m inside leads =
    leads_inside nodes linked (child_of nodes n b) t m (child_inside nodes linked n b inside) leads.1

-- where each child stays, a text leads to the same node
pub leads_on : (old new : List Node) → IsLinked old
    → ((x c : ℕ) → x < length old → 0 < child_of old x c → child_of new x c ≡ child_of old x c)
    → (n : ℕ) (t : List ℕ) (m : ℕ) → n < length old → LeadsTo old n t m → LeadsTo new n t m
leads_on old new linked stays n [] m inside leads = leads
leads_on old new linked stays n (b ∷ t) m inside leads =
    let same = stays n b inside leads.0 in
    let rest = leads_on old new linked stays (child_of old n b) t m (child_inside old linked n b inside) leads.1 in
    let Some : ℕ → Type 0 = λ y. 0 < y in
    let From : ℕ → Type 0 = λ y. LeadsTo new y t m in
    (subst Some (sym same) leads.0, subst From (sym same) rest)

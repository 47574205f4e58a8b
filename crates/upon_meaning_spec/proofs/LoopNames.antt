-- A name that bindings do not have is found after them, and what is found answers whatever the root.
use Rattle.std.proofs.Common.{◌≡◌, ℕ, List, [], ◌∷◌, ◌++◌, Bool, true, false, Some, inl, inr, refl, sym, ap, ◌∙◌, bytes_eq, if◌then◌else◌}
use Rattle.std.proofs.lemmas.Slice.Eq.{bytes_eq-Decides}
use Rattle.upon_types.specs.Path.{Access, by_index, by_key, Member}
use Rattle.upon_types.specs.Val.{Val}
use Rattle.upon_lookup.specs.Environment.{Binding, Root, Environment, bind, bind_all, first_bound, binding_of}
use Rattle.upon_lookup.specs.Finding.{Finding, found, at_fault, reply}
use Rattle.upon_lookup.specs.Lookup.{maybe_bound, bound_value, or_root, lookup}
use Rattle.upon_lookup.specs.Source.{Source}
use Rattle.upon_lookup.specs.Walk.{as_some}
use Rattle.upon_meaning_spec.specs.Names.{IsName}
use Rattle.upon_meaning_spec.specs.Shadowing.{Binds}

not_taken : {A : Type 0} (x : Bool) (a b : A) → (x ≡ true → ⊥) → (if x then a else b) ≡ b
not_taken true a b h = absurd (h refl)
not_taken false a b h = refl

taken : {A : Type 0} (x : Bool) (a b : A) → x ≡ true → (if x then a else b) ≡ a
taken x a b e = ap (λ y. if y then a else b) e

found_behind : (name : List ℕ) (inside rest : List Binding) → (Binds name inside → ⊥) → first_bound name (inside ++ rest) ≡ first_bound name rest
found_behind name [] rest none = refl
found_behind name (b ∷ bs) rest none =
    not_taken (bytes_eq name b.name) (Some b.bound) (first_bound name (bs ++ rest)) (λ e. none (inl (sym ((bytes_eq-Decides name b.name).0 e))))
    ∙ found_behind name bs rest (λ h. none (inr h))

found_there : (name : List ℕ) (inside : List Binding) (b : Binding) (rest : List Binding) → b.name ≡ name → (Binds name inside → ⊥) → first_bound name (inside ++ b ∷ rest) ≡ Some b.bound
found_there name inside b rest same none =
    found_behind name inside (b ∷ rest) none ∙ taken (bytes_eq name b.name) (Some b.bound) (first_bound name rest) ((bytes_eq-Decides name b.name).1 (sym same))

answers : {V : Type 0} (ask : Source V) (x : Finding Val) (root : Root) (first : Member) (rest : List Member) (q : V) → or_root (as_some x) ask root first rest q ≡ reply x q
answers ask (found v) root first rest q = refl
answers ask (at_fault fault) root first rest q = refl

module _ {V : Type 0} (ask : Source V) (name : List ℕ) (inside : List Binding) (b : Binding) (env : Environment) (same : b.name ≡ name) (none : Binds name inside → ⊥) where
  by_selector : (selector : Access) (first : Member) (rest : List Member) (q : V) → IsName name selector → or_root (maybe_bound (binding_of selector (inside ++ b ∷ env.bindings)) rest) ask env.root first rest q ≡ reply (bound_value b.bound rest) q
  by_selector (by_index n span) first rest q h = absurd h
  by_selector (by_key word) first rest q h =
      ap (λ x. or_root (maybe_bound x rest) ask env.root first rest q) (ap (λ n. first_bound n (inside ++ b ∷ env.bindings)) h ∙ found_there name inside b env.bindings same none)
      ∙ answers ask (bound_value b.bound rest) env.root first rest q

  -- a path that begins with the name is one in what the innermost binding of it binds
  pub innermost_answers : (first : Member) (rest : List Member) (q : V) → IsName name first.access → lookup ask (bind_all inside (bind b env)) first rest q ≡ reply (bound_value b.bound rest) q
  innermost_answers first rest q h = by_selector first.access first rest q h

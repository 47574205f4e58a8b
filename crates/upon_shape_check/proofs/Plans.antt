-- Plans to which templates are added.
use Rattle.std.proofs.Common.{arith, ◌≡◌, ◌==◌, ◌⊎◌, inl, inr, ℕ, List, [], ◌∷◌, ◌++◌, length, Bool, true, false, ◌||◌, ◌&&◌, bytes_eq, refl, subst}
use Rattle.upon_meaning_spec.specs.Engine.{Table}
use Rattle.upon_shape_spec.specs.Accepted.{EachAccepted, Planned, is_planned}
use Rattle.upon_shape_spec.specs.Declared.{Declared}
use Rattle.upon_shape_spec.specs.Scope.{Scope, scope_wider}
use Rattle.upon_shape_check.specs.Verdict.{IsAcceptedBy}

-- a list of this length, which is none, has no items
pub none_left : {A : Type 0} (xs : List A) (n : ℕ) → n ≡ length xs → (n == 0) ≡ true → xs ≡ []
none_left [] n same is = refl
none_left (x ∷ xs) n same is = absurd (grind (arith, same, is))

-- one of two
pub one_of_two : (a b : Bool) → (a || b) ≡ true → (a ≡ true) ⊎ (b ≡ true)
one_of_two true b h = inl refl
one_of_two false b h = inr h

first_holds : (a b : Bool) → a ≡ true → (a || b) ≡ true
first_holds true b h = refl
first_holds false b h = absurd (cc)

second_holds : (a b : Bool) → b ≡ true → (a || b) ≡ true
second_holds true b h = refl
second_holds false b h = h

-- what a plan of two parts has, one of these has
pub in_either : (xs ys : List Planned) (name : List ℕ) (scope : Scope) → is_planned (xs ++ ys) name scope ≡ true
    → (is_planned xs name scope ≡ true) ⊎ (is_planned ys name scope ≡ true)
in_either [] ys name scope h = inr h
in_either (p ∷ xs) ys name scope h =
    let here = bytes_eq name p.name && scope_wider p.scope scope in
    elim (one_of_two here (is_planned (xs ++ ys) name scope) h) [
      | inl x ↦ inl (first_holds here (is_planned xs name scope) x)
      | inr x ↦ elim (in_either xs ys name scope x) [
        | inl y ↦ inl (second_holds here (is_planned xs name scope) y)
        | inr y ↦ inr y
      ]
    ]

-- what the first part of a plan has, the plan has
pub planned_first : (xs ys : List Planned) (name : List ℕ) (scope : Scope) → is_planned xs name scope ≡ true → is_planned (xs ++ ys) name scope ≡ true
planned_first [] ys name scope h = absurd (cc)
planned_first (p ∷ xs) ys name scope h =
    let here = bytes_eq name p.name && scope_wider p.scope scope in
    elim (one_of_two here (is_planned xs name scope) h) [
      | inl x ↦ first_holds here (is_planned (xs ++ ys) name scope) x
      | inr x ↦ second_holds here (is_planned (xs ++ ys) name scope) (planned_first xs ys name scope x)
    ]

-- what the second part has, the plan has
pub planned_second : (xs ys : List Planned) (name : List ℕ) (scope : Scope) → is_planned ys name scope ≡ true → is_planned (xs ++ ys) name scope ≡ true
planned_second [] ys name scope h = h
planned_second (p ∷ xs) ys name scope h = second_holds (bytes_eq name p.name && scope_wider p.scope scope) (is_planned (xs ++ ys) name scope) (planned_second xs ys name scope h)

-- an empty plan has none
pub in_none : (plan : List Planned) (name : List ℕ) (scope : Scope) → plan ≡ [] → is_planned plan name scope ≡ true → ⊥
in_none plan name scope none h =
    let e : is_planned [] name scope ≡ true = subst (λ (p : List Planned). is_planned p name scope ≡ true) none h in
    absurd (cc)

-- one more that is accepted
pub each_more : (declared : Declared) (table : Table) (plan xs : List Planned) (p : Planned)
    → EachAccepted declared table plan xs → IsAcceptedBy declared table plan p
    → EachAccepted declared table plan (xs ++ p ∷ [])
each_more declared table plan [] p h k = (k, tt)
each_more declared table plan (x ∷ xs) p h k = (h.0, each_more declared table plan xs p h.1 k)

-- Lists without what is repeated.
use Rattle.std.specs.Prelude.{Bool, List, [], ◌∷◌, not}
use Rattle.std.specs.List.{filter}

-- the first of elements that are the same, in their order
abbrev pub distinct : {X : Type 0} → (X → X → Bool) → List X → List X
distinct same [] = []
distinct same (x ∷ xs) = x ∷ filter (λ y. not (same x y)) (distinct same xs)

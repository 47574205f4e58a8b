-- What a greater depth changes: where includes stood too deep, the text goes on.
use Rattle.std.specs.Prelude.{◌≡◌, ◌≢◌, ℕ, List, ◌++◌}
use Rattle.upon_meaning_spec.specs.Outcome.{too_deep, Outcome}

-- an outcome is the same as the other, or its text begins the other's if it ends because includes are too deep
pub record GoesOn {Q : Type 0} (lesser greater : Outcome Q) : Type 0 where
  pub same : lesser.end ≢ too_deep → greater ≡ lesser
  pub begins : lesser.end ≡ too_deep → (rest : List ℕ) × (greater.text ≡ lesser.text ++ rest)

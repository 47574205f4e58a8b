-- What might follow the tokens of an open tag before `for .. else`.
use Rattle.std.specs.Prelude.{◌<◌, List, [], ◌∷◌, ◌++◌}
use Rattle.upon_language_spec.specs.Tags.{Symbol}
use Rattle.upon_language_spec.specs.Wanted.{Wanted, rank, shows}
use Rattle.upon_before_spec.specs.Tags.{BeginsTag}

-- this word may follow the row
abbrev pub MayFollow : List Symbol → Wanted → Type 0
MayFollow row w = BeginsTag (row ++ shows w ∷ [])

-- after the row this word may be, and none of a lesser rank
pub record IsWanted (row : List Symbol) (w : Wanted) : Type 0 where
  pub may_follow : MayFollow row w
  pub least : (v : Wanted) → rank v < rank w → MayFollow row v → ⊥

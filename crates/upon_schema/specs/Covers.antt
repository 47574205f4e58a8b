-- Shapes that are of each value that is valid, and keys that are those of each such map.
use Rattle.std.specs.Prelude.{◌≡◌, ℕ, List, Option, None}
use Rattle.upon_types.specs.Val.{Val, Entries, map_val, entry_at}
use Rattle.upon_shape_spec.specs.Fits.{Fits, KeyFits, MapsRise}
use Rattle.upon_shape_spec.specs.Shape.{Shape as SpecShape, Keys}
use Rattle.upon_shape.specs.View.{ahead}
use Rattle.upon_shape.specs.declared.shape.Key.{Key}
use Rattle.upon_shape.specs.declared.shape.Shape.{Shape}

-- each value of which this holds fits the shape, if the keys of its maps are in their order
abbrev pub Covers : SpecShape → (Val → Type 0) → Type 0
Covers s P = (v : Val) → MapsRise v → P v → Fits s v

-- what is at each key of each map of which this holds is as the keys say
abbrev pub CoversMaps : Keys → (Entries → Type 0) → Type 0
CoversMaps ks P = (es : Entries) → MapsRise (map_val es) → P es → (key : List ℕ) → KeyFits key ks (entry_at key es)

-- what is at a key is as named keys ahead of others say, if it is as the others say where the key is none of the
-- properties
abbrev pub FitsAhead : Entries → List ℕ → Option Val → List (Key Shape) → Type 0
FitsAhead properties key o named =
    (rest : Keys) → (entry_at key properties ≡ None → KeyFits key rest o) → KeyFits key (ahead named rest) o

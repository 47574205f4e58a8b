-- Which places a check on contexts shows: of each page of which it isn't known whether it ends well, those where it may
-- not. Of a page that ends well it shows nothing.
use Rattle.std.specs.Prelude.{◌≡◌, ◌⊎◌, ℕ, List, [], ◌∷◌, None}
use Rattle.upon_types.specs.declared.types.Span.{Span}
use Rattle.upon_meaning_spec.specs.Engine.{Table}
use Rattle.upon_shape_spec.specs.Accepted.{Planned}
use Rattle.upon_shape_spec.specs.Declared.{Declared}
use Rattle.upon_shape_spec.specs.Doubted.{AreDoubted, IsReached, PlaceInDoubt, planned}
use Rattle.upon_shape_spec.specs.Scope.{scope_over}
use Rattle.upon_shape_spec.specs.Shape.{Shape}
use Rattle.upon_engine.specs.Texts.{Texts}
use Rattle.upon_engine.specs.Theorem.{IsTable}
use Rattle.upon_shape_check.specs.EndsOn.{EndsOn}
use Rattle.upon_shape_check.specs.Pictures.{EachLies, ShownSoFar, ShowsWhy, Spot, nothing_shown, spots_of}
use Rattle.upon_shape_check.specs.Verdict.{IsDeepAt}
use Rattle.upon_shape_check.specs.declared.plan.TheConstants.{MOST_PLANNED}

-- these places are in doubt in the template of a name or in those that it reaches, if it is asked on a shape
abbrev pub AreInDoubt : Texts → Declared → List ℕ → Shape → List Spot → Type 0
AreInDoubt e declared name s spots = (ms : List PlaceInDoubt) × (spots ≡ spots_of ms)
    × ((table : Table) → IsTable e.texts table
    → AreDoubted declared table (planned name (scope_over s)) MOST_PLANNED ms)

-- the only place is a literal, in this template or in one that it reaches, into which something is put, and which is
-- too deep for a check
abbrev pub IsDeepLiteral : Texts → Declared → List ℕ → Shape → List Spot → Type 0
IsDeepLiteral e declared name s spots = (p : Planned) × (place : Span)
    × (spots ≡ record { template = p.name; span = place } ∷ []) × ((table : Table) → IsTable e.texts table
    → IsReached declared table (planned name (scope_over s)) p × IsDeepAt declared table p place)

-- why it isn't known that a template ends well on each value of a shape, and at which places: no text is held under the
-- name, and there is no place; or these are in doubt; or it is a literal that is too deep
abbrev pub IsUnsureAt : Texts → Declared → List ℕ → Shape → List Spot → Type 0
IsUnsureAt e declared name s spots = ((e.texts name ≡ None) × (spots ≡ []))
    ⊎ (AreInDoubt e declared name s spots ⊎ IsDeepLiteral e declared name s spots)

-- of a page that ends well nothing is shown; of another one, the places for which it isn't known that it does, each of
-- which lies in the text of its template
abbrev pub ShowsPlacesOfPage : Texts → Declared → Shape → List ℕ → ShownSoFar → ShownSoFar → Type 0
ShowsPlacesOfPage e declared s name old new = (EndsOn e declared name s × (new ≡ old))
    ⊎ ((spots : List Spot) × IsUnsureAt e declared name s spots × EachLies e spots × ShowsWhy e spots old new)

-- pages, one after the other
abbrev pub ShowsPages : Texts → Declared → Shape → List (List ℕ) → ShownSoFar → ShownSoFar → Type 0
ShowsPages e declared s [] old new = new ≡ old
ShowsPages e declared s (name ∷ names) old new = (between : ShownSoFar)
    × ShowsPlacesOfPage e declared s name old between × ShowsPages e declared s names between new

-- a text is what is shown of pages, of at most a hundred places
abbrev pub IsShownOf : Texts → Declared → Shape → List (List ℕ) → List ℕ → Type 0
IsShownOf e declared s names text =
    (left : ℕ) × ShowsPages e declared s names nothing_shown (record { left = left; text = text })

-- Which places of templates are shown, and in which order: their pictures, one after the other. Of a picture only the
-- words are free: its reason, and the hint below it.
use Rattle.std.specs.Prelude.{◌≡◌, ◌⊎◌, ◌<◌, ◌-◌, ℕ, List, [], ◌∷◌, ◌++◌, map, Option, Some, None, codes, string_bytes}
use Rattle.std.specs.Str.Iter.{HasSubslice}
use Rattle.upon_types.specs.Fault.{Fault, render, fault_at, fault_with_name}
use Rattle.upon_types.specs.Pretty.{pretty}
use Rattle.upon_types.specs.Span.{LiesIn}
use Rattle.upon_types.specs.declared.types.Span.{Span}
use Rattle.upon_shape_spec.specs.Doubted.{PlaceInDoubt}
use Rattle.upon_engine.specs.Texts.{Stored, Texts}
use Rattle.upon_shape_check.specs.Doubted.{misfits_view}
use Rattle.upon_shape_check.specs.declared.pictures.Pictures.{Pictures}
use Rattle.upon_shape_check.specs.declared.refusal.Refusal.{Refusal}
use Rattle.upon_shape_check.specs.declared.refusal.Refusal.TheVariants.{NoTemplate, Misfits, TooDeep, Memory}

-- ---- what is shown
-- how many places may still be shown, and the text so far
pub record ShownSoFar : Type 0 where
  pub left : ℕ
  pub text : List ℕ

-- the pictures so far
abbrev pub shown_view : Pictures → ShownSoFar
shown_view pictures = record { left = pictures.left; text = string_bytes pictures.text }

-- nothing is shown, and a hundred places may be
abbrev pub nothing_shown : ShownSoFar
nothing_shown = record { left = 100; text = [] }

-- a place in the template of a name
pub record Spot : Type 0 where
  pub template : List ℕ
  pub span : Span

-- where a place in doubt is
abbrev pub spot_of : PlaceInDoubt → Spot
spot_of m = record { template = m.template; span = m.doubt.place }

-- ---- the picture of one place
-- a text that is held, or the empty one
abbrev pub text_or_empty : Option Stored → List ℕ
text_or_empty None = []
text_or_empty (Some held) = held.text

-- a fault with a reason at a span of the text of the template of a name
abbrev pub spot_fault : List ℕ → List ℕ → Span → List ℕ → Fault
spot_fault name text span reason = fault_with_name name (fault_at render (Some reason) (Some (text, span)))

-- a picture with a hint below it, if there is one
abbrev pub hinted : Option (List ℕ) → List ℕ → List ℕ
hinted None picture = picture
hinted (Some hint) picture = picture ++ (codes "   = hint: " ++ (hint ++ codes "\n"))

-- The picture of a place: of a fault there, in the text that is held under the template's name. The words are free: the
-- reason, and the hint, if there is one.
pub record IsPictureOf (e : Texts) (spot : Spot) (picture : List ℕ) : Type 0 where
  pub reason : List ℕ
  pub hint : Option (List ℕ)
  pub is : picture ≡ hinted hint
      (pretty (spot_fault spot.template (text_or_empty (e.texts spot.template)) spot.span reason))

-- a text with a picture after it, behind a blank line unless it is the first
abbrev pub with_picture : List ℕ → List ℕ → List ℕ
with_picture [] picture = picture
with_picture (b ∷ bs) picture = (b ∷ bs) ++ (codes "\n" ++ picture)

-- a picture is added, and one fewer may be
abbrev pub with_one_more : List ℕ → ShownSoFar → ShownSoFar
with_one_more picture s = record { left = s.left - 1; text = with_picture s.text picture }

-- a picture is shown: it stands in the text already, and nothing changes; or it is added
abbrev pub ShowsPicture : List ℕ → ShownSoFar → ShownSoFar → Type 0
ShowsPicture picture old new =
    (HasSubslice old.text picture × (new ≡ old))
    ⊎ ((HasSubslice old.text picture → ⊥) × (new ≡ with_one_more picture old))

-- How a place is shown: nothing changes if no more may be shown, or if it does not lie in the text that is held; else a
-- picture of it is shown.
pub data ShowsPlace (e : Texts) (spot : Spot) (old new : ShownSoFar) : Type 0 where
  enough : old.left ≡ 0 → new ≡ old → ShowsPlace e spot old new
  outside : (LiesIn (text_or_empty (e.texts spot.template)) spot.span → ⊥) → new ≡ old → ShowsPlace e spot old new
  shown : (picture : List ℕ) → IsPictureOf e spot picture → 0 < old.left → ShowsPicture picture old new
      → ShowsPlace e spot old new

-- ---- the pictures of places
-- each of some places lies in the text that is held under its template's name
abbrev pub EachLies : Texts → List Spot → Type 0
EachLies e [] = Unit {0}
EachLies e (spot ∷ spots) = LiesIn (text_or_empty (e.texts spot.template)) spot.span × EachLies e spots

-- places are shown, one after the other
abbrev pub ShowsPlaces : Texts → List Spot → ShownSoFar → ShownSoFar → Type 0
ShowsPlaces e [] old new = new ≡ old
ShowsPlaces e (spot ∷ spots) old new =
    (between : ShownSoFar) × ShowsPlace e spot old between × ShowsPlaces e spots between new

-- where places in doubt are, in their order
abbrev pub spots_of : List PlaceInDoubt → List Spot
spots_of ms = map spot_of ms

-- the places for which a template is not accepted
abbrev pub places_of : Refusal → List Spot
places_of NoTemplate = []
places_of (Misfits ms) = spots_of (misfits_view ms.items)
places_of (TooDeep name span) = record { template = name.now; span = span } ∷ []
places_of (Memory error) = []

-- a text, or where it is empty the sentence that a page may fail
abbrev pub text_or_somewhere : List ℕ → List ℕ
text_or_somewhere [] = codes "a page may fail on these contexts\n"
text_or_somewhere (b ∷ bs) = b ∷ bs

-- what is shown, with that sentence if it is nothing
abbrev pub or_somewhere : ShownSoFar → ShownSoFar
or_somewhere s = record { left = s.left; text = text_or_somewhere s.text }

-- Just these places are shown, in this order; or the sentence, if there is no picture.
pub record ShowsWhy (e : Texts) (spots : List Spot) (old new : ShownSoFar) : Type 0 where
  pub between : ShownSoFar
  pub places : ShowsPlaces e spots old between
  pub is : new ≡ or_somewhere between

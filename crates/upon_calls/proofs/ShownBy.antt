-- What a check on contexts shows, by a table.
use Rattle.std.proofs.Common.{◌≡◌, ◌⊎◌, inl, inr, List, [], ◌∷◌, ℕ, Option, Some, None}
use Rattle.std.specs.Prelude.{IsSomeAnd}
use Rattle.upon_types.specs.Val.{Val}
use Rattle.upon_meaning_spec.specs.Engine.{Table}
use Rattle.upon_shape_spec.specs.Declared.{Declared}
use Rattle.upon_shape_spec.specs.Shape.{Shape}
use Rattle.upon_engine.specs.Texts.{Texts}
use Rattle.upon_engine.specs.Theorem.{IsTable}
use Rattle.upon_shape_check.specs.Pictures.{ShownSoFar, ShowsWhy, Spot}
use Rattle.upon_calls.specs.Asked.{Asked}
use Rattle.upon_calls.specs.ByTable.{IsShownBy, NamedUnsureAt, ShowsPagesBy}
use Rattle.upon_calls.specs.Calls.{AreWrongOn}
use Rattle.upon_calls.specs.Contexts.{checked_pages, Contexts}
use Rattle.upon_calls.specs.Filled.{engine_for, filled}
use Rattle.upon_calls.specs.Pictures.{ShowsWrong}
use Rattle.upon_calls.specs.Places.{IsShownOf, IsUnsureAt, ShowsPages, ShowsPlacesOfPage}
use Rattle.upon_calls.specs.Unsure.{declared_as}
use Rattle.upon_calls.proofs.Filled.{begun_syntax}
use Rattle.upon_calls.proofs.HeldTrees.{right_trees}
use Rattle.upon_calls.proofs.Tables.{has_table, no_text_has_tree}

module _ (e : Texts) (declared : Declared) (table : Table) (s : Shape) (is : IsTable e.texts table) where
  unsure_at : (name : List ℕ) (spots : List Spot) → IsUnsureAt e declared name s spots → NamedUnsureAt e declared table name s spots
  unsure_at name spots (inl none) = inl none
  unsure_at name spots (inr (inl doubts)) = inr (inl (doubts.0, doubts.1, doubts.2 table is))
  unsure_at name spots (inr (inr deep)) =
      let it = deep.3 table is in
      inr (inr (deep.0, deep.1, deep.2, it.0, it.1))

  page_by : (name : List ℕ) (old new : ShownSoFar) → ShowsPlacesOfPage e declared s name old new
      → (new ≡ old) ⊎ ((spots : List Spot) × NamedUnsureAt e declared table name s spots × ShowsWhy e spots old new)
  page_by name old new (inl ends) = inl ends.1
  page_by name old new (inr shown) = inr (shown.0, unsure_at name shown.0 shown.1, shown.3)

  pages_by : (names : List (List ℕ)) (old new : ShownSoFar) → ShowsPages e declared s names old new → ShowsPagesBy e declared table s names old new
  pages_by [] old new shown = shown
  pages_by (name ∷ names) old new shown = (shown.0, page_by name old shown.0 shown.1, pages_by names shown.0 new shown.2)

shown_by : (asked : Asked) (contexts : Option Contexts) (sources : List (List ℕ × List ℕ)) (table : Table) (text : List ℕ) → IsTable (filled asked sources).texts table
    → IsSomeAnd contexts (λ given. IsShownOf (filled asked sources) (declared_as asked) given.shape (checked_pages given.pages sources) text)
    → IsSomeAnd contexts (λ given. IsShownBy (filled asked sources) (declared_as asked) table given.shape (checked_pages given.pages sources) text)
shown_by asked None sources table text is shows = shows
shown_by asked (Some given) sources table text is shows =
    (shows.0, pages_by (filled asked sources) (declared_as asked) table given.shape is (checked_pages given.pages sources) _ _ shows.1)

pub shown_or_placed : (asked : Asked) (contexts : Option Contexts) (v : Val) (sources : List (List ℕ × List ℕ)) (text : List ℕ) → AreWrongOn asked contexts v sources text
    → ShowsWrong asked.delimiters v sources text ⊎ ((table : Table) × IsTable (filled asked sources).texts table
    × IsSomeAnd contexts (λ given. IsShownBy (filled asked sources) (declared_as asked) table given.shape (checked_pages given.pages sources) text))
shown_or_placed asked contexts v sources text (inl shows) = inl shows
shown_or_placed asked contexts v sources text (inr doubt) =
    let each = right_trees asked.delimiters v sources (engine_for asked) (begun_syntax asked) (no_text_has_tree asked) doubt.right in
    let it = has_table (filled asked sources) each in
    inr (it.0, it.1, shown_by asked contexts sources it.0 text it.1 doubt.shows)

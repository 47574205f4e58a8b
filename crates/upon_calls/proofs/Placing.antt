-- Places of pages that are shown, page by page.
use Rattle.std.proofs.Common.{◌≡◌, ◌<◌, ◌≤◌, ◌+◌, ◌∷◌, ℕ, List, [], Bor, Result, Ok, Err, drop, get_or, inl, inr, length, refl, sym, subst}
use Rattle.std.specs.Prelude.{IsErr, OnOk}
use Rattle.std.proofs.lemmas.Bool.{false≢true}
use Rattle.std.proofs.lemmas.List.{drop_all, drop_more}
use Rattle.upon_shape_spec.specs.Declared.{Declared}
use Rattle.upon_shape_spec.specs.Shape.{Shape}
use Rattle.upon_needs.specs.Names.{texts}
use Rattle.upon_engine.specs.Texts.{Texts}
use Rattle.upon_shape_check.specs.Doubted.{DoubtedOn, IsMissing, IsNoMemory, misfits_view}
use Rattle.upon_shape_check.specs.Pictures.{ShownSoFar, ShowsWhy, nothing_shown, places_of}
use Rattle.upon_shape_check.specs.declared.refusal.Refusal.{Refusal}
use Rattle.upon_shape_check.specs.declared.refusal.Refusal.TheVariants.{NoTemplate, Misfits, TooDeep, Memory}
use Rattle.upon_calls.specs.Places.{IsUnsureAt, ShowsPlacesOfPage, ShowsPages}

-- ---- one page
-- the places for which a template is refused
pub refused_at : (e : Texts) (declared : Declared) (name : List ℕ) (s : Shape) (r : Refusal) → (IsNoMemory r → ⊥) → DoubtedOn e declared name s r → IsMissing e name r → IsUnsureAt e declared name s (places_of r)
refused_at e declared name s NoTemplate some doubted missing = inl (missing, refl)
refused_at e declared name s (Misfits ms) some doubted missing = inr (inl (misfits_view ms.items, refl, doubted))
refused_at e declared name s (TooDeep at place) some doubted missing =
    inr (inr (doubted.0, place, subst (λ (n : List ℕ). places_of (TooDeep at place) ≡ record { template = n; span = place } ∷ []) (sym doubted.1) refl, doubted.2))
refused_at e declared name s (Memory error) some doubted missing = absurd (some tt)

-- what is so where a call ends well, unless it fails
pub shown_unless : {A E : Type 0} (r : Result A E) (N P Q : Type 0) → (N → IsErr r) → OnOk r P → ((N → ⊥) → P → Q) → OnOk r Q
shown_unless (Ok a) N P Q fails so then = then (λ n. absurd (false≢true (fails n))) so
shown_unless (Err e) N P Q fails so then = tt

-- ---- one page after the other
-- the pages so far are shown: each way on from here is a way on from the start
abbrev pub ShowsOn : Texts → Declared → Shape → List (List ℕ) → List (List ℕ) → ShownSoFar → Type 0
ShowsOn e declared s all rest now =
    (new : ShownSoFar) → ShowsPages e declared s rest now new → ShowsPages e declared s all nothing_shown new

pub page_shown : (e : Texts) (declared : Declared) (s : Shape) (names : List (Bor (List ℕ))) (i : ℕ) (d : Bor (List ℕ)) (old new : ShownSoFar) → i < length names → ShowsOn e declared s (texts names) (texts (drop i names)) old
    → ShowsPlacesOfPage e declared s (get_or names i d).now old new → ShowsOn e declared s (texts names) (texts (drop (i + 1) names)) new
page_shown e declared s names i d old new inside on page = λ last more.
    on last (subst (λ (rest : List (Bor (List ℕ))). ShowsPages e declared s (texts rest) old last) (sym (drop_more names i d inside)) (new, page, more))

pub all_shown : (e : Texts) (declared : Declared) (s : Shape) (names : List (Bor (List ℕ))) (i : ℕ) (now : ShownSoFar) → length names ≤ i → ShowsOn e declared s (texts names) (texts (drop i names)) now → ShowsPages e declared s (texts names) nothing_shown now
all_shown e declared s names i now done on =
    on now (subst (λ (rest : List (Bor (List ℕ))). ShowsPages e declared s (texts rest) now now) (sym (drop_all i names done)) refl)

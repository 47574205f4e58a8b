-- Places that are shown, one after the other.
use Rattle.std.proofs.Common.{◌≡◌, ◌<◌, ◌≤◌, ◌+◌, ◌∷◌, ℕ, List, [], Result, Ok, Err, drop, get_or, length, refl, sym, subst}
use Rattle.std.specs.Prelude.{OnOk}
use Rattle.std.proofs.lemmas.List.{drop_all, drop_more}
use Rattle.upon_types.specs.declared.types.Span.{Span}
use Rattle.upon_engine.specs.Texts.{Texts}
use Rattle.upon_shape_check.specs.Doubted.{misfit_view, misfits_view}
use Rattle.upon_shape_check.specs.Pictures.{ShownSoFar, ShowsPlace, ShowsPlaces, ShowsWhy, Spot, or_somewhere, spot_of, spots_of}
use Rattle.upon_shape_check.specs.declared.refusal.Misfit.{Misfit}

-- what follows where a call ends well
pub ok_then : {A E : Type 0} (r : Result A E) (P Q : Type 0) → OnOk r P → (P → Q) → OnOk r Q
ok_then (Ok a) P Q so then = then so
ok_then (Err e) P Q so then = tt

abbrev pub shown_as : ℕ → List ℕ → ShownSoFar
shown_as left text = record { left = left; text = text }

-- one place is shown, of a template and a span that are these
pub only_shown : {A E : Type 0} (r : Result A E) (e : Texts) (name other : List ℕ) (span at : Span) (old new : ShownSoFar) → other ≡ name → at ≡ span → OnOk r (ShowsPlace e (record { template = other; span = at }) old new)
    → OnOk r (ShowsPlaces e (record { template = name; span = span } ∷ []) old new)
only_shown r e name other span at old new same is shows =
    ok_then r _ _ shows (λ place. (
      new,
      subst (λ (at : Span). ShowsPlace e (record { template = name; span = at }) old new) is
          (subst (λ (n : List ℕ). ShowsPlace e (record { template = n; span = at }) old new) same place),
      refl,
    ))

-- places are shown, and then a sentence if there is no text
pub why_shown : {A E : Type 0} (r : Result A E) (e : Texts) (spots : List Spot) (old between new : ShownSoFar) → ShowsPlaces e spots old between → OnOk r (new ≡ or_somewhere between) → OnOk r (ShowsWhy e spots old new)
why_shown r e spots old between new shows said = ok_then r _ _ said (λ is. record { between = between; places = shows; is = is })

-- ---- one place after the other
-- the places so far are shown: each way on from here is a way on from the start
abbrev pub ShowsOn : Texts → List Spot → List Misfit → ShownSoFar → ShownSoFar → Type 0
ShowsOn e all rest start now =
    (new : ShownSoFar) → ShowsPlaces e (spots_of (misfits_view rest)) now new → ShowsPlaces e all start new

pub one_shown : (e : Texts) (all : List Spot) (ms : List Misfit) (i : ℕ) (m : Misfit) (start old new : ShownSoFar) → i < length ms → m ≡ get_or ms i m → ShowsOn e all (drop i ms) start old → ShowsPlace e (spot_of (misfit_view m)) old new
    → ShowsOn e all (drop (i + 1) ms) start new
one_shown e all ms i m start old new inside is on place = λ last more.
    on last (subst (λ (rest : List Misfit). ShowsPlaces e (spots_of (misfits_view rest)) old last) (sym (drop_more ms i m inside))
    (new, subst (λ (m : Misfit). ShowsPlace e (spot_of (misfit_view m)) old new) is place, more))

pub all_shown : (e : Texts) (all : List Spot) (ms : List Misfit) (i : ℕ) (start now : ShownSoFar) → length ms ≤ i → ShowsOn e all (drop i ms) start now → ShowsPlaces e all start now
all_shown e all ms i start now done on =
    on now (subst (λ (rest : List Misfit). ShowsPlaces e (spots_of (misfits_view rest)) now now) (sym (drop_all i ms done)) refl)

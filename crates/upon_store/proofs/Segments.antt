-- The first segment of a text, and the others.
use Rattle.std.proofs.Common.{◌≡◌, ℕ, ◌<◌, List, [], ◌∷◌, length, true, false, refl, arith, Option, Some, None, Bor}
use Rattle.std.specs.List.{position_or_len, before_first, after_first}
use Rattle.std.specs.Option.{MatchOption, IfNone, IfSome}
use Rattle.std.proofs.lemmas.List.Splits.{slice_split_none, slice_split_first}
use Rattle.std.proofs.Math.Bool.{and-true}
use Rattle.std.proofs.lemmas.List.Sums.{fails_before_first}
use Rattle.upon_store.specs.Paths.{is_slash, segments, is_segment, is_path}

-- what `split_once` ensures at a slash
abbrev pub SplitsAtSlash : List ℕ → Option (Bor (List ℕ) × Bor (List ℕ)) → Type 0
SplitsAtSlash text r = MatchOption r (position_or_len is_slash text ≡ length text)
    (λ x. (x.0.now ≡ before_first is_slash text) × (x.1.now ≡ after_first is_slash text) × (position_or_len is_slash text < length text))

pub whole_text : (text : List ℕ) (r : Option (Bor (List ℕ) × Bor (List ℕ))) → SplitsAtSlash text r
    → IfNone r (segments text ≡ text ∷ [])
whole_text text None h = slice_split_none is_slash text (λ k d lt. fails_before_first is_slash text k d (omega (arith, h)))
whole_text text (Some x) h = tt

pub first_and_rest : (text : List ℕ) (r : Option (Bor (List ℕ) × Bor (List ℕ))) → SplitsAtSlash text r
    → IfSome r (λ x. segments text ≡ x.0.now ∷ segments x.1.now)
first_and_rest text None h = tt
first_and_rest text (Some x) h = rw (h.0, h.1) (slice_split_first is_slash text 0 h.2)

pub path_last : (text : List ℕ) → segments text ≡ text ∷ [] → is_path text ≡ is_segment text
unfolding is_path
path_last text h = rw h (and-true (is_segment text))

pub path_on : (text first rest : List ℕ) → segments text ≡ first ∷ segments rest → is_segment first ≡ true
    → is_path text ≡ is_path rest
unfolding is_path
path_on text first rest h is = rw (h, is) refl

pub no_path : (text first rest : List ℕ) → segments text ≡ first ∷ segments rest → is_segment first ≡ false
    → is_path text ≡ false
unfolding is_path
no_path text first rest h is = rw (h, is) refl

-- The pairs of bytes with which default delimiters begin, or which follow their first byte.
use Rattle.std.specs.Prelude.{◌≡◌, ℕ, ◌+◌, ◌<◌, ◌≤◌, ◌==◌, List, Bool, ◌&&◌, ◌||◌, true, slice_index}

-- two bytes are `{{`, `{%`, `{#`, `}}`, `%}` or `#}`
abbrev pub is_pair : ℕ → ℕ → Bool
is_pair b c = ((b == 123) && ((c == 123) || (c == 37) || (c == 35)))
    || (((b == 125) || (b == 37) || (b == 35)) && (c == 125))

-- a pair is at an offset of a text
abbrev pub HasPair : List ℕ → ℕ → Type 0
HasPair s q = is_pair (slice_index s q) (slice_index s (q + 1)) ≡ true

-- no pair begins at an offset or after it, and before another
abbrev pub NoPairIn : List ℕ → ℕ → ℕ → Type 0
NoPairIn s at end = (q : ℕ) → at ≤ q → q < end → HasPair s q → ⊥

-- the byte at an offset belongs to no pair that begins at or after another offset
abbrev pub NoPairWith : List ℕ → ℕ → ℕ → Type 0
NoPairWith s at brace = (q : ℕ) → at ≤ q → q ≤ brace → brace ≤ q + 1 → HasPair s q → ⊥

-- the first pair that it belongs to
pub record IsFirstPairWith (s : List ℕ) (at brace pair : ℕ) : Type 0 where
  pub after : at ≤ pair
  pub before : pair ≤ brace
  pub first : (q : ℕ) → at ≤ q → q ≤ brace → brace ≤ q + 1 → q < pair → HasPair s q → ⊥

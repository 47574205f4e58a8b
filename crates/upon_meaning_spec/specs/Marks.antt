-- Where the bytes of a kind are in a rendering's text.
use Rattle.std.specs.Prelude.{◌≡◌, ℕ, List, [], ◌∷◌, ◌++◌, Bool, false, if◌then◌else◌, ◌||◌}
use Rattle.upon_types.specs.Span.{slice}
use Rattle.upon_meaning_spec.specs.Parts.{Each, WroteSuch}
use Rattle.upon_meaning_spec.specs.Pieces.{TextPiece, raw_part, written, joined}

-- one of these bytes is in the text
abbrev pub has : (ℕ → Bool) → List ℕ → Bool
has p [] = false
has p (b ∷ bs) = p b || has p bs

-- these bytes of a text, in order
abbrev pub only : (ℕ → Bool) → List ℕ → List ℕ
only p [] = []
only p (b ∷ bs) = if p b then b ∷ only p bs else only p bs

-- the raw parts of the pieces, joined
abbrev pub raw_text : List TextPiece → List ℕ
raw_text [] = []
raw_text (raw_part from span ∷ ps) = slice from.source span ++ raw_text ps
raw_text (written format v ∷ ps) = raw_text ps

-- the text is these pieces joined, of which the raw parts alone hold these bytes: they are the raw parts' own, in order
pub record FromRawParts (p : ℕ → Bool) (pieces : List TextPiece) (text : List ℕ) : Type 0 where
  pub joins : text ≡ joined pieces
  pub unwritten : Each (WroteSuch (λ w. has p w ≡ false)) pieces
  pub theirs : only p text ≡ only p (raw_text pieces)

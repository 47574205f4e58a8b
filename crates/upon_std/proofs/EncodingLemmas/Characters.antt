-- The characters of a text, one after the other.
use Rattle.std.proofs.Common.{◌≡◌, ℕ, List, [], ◌∷◌, length, chars, arith}
use Rattle.std.proofs.lemmas.Str.{chars-nil}

-- no bytes are no characters
pub no_chars : (bs : List ℕ) → length bs ≡ 0 → chars bs ≡ []
no_chars [] h = chars-nil
no_chars (b ∷ bs) h = absurd (omega (arith, h))

-- The columns that characters and texts take in a terminal.
use Rattle.std.specs.Prelude.{ℕ, ◌+◌, List, [], ◌∷◌, false, unwrap_or}
use Rattle.unicode_width.specs.Width.{char_width}

-- the columns of a character by itself, where ambiguous ones are narrow; 0 of a control character, which has no width
abbrev pub width : ℕ → ℕ
width c = unwrap_or (char_width false c) 0

-- the columns of characters, one beside the other
abbrev pub columns_of : List ℕ → ℕ
columns_of [] = 0
columns_of (c ∷ cs) = width c + columns_of cs

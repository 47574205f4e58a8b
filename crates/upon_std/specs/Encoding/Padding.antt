-- Texts that are filled up with blanks.
use Rattle.std.specs.Prelude.{ℕ, ◌-◌, ◌/◌, List, ◌++◌, chars, codes}
use Rattle.std.specs.List.{repeat}
use Rattle.upon_std.specs.Encoding.Columns.{columns_of}

-- so many blanks
abbrev pub blank_text : ℕ → List ℕ
blank_text n = repeat n (codes " ")

-- how many blanks fill a text up to so many columns; none, if it has as many or more
abbrev pub missing : ℕ → List ℕ → ℕ
missing n text = n - columns_of (chars text)

-- a text with blanks before it, up to so many columns
abbrev pub padded_left : ℕ → List ℕ → List ℕ
padded_left n text = blank_text (missing n text) ++ text

-- a text with blanks after it, up to so many columns
abbrev pub padded_right : ℕ → List ℕ → List ℕ
padded_right n text = text ++ blank_text (missing n text)

-- a text with blanks on both sides, one more after it where their number is odd
abbrev pub between : ℕ → List ℕ → List ℕ
between n text = blank_text (n / 2) ++ (text ++ blank_text (n - n / 2))

-- a text in the middle of so many columns
abbrev pub centered : ℕ → List ℕ → List ℕ
centered n text = between (missing n text) text

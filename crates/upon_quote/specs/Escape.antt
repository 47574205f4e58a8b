-- What an escape is written as.
use Rattle.std.specs.Prelude.{◌≡◌, ℕ, List, ◌++◌, Option, option_map, codes}
use Rattle.upon_quote.specs.declared.escapes.Escape.{Escape}
use Rattle.upon_quote.specs.declared.escapes.Escape.TheVariants.{Text, TwoDigits, FourDigits}
use Rattle.upon_quote.specs.Hex.{two_digits, four_digits}

-- the text of a character's escape
abbrev pub escape_text : ℕ → Escape → List ℕ
escape_text c (Text text) = text.now
escape_text c TwoDigits = codes "\\x" ++ two_digits c
escape_text c FourDigits = codes "\\u" ++ four_digits c

-- code answers this escape of a character, or none
abbrev pub IsEscapeFor : ℕ → Option Escape → Option (List ℕ) → Type 0
IsEscapeFor c r escape = option_map (escape_text c) r ≡ escape

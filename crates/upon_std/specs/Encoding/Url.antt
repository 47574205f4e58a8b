-- Percent encoding of bytes in a URL (RFC 3986, section 2.1).
use Rattle.std.specs.Prelude.{ℕ, ◌/◌, ◌%◌, Bool, true, ◌||◌, ◌==◌, List, [], ◌∷◌, ◌++◌, if◌then◌else◌}
use Rattle.std.specs.Char.{is_ascii_alphanumeric}
use Rattle.std.specs.Fmt.{digit_glyph}
use Rattle.std.specs.Str.{byte}

-- letters, digits and `-._~`, which stand for themselves everywhere (section 2.3)
abbrev pub is_unreserved : ℕ → Bool
is_unreserved b =
    is_ascii_alphanumeric b || ((b == byte "-") || ((b == byte ".") || ((b == byte "_") || (b == byte "~"))))

-- `%` and the two hexadecimal digits of a byte, in upper case
abbrev pub escaped_byte : ℕ → List ℕ
escaped_byte b = byte "%" ∷ digit_glyph true (b / 16) ∷ digit_glyph true (b % 16) ∷ []

-- a byte as itself if it is unreserved, else as its escape
abbrev pub url_byte : ℕ → List ℕ
url_byte b = if is_unreserved b then b ∷ [] else escaped_byte b

-- bytes one after the other
abbrev pub url_text : List ℕ → List ℕ
url_text [] = []
url_text (b ∷ bs) = url_byte b ++ url_text bs

-- what may be in an encoded text: an unreserved byte, or the `%` that begins an escape
abbrev pub is_url_byte : ℕ → Bool
is_url_byte b = is_unreserved b || (b == byte "%")

-- Texts as the content of JSON strings: what is between the quotes (RFC 8259, section 7).
use Rattle.std.specs.Prelude.{ℕ, List, [], ◌∷◌, ◌++◌, drop, Option, Some, None, ◌||◌, ◌==◌, nat_eq, nat_lt, if◌then◌else◌, codes, option_map}
use Rattle.std.specs.Char.Utf16.{is_high_surrogate, is_low_surrogate, surrogate_pair_char}
use Rattle.std.specs.List.{starts_with}
use Rattle.std.specs.Str.{byte}
use Rattle.upon_quote.specs.Hex.{four_digits, number_of}
use Rattle.upon_quote.specs.Quoted.{Escapes, quoted_by}
use Rattle.upon_quote.specs.Reading.{CharacterReader, content_by}

-- the escape of `"`, `\` and the control characters, and of the line separators of JavaScript
abbrev pub json_escape_of : Escapes
json_escape_of c = if c == byte "\"" then Some (codes "\\\"") else
    (if c == byte "\\" then Some (codes "\\\\") else
    (if c == 0x8 then Some (codes "\\b") else
    (if c == 0x9 then Some (codes "\\t") else
    (if c == 0xA then Some (codes "\\n") else
    (if c == 0xC then Some (codes "\\f") else
    (if c == 0xD then Some (codes "\\r") else
    (if nat_lt c 0x20 || ((c == 0x2028) || (c == 0x2029)) then Some (codes "\\u" ++ four_digits c) else None)))))))

-- a text as the content of a string
abbrev pub quoted_json : List ℕ → List ℕ
quoted_json text = quoted_by json_escape_of text

-- the character that a letter after `\` means
abbrev pub json_named : ℕ → Option ℕ
json_named c = if c == byte "\"" then Some (byte "\"") else
    (if c == byte "\\" then Some (byte "\\") else
    (if c == byte "/" then Some (byte "/") else
    (if c == byte "b" then Some 0x8 else
    (if c == byte "f" then Some 0xC else
    (if c == byte "n" then Some 0xA else
    (if c == byte "r" then Some 0xD else
    (if c == byte "t" then Some 0x9 else None)))))))

-- the second of two surrogates: it has an escape of its own
abbrev pub low_behind : List ℕ → Option ℕ
low_behind cs = if starts_with nat_eq cs (codes "\\u") then number_of 4 (drop 2 cs) else None

-- the character of two surrogates
abbrev pub pair_with : ℕ → Option ℕ → Option (ℕ × ℕ)
pair_with high None = None
pair_with high (Some low) = if is_low_surrogate low then Some (surrogate_pair_char high low, 11) else None

-- the character of a unit of UTF-16, which a surrogate is only in a pair
abbrev pub json_unit : Option ℕ → List ℕ → Option (ℕ × ℕ)
json_unit None cs = None
json_unit (Some u) cs = if is_high_surrogate u then pair_with u (low_behind cs) else
    (if is_low_surrogate u then None else Some (u, 5))

-- what `\` and the characters after it mean
abbrev pub json_escaped : List ℕ → Option (ℕ × ℕ)
json_escaped [] = None
json_escaped (c ∷ cs) = if c == byte "u" then json_unit (number_of 4 cs) (drop 4 cs) else
    option_map (λ x. (x, 1)) (json_named c)

-- `\` begins an escape; `"` ends the content, and no control character is in it; each other character is itself
abbrev pub json_reads : CharacterReader
json_reads c cs = if c == byte "\\" then json_escaped cs else
    (if (c == byte "\"") || nat_lt c 0x20 then None else Some (c, 0))

-- the text that the content of a string has
abbrev pub json_content : List ℕ → Option (List ℕ)
json_content cs = content_by json_reads cs

-- Texts as the content of double-quoted scalars of YAML: what is between the quotes, on one line
-- (YAML 1.2.2, section 7.3.1, with the escapes of section 5.7).
use Rattle.std.specs.Prelude.{ℕ, List, [], ◌∷◌, ◌++◌, Option, Some, None, Bool, ◌||◌, ◌&&◌, not, ◌==◌, nat_lt, nat_le, if◌then◌else◌, codes, option_map}
use Rattle.std.specs.Int.{is_in_range}
use Rattle.std.specs.Str.{byte}
use Rattle.upon_quote.specs.Hex.{two_digits, four_digits, number_of}
use Rattle.upon_quote.specs.Quoted.{Escapes, quoted_by}
use Rattle.upon_quote.specs.Reading.{CharacterReader, content_by}

-- a control character, or a space that is none of ASCII
abbrev pub is_yaml_control : ℕ → Bool
is_yaml_control c = nat_lt c 0x20 || (nat_le 0x7F c && nat_le c 0xA0)

-- a line or paragraph separator, a byte order mark, or no character that Unicode assigns
abbrev pub is_yaml_special : ℕ → Bool
is_yaml_special c = (c == 0x2028) || ((c == 0x2029) || ((c == 0xFEFF) || ((c == 0xFFFE) || (c == 0xFFFF))))

-- the escape of `"`, `\` and each character that is not printable or that could be taken for a space or a line break
abbrev pub yaml_escape_of : Escapes
yaml_escape_of c = if c == byte "\"" then Some (codes "\\\"") else
    (if c == byte "\\" then Some (codes "\\\\") else
    (if c == 0x0 then Some (codes "\\0") else
    (if c == 0x9 then Some (codes "\\t") else
    (if c == 0xA then Some (codes "\\n") else
    (if c == 0xD then Some (codes "\\r") else
    (if is_yaml_control c then Some (codes "\\x" ++ two_digits c) else
    (if is_yaml_special c then Some (codes "\\u" ++ four_digits c) else None)))))))

-- a text as the content of a scalar
abbrev pub quoted_yaml : List ℕ → List ℕ
quoted_yaml text = quoted_by yaml_escape_of text

-- the character that a letter after `\` means
abbrev pub yaml_named : ℕ → Option ℕ
yaml_named c = if c == byte "0" then Some 0x0 else
    (if c == byte "a" then Some 0x7 else
    (if c == byte "b" then Some 0x8 else
    (if (c == byte "t") || (c == 0x9) then Some 0x9 else
    (if c == byte "n" then Some 0xA else
    (if c == byte "v" then Some 0xB else
    (if c == byte "f" then Some 0xC else
    (if c == byte "r" then Some 0xD else
    (if c == byte "e" then Some 0x1B else
    (if c == byte " " then Some 0x20 else
    (if c == byte "\"" then Some 0x22 else
    (if c == byte "/" then Some 0x2F else
    (if c == byte "\\" then Some 0x5C else
    (if c == byte "N" then Some 0x85 else
    (if c == byte "_" then Some 0xA0 else
    (if c == byte "L" then Some 0x2028 else
    (if c == byte "P" then Some 0x2029 else None))))))))))))))))

-- a number as the character that it is, with so many characters more; none, if no character has this number
abbrev pub yaml_number : ℕ → Option ℕ → Option (ℕ × ℕ)
yaml_number more None = None
yaml_number more (Some c) =
    if nat_lt c 0xD800 || (nat_le 0xE000 c && nat_le c 0x10FFFF) then Some (c, more) else None

-- what `\` and the characters after it mean
abbrev pub yaml_escaped : List ℕ → Option (ℕ × ℕ)
yaml_escaped [] = None
yaml_escaped (c ∷ cs) = if c == byte "x" then yaml_number 3 (number_of 2 cs) else
    (if c == byte "u" then yaml_number 5 (number_of 4 cs) else
    (if c == byte "U" then yaml_number 9 (number_of 8 cs) else option_map (λ x. (x, 1)) (yaml_named c)))

-- `\` begins an escape; `"` ends the content, and no control character of ASCII but a tabulator is in it, so that it is
-- on one line; each other character is itself
abbrev pub yaml_reads : CharacterReader
yaml_reads c cs = if c == byte "\\" then yaml_escaped cs else
    (if (c == byte "\"") || (nat_lt c 0x20 && not (c == 0x9)) then None else Some (c, 0))

-- the text that the content of a scalar has
abbrev pub yaml_content : List ℕ → Option (List ℕ)
yaml_content cs = content_by yaml_reads cs

-- a printable character that is no space but that of ASCII, no line break and no byte order mark
abbrev pub is_visible : ℕ → Bool
is_visible c = is_in_range 0x20 0x7E c ||
    ((is_in_range 0xA1 0xD7FF c && not ((c == 0x2028) || (c == 0x2029))) ||
    ((is_in_range 0xE000 0xFFFD c && not (c == 0xFEFF)) || is_in_range 0x10000 0x10FFFF c))

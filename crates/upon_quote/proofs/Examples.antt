-- What some contents and words read as, and which are none.
use Rattle.std.proofs.Common.{◌≡◌, [], ◌∷◌, ◌++◌, Some, None, codes, refl}
use Rattle.upon_quote.specs.Json.{json_content, quoted_json}
use Rattle.upon_quote.specs.Shell.{quoted_shell, shell_word}
use Rattle.upon_quote.specs.Yaml.{quoted_yaml, yaml_content}

-- ---- JSON: each escape, in either case of its digits, and a pair of surrogates
json_escapes : json_content (codes "\\\"\\\\\\/\\b\\f\\n\\r\\t") ≡ Some (0x22 ∷ 0x5C ∷ 0x2F ∷ 0x8 ∷ 0xC ∷ 0xA ∷ 0xD ∷ 0x9 ∷ [])
json_escapes = refl

json_units : json_content (codes "a\\u0041\\u00e9\\u00E9\\uD83D\\ude00") ≡ Some (0x61 ∷ 0x41 ∷ 0xE9 ∷ 0xE9 ∷ 0x1F600 ∷ [])
json_units = refl

-- a quote or a control character ends the content; an escape that is not whole, one of no letter and a lone surrogate are none
json_quote : json_content (codes "a\"b") ≡ None
json_quote = refl

json_line_feed : json_content (codes "a" ++ (0xA ∷ [])) ≡ None
json_line_feed = refl

json_open : json_content (codes "a\\") ≡ None
json_open = refl

json_short : json_content (codes "\\u00e") ≡ None
json_short = refl

json_no_digit : json_content (codes "\\u00eg") ≡ None
json_no_digit = refl

json_no_letter : json_content (codes "\\x41") ≡ None
json_no_letter = refl

json_high : json_content (codes "\\ud83d") ≡ None
json_high = refl

json_low : json_content (codes "\\ude00\\ud83d") ≡ None
json_low = refl

json_written : quoted_json (0x61 ∷ 0x22 ∷ 0x1F ∷ 0x2028 ∷ 0xE9 ∷ []) ≡ codes "a\\\"\\u001f\\u2028" ++ (0xE9 ∷ [])
json_written = refl

-- ---- YAML: each escape
yaml_escapes : yaml_content (codes "\\0\\a\\b\\t\\n\\v\\f\\r\\e\\ \\\"\\/\\\\\\N\\_\\L\\P") ≡ Some (0x0 ∷ 0x7 ∷ 0x8 ∷ 0x9 ∷ 0xA ∷ 0xB ∷ 0xC ∷ 0xD ∷ 0x1B ∷ 0x20 ∷ 0x22 ∷ 0x2F ∷ 0x5C ∷ 0x85 ∷ 0xA0 ∷ 0x2028 ∷ 0x2029 ∷ [])
yaml_escapes = refl

yaml_numbers : yaml_content (codes "a\\x41\\u00e9\\u2028\\U0001F600") ≡ Some (0x61 ∷ 0x41 ∷ 0xE9 ∷ 0x2028 ∷ 0x1F600 ∷ [])
yaml_numbers = refl

yaml_tabulator : yaml_content (0x9 ∷ []) ≡ Some (0x9 ∷ [])
yaml_tabulator = refl

-- a quote ends the content, and a line break its line; a number is that of a character
yaml_quote : yaml_content (codes "a\"b") ≡ None
yaml_quote = refl

yaml_line_feed : yaml_content (codes "a" ++ (0xA ∷ [])) ≡ None
yaml_line_feed = refl

yaml_folded : yaml_content (codes "a\\" ++ (0xA ∷ [])) ≡ None
yaml_folded = refl

yaml_short : yaml_content (codes "\\x4") ≡ None
yaml_short = refl

yaml_no_letter : yaml_content (codes "\\'") ≡ None
yaml_no_letter = refl

yaml_surrogate : yaml_content (codes "\\uD83D\\uDE00") ≡ None
yaml_surrogate = refl

yaml_large : yaml_content (codes "\\U00110000") ≡ None
yaml_large = refl

yaml_written : quoted_yaml (0x61 ∷ 0x22 ∷ 0x1F ∷ 0x85 ∷ 0xFEFF ∷ 0xE9 ∷ []) ≡ codes "a\\\"\\x1f\\x85\\ufeff" ++ (0xE9 ∷ [])
yaml_written = refl

-- ---- the shell: parts in quotes and characters behind `\`, one behind the other
shell_parts : shell_word (codes "'a b'\\''$c'\\d''") ≡ Some (codes "a b'$cd")
shell_parts = refl

shell_empty : shell_word (codes "''") ≡ Some []
shell_empty = refl

-- nothing is no word; all else may mean more; quotes are closed
shell_nothing : shell_word [] ≡ None
shell_nothing = refl

shell_bare : shell_word (codes "'a';b") ≡ None
shell_bare = refl

shell_two : shell_word (codes "'a' 'b'") ≡ None
shell_two = refl

shell_open : shell_word (codes "'a") ≡ None
shell_open = refl

shell_behind : shell_word (codes "'a'\\") ≡ None
shell_behind = refl

shell_line_feed : shell_word (codes "'a'\\" ++ (0xA ∷ [])) ≡ None
shell_line_feed = refl

shell_nul : shell_word (codes "'" ++ (0x0 ∷ codes "'")) ≡ None
shell_nul = refl

shell_written : quoted_shell (codes "it's") ≡ codes "'it'\\''s'"
shell_written = refl

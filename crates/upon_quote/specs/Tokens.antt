-- What formatters write that quote: the content of one token.
use Rattle.std.specs.Prelude.{ℕ, List, [], ◌∷◌, ◌++◌, Option, Some, None, Bool, true, false, chars, codes, encode_utf8}
use Rattle.std.specs.Str.{byte}
use Rattle.upon_types.specs.Answers.{FormatEnd, Formatted, Formatter, well, refused}
use Rattle.upon_meaning_spec.specs.DefaultFormat.{default_format}
use Rattle.upon_quote.specs.Json.{json_escape_of}
use Rattle.upon_quote.specs.Quoted.{Escapes}
use Rattle.upon_quote.specs.Shell.{has_nul, shell_escape_of}
use Rattle.upon_quote.specs.Yaml.{yaml_escape_of}

-- the bytes of an escape, which is ASCII, or of the character itself, in UTF-8
abbrev pub bytes_or_itself : Option (List ℕ) → ℕ → List ℕ
bytes_or_itself (Some escape) c = escape
bytes_or_itself None c = encode_utf8 c

-- the bytes of characters in UTF-8, each as its escape if it has one
abbrev pub bytes_by : Escapes → List ℕ → List ℕ
bytes_by escape_of [] = []
bytes_by escape_of (c ∷ cs) = bytes_or_itself (escape_of c) c ++ bytes_by escape_of cs

-- a text's bytes, in which each character that has an escape is written as that
abbrev pub quoted_bytes : Escapes → List ℕ → List ℕ
quoted_bytes escape_of text = bytes_by escape_of (chars text)

-- what a formatter wrote, with escapes; it ends as that did
abbrev pub quoted_once : Escapes → Formatted → Formatted
quoted_once escape_of o = record { text = quoted_bytes escape_of o.text; end = o.end }

-- what the default formatter writes, as the content of a JSON string
abbrev pub json_format : Formatter
json_format v = quoted_once json_escape_of (default_format v)

-- what the default formatter writes, as the content of a double-quoted scalar of YAML
abbrev pub yaml_format : Formatter
yaml_format v = quoted_once yaml_escape_of (default_format v)

-- the refusal of a text that no word can hold
abbrev pub no_word : Formatted
no_word = record { text = []; end = refused (Some (codes "a shell word cannot hold U+0000")) }

-- a text's bytes in single quotes
abbrev pub in_single_quotes : List ℕ → List ℕ
in_single_quotes text = byte "'" ∷ (quoted_bytes shell_escape_of text ++ (byte "'" ∷ []))

-- a text's bytes as one word of a shell; it is refused if U+0000 is in it
abbrev pub one_shell_word : Bool → List ℕ → Formatted
one_shell_word true text = no_word
one_shell_word false text = record { text = in_single_quotes text; end = well }

-- a text that was written well as one word; a refusal as it is
abbrev pub word_once : List ℕ → FormatEnd → Formatted
word_once text well = one_shell_word (has_nul text) text
word_once text (refused message) = record { text = text; end = refused message }

-- what the default formatter writes, as one word of a shell
abbrev pub shell_format : Formatter
shell_format v = word_once (default_format v).text (default_format v).end

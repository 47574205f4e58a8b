-- What is written for a value is read as its text.
use Rattle.std.proofs.Common.{◌≡◌, ℕ, List, [], ◌∷◌, ◌++◌, Bool, true, false, Some, refl, sym, ap, ◌∙◌, eqb, inl, inr, arith}
use Rattle.std.proofs.Math.Utf8.{scalars}
use Rattle.std.proofs.lemmas.Bool.{or_parts, true≢false}
use Rattle.std.proofs.lemmas.Bool.Decides.{eqb_tells}
use Rattle.std.proofs.lemmas.List.Folds.{list_any-append}
use Rattle.std.proofs.lemmas.Str.{chars-encodes, encodes-append, encodes-chars, encode_ascii, scalars-chars}
use Rattle.std.specs.Char.{encode_utf8}
use Rattle.std.specs.Str.{IsUtf8, chars, encode_utf8_all}
use Rattle.upon_types.specs.Answers.{FormatEnd, well, refused}
use Rattle.upon_types.specs.Val.{Val, text_val}
use Rattle.upon_meaning_spec.specs.DefaultFormat.{default_format}
use Rattle.upon_quote.specs.Json.{json_content, json_escape_of, quoted_json}
use Rattle.upon_quote.specs.Quoted.{quoted_by}
use Rattle.upon_quote.specs.Shell.{has_nul, quoted_shell, shell_escape_of, shell_word}
use Rattle.upon_quote.specs.Tokens.{bytes_by, in_single_quotes, json_format, one_shell_word, shell_format, word_once, yaml_format}
use Rattle.upon_quote.specs.Yaml.{quoted_yaml, yaml_content, yaml_escape_of}
use Rattle.upon_quote.proofs.JsonLemmas.{json_ascii, json_content_quoted}
use Rattle.upon_quote.proofs.ShellLemmas.{shell_ascii, shell_word_quoted}
use Rattle.upon_quote.proofs.Written.{all_bytes, all_scalars, chars_written, scalars_append}
use Rattle.upon_quote.proofs.YamlLemmas.{yaml_ascii, yaml_content_quoted}

pub json_value : (v : Val) → IsUtf8 (default_format v).text → json_content (chars (json_format v).text) ≡ Some (chars (default_format v).text)
json_value v u = ap json_content (chars_written json_escape_of json_ascii (default_format v).text u) ∙ json_content_quoted (chars (default_format v).text)

pub yaml_value : (v : Val) → IsUtf8 (default_format v).text → yaml_content (chars (yaml_format v).text) ≡ Some (chars (default_format v).text)
yaml_value v u = ap yaml_content (chars_written yaml_escape_of yaml_ascii (default_format v).text u) ∙ yaml_content_quoted (chars (default_format v).text)

-- the characters of a word
word_bytes : (cs : List ℕ) → encode_utf8_all (quoted_shell cs) ≡ 39 ∷ (bytes_by shell_escape_of cs ++ (39 ∷ []))
word_bytes cs =
    ap (λ t. t ++ encode_utf8_all (quoted_by shell_escape_of cs ++ (39 ∷ []))) (encode_ascii 39 (omega arith))
    ∙ ap (λ t. 39 ∷ t) (encodes-append (quoted_by shell_escape_of cs) (39 ∷ [])
    ∙ (ap (λ t. encode_utf8_all (quoted_by shell_escape_of cs) ++ (t ++ [])) (encode_ascii 39 (omega arith))
    ∙ ap (λ t. t ++ (39 ∷ [])) (all_bytes shell_escape_of shell_ascii cs)))

chars_word : (text : List ℕ) → IsUtf8 text → chars (in_single_quotes text) ≡ quoted_shell (chars text)
chars_word text u =
    let cs = chars text in
    let inside : scalars (quoted_by shell_escape_of cs) ≡ true = all_scalars shell_escape_of shell_ascii cs (scalars-chars text u) in
    ap chars (sym (word_bytes cs))
    ∙ chars-encodes (quoted_shell cs) (scalars_append (quoted_by shell_escape_of cs) (39 ∷ []) inside refl)

-- U+0000 is the byte 0
nul_char : (cs : List ℕ) → has_nul (encode_utf8_all cs) ≡ false → has_nul cs ≡ false
nul_char [] h = refl
nul_char (c ∷ cs) h =
    let parts = or_parts (has_nul (encode_utf8 c)) (has_nul (encode_utf8_all cs)) (sym (list_any-append (λ b. eqb b 0) (encode_utf8 c) (encode_utf8_all cs)) ∙ h) in
    elim (eqb_tells c 0) as (λ x. has_nul (c ∷ cs) ≡ false) [
      | inl e ↦
          let one : encode_utf8 c ≡ 0 ∷ [] = ap encode_utf8 e.1 ∙ encode_ascii 0 (omega arith) in
          absurd (true≢false (sym (ap has_nul one) ∙ parts.0))
      | inr e ↦ rw e.0 (nul_char cs parts.1)
    ]

word_case : (text : List ℕ) (holds : Bool) → has_nul text ≡ holds → IsUtf8 text → (one_shell_word holds text).end ≡ well → shell_word (chars (one_shell_word holds text).text) ≡ Some (chars text)
word_case text true is u h = absurd cc
word_case text false is u h =
    ap shell_word (chars_word text u)
    ∙ shell_word_quoted (chars text) (nul_char (chars text) (ap has_nul (encodes-chars text u) ∙ is))

word_value : (text : List ℕ) (end : FormatEnd) → IsUtf8 text → (word_once text end).end ≡ well → shell_word (chars (word_once text end).text) ≡ Some (chars text)
word_value text well u h = word_case text (has_nul text) refl u h
word_value text (refused message) u h = absurd cc

pub shell_value : (v : Val) → IsUtf8 (default_format v).text → (shell_format v).end ≡ well → shell_word (chars (shell_format v).text) ≡ Some (chars (default_format v).text)
shell_value v u h = word_value (default_format v).text (default_format v).end u h

-- what is written for a text
pub json_bytes : (text : List ℕ) → (json_format (text_val text)).text ≡ encode_utf8_all (quoted_json (chars text))
json_bytes text = sym (all_bytes json_escape_of json_ascii (chars text))

pub yaml_bytes : (text : List ℕ) → (yaml_format (text_val text)).text ≡ encode_utf8_all (quoted_yaml (chars text))
yaml_bytes text = sym (all_bytes yaml_escape_of yaml_ascii (chars text))

pub shell_bytes : (text : List ℕ) → has_nul text ≡ false → (shell_format (text_val text)).text ≡ encode_utf8_all (quoted_shell (chars text))
shell_bytes text h = ap (λ holds. (one_shell_word holds text).text) h ∙ sym (word_bytes (chars text))

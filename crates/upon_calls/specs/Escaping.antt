-- Languages into which values are written.
use Rattle.std.specs.Prelude.{ℕ, List, true, false, Option, Some, None, codes, bytes_eq, if◌then◌else◌}
use Rattle.upon_types.specs.Answers.{Formatter}
use Rattle.upon_shape_spec.specs.Shape.{Shape, plain, plain_shape, shown_values}
use Rattle.upon_html.specs.Escaped.{escaped}
use Rattle.upon_quote.specs.Tokens.{json_format, shell_format, yaml_format}
use Rattle.upon_calls.specs.declared.escaping.Language.{Language}
use Rattle.upon_calls.specs.declared.escaping.Language.TheVariants.{Html, Json, Shell, Yaml}

-- the language of a word
abbrev pub language_in : List ℕ → Option Language
language_in word = if bytes_eq word (codes "html") then Some Html else (
    if bytes_eq word (codes "json") then Some Json else (
    if bytes_eq word (codes "shell") then Some Shell else (
    if bytes_eq word (codes "yaml") then Some Yaml else None)))

-- the formatter of a language
abbrev pub language_format : Language → Formatter
language_format Html = escaped
language_format Json = json_format
language_format Shell = shell_format
language_format Yaml = yaml_format

-- the values that are written into a language, or as they are, whatever they are: a word of a shell can hold no U+0000,
-- which a text may have
abbrev pub written_shape : Option Language → Shape
written_shape None = shown_values
written_shape (Some Html) = shown_values
written_shape (Some Json) = shown_values
written_shape (Some Shell) = plain_shape (plain true true true false)
written_shape (Some Yaml) = shown_values

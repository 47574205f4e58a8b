-- What is written for a value if no formatter is named.
use Rattle.std.specs.Prelude.{ℕ, List, [], ◌++◌, Option, Some, None, Bool, true, false, codes}
use Rattle.std.specs.Fmt.{signed_decimal}
use Rattle.upon_types.specs.Val.{Val, none_val, bool_val, int_val, text_val, kind_word}
use Rattle.upon_types.specs.Answers.{well, refused, Formatted, Formatter}

-- the word of a truth value
abbrev pub bool_text : Bool → List ℕ
bool_text true = codes "true"
bool_text false = codes "false"

-- a text that is written well
abbrev pub format_text : List ℕ → Formatted
format_text text = record { text = text; end = well }

-- lists and maps have no text
abbrev pub no_format : Val → Formatted
no_format v =
    record { text = []; end = refused (Some (codes "expression evaluated to unformattable type " ++ kind_word v)) }

-- nothing for no value, the word of a truth value, an integer in decimal, a text as it is; no list and no map
abbrev pub default_format : Formatter
default_format none_val = format_text []
default_format (bool_val b) = format_text (bool_text b)
default_format (int_val z) = format_text (signed_decimal z)
default_format (text_val s) = format_text s
default_format v = no_format v

-- the default formatter: the one that was set, or this one
abbrev pub formatter_or_default : Option Formatter → Formatter
formatter_or_default None = default_format
formatter_or_default (Some f) = f

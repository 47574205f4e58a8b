-- What the formatters of the examples write.
use Rattle.std.specs.Prelude.{[], ◌++◌, Some, codes}
use Rattle.std.specs.Fmt.{signed_decimal}
use Rattle.upon.specs.Answers.{Formatted, well, refused}
use Rattle.upon.specs.Val.{Val, none_val, int_val, text_val}
use Rattle.upon.specs.DefaultFormat.{default_format}

-- a text in quotation marks, all else as by default
abbrev pub quoted : Val → Formatted
quoted (text_val bytes) = record { text = codes "\"" ++ bytes ++ codes "\""; end = well }
quoted v = default_format v

-- an integer in decimal after `No. `, all else as by default
abbrev pub numbered : Val → Formatted
numbered (int_val z) = record { text = codes "No. " ++ signed_decimal z; end = well }
numbered v = default_format v

-- a hyphen for no value, all else as by default
abbrev pub dashed : Val → Formatted
dashed none_val = record { text = codes "-"; end = well }
dashed v = default_format v

-- no value is refused, all else as by default
abbrev pub demanded : Val → Formatted
demanded none_val = record { text = []; end = refused (Some (codes "a value is missing")) }
demanded v = default_format v

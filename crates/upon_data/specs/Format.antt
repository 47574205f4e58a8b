-- The formats, their names, and the value of a text of each.
use Rattle.std.specs.Prelude.{◌≡◌, ℕ, ◌-◌, List, length, drop, codes, bytes_eq, Bool, ◌||◌, Option, Some, None, if◌then◌else◌}
use Rattle.std.specs.Str.{str_to_ascii_lowercase}
use Rattle.toml.specs.Parse.{parse_document}
use Rattle.upon_types.specs.Val.{Val}
use Rattle.upon_json.specs.Context.{text_value}
use Rattle.upon_data.specs.Document.{IsDocument}
use Rattle.upon_data.specs.Lines.{lines_val}
use Rattle.upon_data.specs.Table.{table_val}
use Rattle.upon_data.specs.declared.format.Format.{Format}
use Rattle.upon_data.specs.declared.format.Format.TheVariants.{Json, JsonLines, Csv, Toml}

-- the format of a name
abbrev pub format_named : List ℕ → Option Format
format_named word =
    if bytes_eq word (codes "json") then Some Json
    else if bytes_eq word (codes "jsonl") then Some JsonLines
    else if bytes_eq word (codes "csv") then Some Csv
    else if bytes_eq word (codes "toml") then Some Toml
    else None

-- a path ends so, but for the case of letters
abbrev pub has_ending : List ℕ → List ℕ → Bool
has_ending path ending =
    bytes_eq (str_to_ascii_lowercase (drop (length path - length ending) path)) (str_to_ascii_lowercase ending)

-- the format of the file at a path
abbrev pub format_of_path : List ℕ → Option Format
format_of_path path =
    if has_ending path (codes ".json") then Some Json
    else if has_ending path (codes ".jsonl") || has_ending path (codes ".ndjson") then Some JsonLines
    else if has_ending path (codes ".csv") then Some Csv
    else if has_ending path (codes ".toml") then Some Toml
    else None

-- the value that a text of a format is, where that is known: of TOML it is known but for the digits of floats
abbrev pub IsValueIn : Format → List ℕ → Val → Type 0
IsValueIn Json text v = text_value text ≡ Some v
IsValueIn JsonLines text v = lines_val text ≡ Some v
IsValueIn Csv text v = table_val text ≡ Some v
IsValueIn Toml text v = IsDocument text v

-- a text that is not of the format
abbrev pub HasNoValue : Format → List ℕ → Type 0
HasNoValue Json text = text_value text ≡ None
HasNoValue JsonLines text = lines_val text ≡ None
HasNoValue Csv text = table_val text ≡ None
HasNoValue Toml text = parse_document text ≡ None

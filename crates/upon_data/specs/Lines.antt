-- The value of lines of JSON: the list of the values of the lines that are not blank.
use Rattle.std.specs.Prelude.{ℕ, List, [], ◌∷◌, Bool, ◌==◌, ◌||◌, Option, Some, option_map, option_and_then, if◌then◌else◌}
use Rattle.std.specs.List.{list_all}
use Rattle.std.specs.Str.Lines.{lines}
use Rattle.json.specs.Lex.{tokens}
use Rattle.upon_types.specs.Val.{Val, list_val, Vals, no_vals, val_then}
use Rattle.upon_json.specs.Context.{without_mark}
use Rattle.upon_json.specs.Reads.{reads_whole}

-- a space, a tab or a carriage return
abbrev pub is_blank_byte : ℕ → Bool
is_blank_byte byte = (byte == 32) || (byte == 9) || (byte == 13)

-- a line that has nothing else
abbrev pub is_blank : List ℕ → Bool
is_blank line = list_all is_blank_byte line

-- the value that a line of JSON is
abbrev pub line_val : List ℕ → Option Val
line_val line = reads_whole (tokens line)

-- the values of the lines that are not blank, if each has one
abbrev pub lines_values : List (List ℕ) → Option Vals
lines_values [] = Some no_vals
lines_values (line ∷ more) = if is_blank line then lines_values more
    else option_and_then (λ v. option_map (val_then v) (lines_values more)) (line_val line)

-- the value of a text of such lines, passing over a byte order mark
abbrev pub lines_val : List ℕ → Option Val
lines_val text = option_map list_val (lines_values (lines (without_mark text)))

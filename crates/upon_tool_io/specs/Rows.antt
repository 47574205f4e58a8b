-- What the words of a command say, by the rows that clap has read of them: one for each argument that is there or has a
-- value of its own accord.
use Rattle.std.specs.Prelude.{◌≡◌, ◌<◌, ◌^◌, ℕ, List, [], ◌∷◌, Bool, true, false, Option, Some, None, bytes_eq, codes, option_map, slice_get, if◌then◌else◌}
use Rattle.std.specs.Option.{SomeIff}
use Rattle.std.specs.Str.Parse.{digits_value, without_leading_plus, IsNumeral}
use Rattle.clap.specs.Matches.{found_of}
use Rattle.clap.specs.Simple.{subcommand_rows_of, App, HasMatchesOf}
use Rattle.clap.specs.Values.{read_as}
use Rattle.clap.specs.Walk.{rows_of, Row}
use Rattle.clap.specs.declared.parser.matches.ArgMatches.{ArgMatches}
use Rattle.upon_tool_io.specs.Asks.{is_command, AsksFor}
use Rattle.upon_tool_io.specs.Said.{Said}
use Rattle.upon_tool_io.specs.declared.arguments.Call.{Call}

-- the values of an argument, as they were written
abbrev pub row_values : List ℕ → List Row → List (List ℕ)
row_values name [] = []
row_values name (row ∷ rows) = if bytes_eq row.id name then row.values else row_values name rows

-- its first value, as that is read where it is no text
abbrev pub row_read : List ℕ → List Row → Option (List ℕ)
row_read name [] = None
row_read name (row ∷ rows) =
    if bytes_eq row.id name then option_map (read_as row.reading) (slice_get row.values 0) else row_read name rows

-- what a flag says whose value is read so
abbrev pub IsFlag : Option (List ℕ) → Bool → Type 0
IsFlag None answer = answer ≡ false
IsFlag (Some text) answer = (text ≡ codes "true" → answer ≡ true) × (text ≡ codes "false" → answer ≡ false)

-- the number that a value which is read so has: it is one of decimal digits, and of 64 bits; or there is none
abbrev pub IsNumber : Option (List ℕ) → Option ℕ → Type 0
IsNumber None answer = answer ≡ None
IsNumber (Some text) answer = let digits = without_leading_plus text in
    SomeIff answer (IsNumeral 10 digits × (digits_value 10 digits < 2 ^ 64)) (digits_value 10 digits)

-- what words say of which clap has read these rows
abbrev pub row_words : List Row → Said
row_words rows = record {
  text = λ name answer. answer ≡ slice_get (row_values name rows) 0;
  texts = λ name answer. answer ≡ row_values name rows;
  flag = λ name answer. IsFlag (row_read name rows) answer;
  number = λ name answer. IsNumber (row_read name rows) answer;
}

-- what the words of a command say, as clap has read them
abbrev pub matched_words : ArgMatches → Said
matched_words matches = row_words (rows_of (found_of matches))

-- What is asked for, by the command that clap has found and its rows: there is none, or it is none of the program's; or
-- a call is asked for by the rows.
abbrev pub AsksByRows : Option (List ℕ × List Row) → Option Call → Type 0
AsksByRows None asked = asked ≡ None
AsksByRows (Some command) None = is_command command.0 ≡ false
AsksByRows (Some command) (Some call) = AsksFor (row_words command.1) command.0 call

-- A call is asked for by what clap has found in the words, by a command of its own.
abbrev pub AsksByWords : App → List (List ℕ) → Call → Type 0
AsksByWords app words call = (matches : ArgMatches)
    × HasMatchesOf app words matches × AsksByRows (subcommand_rows_of matches) (Some call)

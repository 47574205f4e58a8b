-- What a function gives of what a formatter writes.
use Rattle.std.specs.Prelude.{◌≡◌, ℕ, List, [], ◌∷◌, Some, None, Result, Ok, Err, String, codes, string_bytes}
use Rattle.std.specs.declared.alloc.Global.{Global}
use Rattle.upon_functions.specs.Outcome.{Returned, value, refusal}
use Rattle.upon_types.specs.Answers.{FormatEnd, Formatted, Formatter, well, refused}
use Rattle.upon_types.specs.Val.{Val, text_val}

-- the text that was written well, or the refusal with its message
abbrev pub ended_outcome : List ℕ → FormatEnd → Returned
ended_outcome text well = value (text_val text)
ended_outcome text (refused (Some message)) = refusal message
ended_outcome text (refused None) = refusal (codes "format error")

-- what a formatter wrote, as the outcome of a function
abbrev pub written_outcome : Formatted → Returned
written_outcome o = ended_outcome o.text o.end

-- the outcome of a function that writes a text as a formatter does
abbrev pub token_outcome : Formatter → List Val → Returned
token_outcome format ((text_val text) ∷ vs) = written_outcome (format (text_val text))
token_outcome format vs = refusal []

-- a text, or the message of a refusal, is what a formatter wrote
abbrev pub IsWritten : Result (String Global) (String Global) → Formatted → Type 0
IsWritten (Ok text) o = written_outcome o ≡ value (text_val (string_bytes text))
IsWritten (Err message) o = written_outcome o ≡ refusal (string_bytes message)

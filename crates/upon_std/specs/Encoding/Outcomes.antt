-- What the functions make of arguments that fit.
use Rattle.std.specs.Prelude.{ℕ, List, [], ◌∷◌, chars, codes, encode_utf8_all, nat_le, pos, if◌then◌else◌}
use Rattle.upon_functions.specs.Outcome.{Returned, value, refusal}
use Rattle.upon_types.specs.Val.{Val, int_val, text_val}
use Rattle.upon_std.specs.Encoding.JsonText.{json_text}
use Rattle.upon_std.specs.Encoding.Truncating.{truncated}

-- the most columns that a text is filled up to
abbrev pub most_columns : ℕ
most_columns = 10000

-- the outcome of a function that fills a text up
abbrev pub padding_outcome : (ℕ → List ℕ → List ℕ) → List Val → Returned
padding_outcome pad ((text_val text) ∷ (int_val (pos n)) ∷ vs) =
    if nat_le n most_columns then value (text_val (pad n text)) else refusal (codes "pad takes at most 10000 columns")
padding_outcome pad vs = refusal []

-- the outcome of `truncate`
abbrev pub truncate_outcome : List Val → Returned
truncate_outcome ((text_val text) ∷ (int_val (pos n)) ∷ vs) =
    value (text_val (encode_utf8_all (truncated n (chars text))))
truncate_outcome vs = refusal []

-- the outcome of a function that encodes the bytes of a text
abbrev pub encoding_outcome : (List ℕ → List ℕ) → List Val → Returned
encoding_outcome encode ((text_val text) ∷ vs) = value (text_val (encode text))
encoding_outcome encode vs = refusal []

-- the outcome of `json`
abbrev pub json_outcome : List Val → Returned
json_outcome (v ∷ vs) = value (text_val (json_text v))
json_outcome vs = refusal []

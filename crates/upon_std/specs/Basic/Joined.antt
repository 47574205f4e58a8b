-- The texts of a list, joined.
use Rattle.std.specs.Prelude.{ℕ, List, [], ◌∷◌, ◌++◌, Option, Some, None, Result, Ok, Err, String, string_bytes, codes, Bool, if◌then◌else◌}
use Rattle.std.specs.Prelude.{◌≡◌}
use Rattle.std.specs.declared.alloc.Global.{Global}
use Rattle.upon_functions.specs.Outcome.{Returned, value, refusal}
use Rattle.upon_types.specs.Val.{Val, text_val, list_val, kind_word}
use Rattle.upon_std.specs.Basic.Items.{vals_in_list}

-- the bytes of a value that is a text
abbrev pub text_in : Val → Option (List ℕ)
text_in (text_val s) = Some s
text_in v = None

-- what stands before a piece: nothing before the first, else the separator
abbrev pub before_piece : Bool → List ℕ → List ℕ
before_piece is_first separator = if is_first then [] else separator

-- a text before another, if there is one
abbrev pub prefixed : List ℕ → Result (List ℕ) Val → Result (List ℕ) Val
prefixed start (Ok text) = Ok (start ++ text)
prefixed start (Err v) = Err v

-- a value's text with another before it and the rest after it, or the value where it is no text
abbrev pub piece_then : List ℕ → Option (List ℕ) → Val → Result (List ℕ) Val → Result (List ℕ) Val
piece_then before (Some text) v rest = prefixed (before ++ text) rest
piece_then before None v rest = Err v

-- the texts of values, one text before the first and the separator before each other, or the first value that is no
-- text
abbrev pub joined_from : List ℕ → List ℕ → List Val → Result (List ℕ) Val
joined_from before separator [] = Ok []
joined_from before separator (v ∷ vs) = piece_then before (text_in v) v (joined_from separator separator vs)

-- the joined texts, or the refusal, which names the kind of the value that is no text
abbrev pub joined_result : Result (List ℕ) Val → Returned
joined_result (Ok text) = value (text_val text)
joined_result (Err v) = refusal (codes "cannot join " ++ kind_word v)

-- the outcome of `join`: the texts of a list with the separator between them
abbrev pub join_outcome : List Val → Returned
join_outcome ((list_val vs) ∷ (text_val separator) ∷ ws) = joined_result (joined_from [] separator (vals_in_list vs))
join_outcome ws = refusal []

-- what was made of a list is its texts joined, or the refusal to join them
abbrev pub IsJoined : Result (String Global) (String Global) → Result (List ℕ) Val → Type 0
IsJoined (Ok text) joined = joined ≡ Ok (string_bytes text)
IsJoined (Err text) joined = joined_result joined ≡ refusal (string_bytes text)

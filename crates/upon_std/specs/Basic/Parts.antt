-- What the functions of texts make of texts.
use Rattle.std.specs.Prelude.{ℕ, ◌*◌, Bool, ◌||◌, List, [], ◌∷◌, length, nat_eq, nat_le, pos, codes, if◌then◌else◌}
use Rattle.std.specs.List.{starts_with, repeat}
use Rattle.upon_functions.specs.Outcome.{Returned, value, refusal}
use Rattle.upon_types.specs.Val.{Val, bool_val, int_val, text_val}

-- the outcome of a function that makes a text of a text
abbrev pub changed_outcome : (List ℕ → List ℕ) → List Val → Returned
changed_outcome change ((text_val s) ∷ vs) = value (text_val (change s))
changed_outcome change vs = refusal []

-- the outcome of a function that tests a text by another
abbrev pub tested_outcome : (List ℕ → List ℕ → Bool) → List Val → Returned
tested_outcome test ((text_val s) ∷ (text_val part) ∷ vs) = value (bool_val (test s part))
tested_outcome test vs = refusal []

-- whether a text has another as a part
abbrev pub has_part : List ℕ → List ℕ → Bool
has_part [] part = starts_with nat_eq [] part
has_part (c ∷ cs) part = starts_with nat_eq (c ∷ cs) part || has_part cs part

-- the most bytes that `repeat`, `replace` and `indent` make
abbrev pub most_bytes : ℕ
most_bytes = 1000000

-- the outcome of `repeat`: a text so many times
abbrev pub repeat_outcome : List Val → Returned
repeat_outcome ((text_val s) ∷ (int_val (pos n)) ∷ vs) = if nat_le (length s * n) most_bytes
    then value (text_val (repeat n s)) else refusal (codes "repeat makes more than 1000000 bytes")
repeat_outcome vs = refusal []

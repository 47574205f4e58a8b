-- What the functions of the examples answer.
use Rattle.std.specs.Prelude.{ℕ, ℤ, pos, List, [], ◌∷◌, ◌++◌, length, nat_lt, int_lt, codes, if◌then◌else◌}
use Rattle.upon.specs.FunctionOutcome.{Returned, value, refusal}
use Rattle.upon.specs.Val.{Val, bool_val, int_val, text_val}

-- whether a text has more bytes than a number
abbrev pub is_longer : List Val → Returned
is_longer ((text_val bytes) ∷ (int_val (pos n)) ∷ vs) = value (bool_val (nat_lt n (length bytes)))
is_longer vs = refusal []

-- a number above 0; others are refused
abbrev pub positive : List Val → Returned
positive ((int_val z) ∷ vs) = if int_lt (pos 0) z then value (int_val z) else refusal (codes "not a positive number")
positive vs = refusal []

-- a text after another
abbrev pub after_text : List ℕ → List Val → Returned
after_text prefix ((text_val bytes) ∷ vs) = value (text_val (prefix ++ bytes))
after_text prefix vs = refusal []

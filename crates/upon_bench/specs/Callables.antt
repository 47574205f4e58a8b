-- What the functions of the templates that are measured answer.
use Rattle.std.specs.Prelude.{ℕ, List, [], ◌∷◌, ◌++◌}
use Rattle.std.specs.Int.{w64, int_wrapping_add}
use Rattle.upon_functions.specs.Outcome.{Returned, value, refusal}
use Rattle.upon_types.specs.Val.{Val, int_val, text_val}

-- twice an integer of 64 bits, which wraps
abbrev pub doubled_long : List Val → Returned
doubled_long ((int_val z) ∷ vs) = value (int_val (int_wrapping_add w64 z z))
doubled_long vs = refusal []

-- a text after another
abbrev pub prefixed_text : List ℕ → List Val → Returned
prefixed_text prefix ((text_val bytes) ∷ vs) = value (text_val (prefix ++ bytes))
prefixed_text prefix vs = refusal []

-- What the callables of the tests answer.
use Rattle.std.specs.Prelude.{ℤ, List, [], ◌∷◌, None, Some, codes}
use Rattle.std.specs.Int.{w64, int_wrapping_add}
use Rattle.upon.specs.FunctionOutcome.{Returned, value, refusal}
use Rattle.upon.specs.Answers.{Formatted, refused, well}
use Rattle.upon.specs.Val.{Val, int_val, list_val, no_vals, none_val}
use Rattle.upon.specs.DefaultFormat.{default_format}

-- the sum of two integers of 64 bits, which wraps
abbrev pub wrapped : ℤ → ℤ → Returned
wrapped y z = value (int_val (int_wrapping_add w64 y z))

-- twice an integer
abbrev pub doubled : List Val → Returned
doubled ((int_val z) ∷ vs) = wrapped z z
doubled vs = refusal []

-- the sum of two
abbrev pub added : List Val → Returned
added ((int_val y) ∷ (int_val z) ∷ vs) = wrapped y z
added vs = refusal []

-- the first argument
abbrev pub echoed : List Val → Returned
echoed [] = refusal []
echoed (v ∷ vs) = value v

-- the empty list
abbrev pub listed_nothing : List Val → Returned
listed_nothing vs = value (list_val no_vals)

-- a refusal
abbrev pub declined : List Val → Returned
declined vs = refusal (codes "no")

-- two letters, and then a refusal
abbrev pub half_written : Val → Formatted
half_written v = record { text = codes "ab"; end = refused (Some (codes "bad")) }

-- a refusal without a message
abbrev pub without_words : Val → Formatted
without_words v = record { text = []; end = refused None }

-- four letters
abbrev pub four_letters : Val → Formatted
four_letters v = record { text = codes "abcd"; end = well }

-- as the default, but that no value is refused
abbrev pub none_refused : Val → Formatted
none_refused none_val = record { text = []; end = refused (Some (codes "unable to format None")) }
none_refused v = default_format v

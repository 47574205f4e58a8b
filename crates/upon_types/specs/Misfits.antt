-- Which values fit an argument, by the argument's type, and the misfit of a value that does not.
use Rattle.std.specs.Prelude.{ℕ, ℤ, List, Option, None, Some, int_le, ◌&&◌, codes, if◌then◌else◌}
use Rattle.upon_types.specs.Answers.{Misfit, wrong_type, out_of_range}
use Rattle.upon_types.specs.Val.{Val, none_val, bool_val, int_val, text_val, list_val, map_val}

-- nothing if the value fits, else what is wrong with it
abbrev pub Test : Type 0
Test = Val → Option Misfit

-- an argument that takes every value
abbrev pub any_misfit : Test
any_misfit v = None

-- no value
abbrev pub unit_misfit : Test
unit_misfit none_val = None
unit_misfit v = Some (wrong_type (codes "()"))

-- a truth value
abbrev pub bool_misfit : Test
bool_misfit (bool_val b) = None
bool_misfit v = Some (wrong_type (codes "bool"))

-- a text, by the word of its type
abbrev pub text_misfit : List ℕ → Test
text_misfit word (text_val bytes) = None
text_misfit word v = Some (wrong_type word)

-- a text that is owned
abbrev pub string_misfit : Test
string_misfit = text_misfit (codes "string")

-- a text that is lent
abbrev pub str_misfit : Test
str_misfit = text_misfit (codes "&str")

-- a list
abbrev pub list_misfit : Test
list_misfit (list_val vs) = None
list_misfit v = Some (wrong_type (codes "list"))

-- a map
abbrev pub map_misfit : Test
map_misfit (map_val es) = None
map_misfit v = Some (wrong_type (codes "map"))

-- an integer type: its word, and the least and the greatest number that it holds
pub record Range : Type 0 where
  pub word : List ℕ
  pub least : ℤ
  pub greatest : ℤ

-- an integer argument takes an integer in its type's range
abbrev pub integer_misfit : Range → Test
integer_misfit range (int_val z) =
    if int_le range.least z && int_le z range.greatest then None else Some (out_of_range range.word)
integer_misfit range v = Some (wrong_type range.word)

-- only an integer is out of range
abbrev pub IsFair : Val → Option Misfit → Type 0
IsFair v None = Unit {0}
IsFair v (Some (wrong_type word)) = Unit {0}
IsFair (int_val z) (Some (out_of_range word)) = Unit {0}
IsFair v (Some (out_of_range word)) = ⊥

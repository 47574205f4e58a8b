-- Every test of an argument is fair: only an integer is out of range.
use Rattle.std.specs.Prelude.{Bool, true, false, int_le, ◌&&◌, Some, None, if◌then◌else◌}
use Rattle.upon_types.specs.Misfits.{Range, IsFair, integer_misfit, unit_misfit, bool_misfit, string_misfit, list_misfit, map_misfit}
use Rattle.upon_types.specs.Answers.{out_of_range}
use Rattle.upon_types.specs.Val.{Val, none_val, bool_val, int_val, text_val, list_val, map_val}

number_fair : (fits : Bool) (range : Range) (z : _) → IsFair (int_val z) (if fits then None else Some (out_of_range range.word))
number_fair true range z = tt
number_fair false range z = tt

-- the test of an integer type is fair
pub integer_misfit-fair : (range : Range) (v : Val) → IsFair v (integer_misfit range v)
integer_misfit-fair range (int_val z) = number_fair (int_le range.least z && int_le z range.greatest) range z
integer_misfit-fair range none_val = tt
integer_misfit-fair range (bool_val b) = tt
integer_misfit-fair range (text_val bytes) = tt
integer_misfit-fair range (list_val vs) = tt
integer_misfit-fair range (map_val es) = tt

-- the test of no value is fair
pub unit_misfit-fair : (v : Val) → IsFair v (unit_misfit v)
unit_misfit-fair none_val = tt
unit_misfit-fair (bool_val b) = tt
unit_misfit-fair (int_val z) = tt
unit_misfit-fair (text_val bytes) = tt
unit_misfit-fair (list_val vs) = tt
unit_misfit-fair (map_val es) = tt

-- the test of a truth value is fair
pub bool_misfit-fair : (v : Val) → IsFair v (bool_misfit v)
bool_misfit-fair none_val = tt
bool_misfit-fair (bool_val b) = tt
bool_misfit-fair (int_val z) = tt
bool_misfit-fair (text_val bytes) = tt
bool_misfit-fair (list_val vs) = tt
bool_misfit-fair (map_val es) = tt

-- the test of a text is fair
pub string_misfit-fair : (v : Val) → IsFair v (string_misfit v)
string_misfit-fair none_val = tt
string_misfit-fair (bool_val b) = tt
string_misfit-fair (int_val z) = tt
string_misfit-fair (text_val bytes) = tt
string_misfit-fair (list_val vs) = tt
string_misfit-fair (map_val es) = tt

-- the test of a list is fair
pub list_misfit-fair : (v : Val) → IsFair v (list_misfit v)
list_misfit-fair none_val = tt
list_misfit-fair (bool_val b) = tt
list_misfit-fair (int_val z) = tt
list_misfit-fair (text_val bytes) = tt
list_misfit-fair (list_val vs) = tt
list_misfit-fair (map_val es) = tt

-- the test of a map is fair
pub map_misfit-fair : (v : Val) → IsFair v (map_misfit v)
map_misfit-fair none_val = tt
map_misfit-fair (bool_val b) = tt
map_misfit-fair (int_val z) = tt
map_misfit-fair (text_val bytes) = tt
map_misfit-fair (list_val vs) = tt
map_misfit-fair (map_val es) = tt

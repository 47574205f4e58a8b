-- The value of JSON: null is none; a number is an integer, if it is one of 64 bits, else the text that spells it; of
-- the members with one key the last counts, and the keys rise; all else is what it is.
use Rattle.std.specs.Prelude.{ℕ, ◌^◌, ◌&&◌, List, length, Bool, true, false, nat_lt, nat_le, if◌then◌else◌}
use Rattle.std.specs.Cmp.Lexicographic.{slice_cmp}
use Rattle.std.specs.Ordering.{match_ordering, nat_cmp}
use Rattle.std.specs.Str.{all_ascii_digits}
use Rattle.std.specs.Str.Parse.{digits_value, signed_digits_value, starts_with_minus, without_leading_sign}
use Rattle.json.specs.Json.{Json, null, boolean, number, string, array, object, Items, no_items, item, Members, no_members, member}
use Rattle.upon_types.specs.Val.{Val, none_val, bool_val, int_val, text_val, list_val, map_val, Vals, no_vals, val_then, Entries, no_entries, entry_then}

-- one digit or more, and nothing else
abbrev pub are_digits : List ℕ → Bool
are_digits text = nat_lt 0 (length text) && all_ascii_digits text

-- a magnitude is one of a signed number of 64 bits, which is negative if the first argument is true
abbrev pub is_in_range : Bool → ℕ → Bool
is_in_range true magnitude = nat_le magnitude (2 ^ 63)
is_in_range false magnitude = nat_lt magnitude (2 ^ 63)

-- a number's text has digits alone, after a sign or without, and is one of 64 bits
abbrev pub is_integer : List ℕ → Bool
is_integer text = are_digits (without_leading_sign text)
    && is_in_range (starts_with_minus text) (digits_value 10 (without_leading_sign text))

-- the value of a number's text: the integer that it is, else the text
abbrev pub number_val : List ℕ → Val
number_val text = if is_integer text then int_val (signed_digits_value 10 text) else text_val text

-- entries with a value at a key: in the place of the one that is there, else before the first greater key
abbrev pub put : List ℕ → Val → Entries → Entries
put key v no_entries = entry_then key v no_entries
put key v (entry_then other w es) = match_ordering (slice_cmp nat_cmp key other)
    (entry_then key v (entry_then other w es))
    (entry_then other v es)
    (entry_then other w (put key v es))

abbrev mutual
  -- the value
  pub value_of_json : Json → Val
  value_of_json null = none_val
  value_of_json (boolean b) = bool_val b
  value_of_json (number text) = number_val text
  value_of_json (string text) = text_val text
  value_of_json (array js) = list_val (items_values js)
  value_of_json (object ms) = map_val (members_over ms no_entries)

  -- the values of items
  pub items_values : Items → Vals
  items_values no_items = no_vals
  items_values (item j js) = val_then (value_of_json j) (items_values js)

  -- entries with the members' values put at their keys, one after the other
  pub members_over : Members → Entries → Entries
  members_over no_members es = es
  members_over (member key j ms) es = members_over ms (put key (value_of_json j) es)

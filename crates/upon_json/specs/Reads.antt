-- What is read of a row of tokens of JSON, and what is left of it.
use Rattle.std.specs.Prelude.{ℕ, List, length, Bool, true, false, Option, option_map, option_and_then}
use Rattle.json.specs.Json.{parse_map, value, items, members, if_last, max_depth}
use Rattle.json.specs.Token.{Token}
use Rattle.upon_types.specs.Val.{Val, Vals, Entries, no_entries}
use Rattle.upon_json.specs.Value.{value_of_json, items_values, members_over}
use Rattle.upon_json.specs.declared.value.ReadFault.{ReadFault}
use Rattle.upon_json.specs.declared.value.ReadFault.TheVariants.{NotJson, TooDeep, OutOfMemory}

-- the value that the tokens begin with, with lists and objects nested no deeper than the number, and the tokens after
-- it
abbrev pub reads : ℕ → List Token → Option (Val × List Token)
reads depth ts = parse_map value_of_json (value depth ts)

-- the values of the items up to the end of their list, and the tokens after that
abbrev pub reads_items : ℕ → List Token → Option (Vals × List Token)
reads_items depth ts = parse_map items_values (items (value depth) (length ts) ts)

-- the entries of the members up to the end of their object, and the tokens after that
abbrev pub reads_members : ℕ → List Token → Option (Entries × List Token)
reads_members depth ts = parse_map (λ ms. members_over ms no_entries) (members (value depth) (length ts) ts)

-- the value that the tokens are
abbrev pub reads_whole : List Token → Option Val
reads_whole ts = option_map value_of_json (option_and_then (λ p. if_last p.0 p.1) (value max_depth ts))

-- memory is out
abbrev pub is_memory_fault : ReadFault → Bool
is_memory_fault NotJson = false
is_memory_fault (TooDeep offset) = false
is_memory_fault OutOfMemory = true

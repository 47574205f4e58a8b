-- What is reported where a path or a loop finds nothing. Each fault is of rendering, and without a name.
use Rattle.std.specs.Prelude.{ℕ, List, ◌++◌, Some, codes}
use Rattle.std.specs.Fmt.{decimal}
use Rattle.upon_types.specs.declared.types.Span.{Span}
use Rattle.upon_types.specs.Fault.{Fault, render, bare_fault}
use Rattle.upon_types.specs.Val.{Val, kind_word}

-- a fault of rendering with this reason, here
abbrev pub wrong : List ℕ → Span → Fault
wrong reason at = bare_fault render (Some reason) (Some at)

-- nothing binds the path's first member
abbrev pub not_in_scope : Span → Fault
not_in_scope at = wrong (codes "not found in this scope") at

-- a member of a value
abbrev pub not_in_map : Span → Fault
not_in_map at = wrong (codes "not found in map") at

-- an index that a list does not have
abbrev pub out_of_bounds : ℕ → Span → Fault
out_of_bounds n at = wrong (codes "index out of bounds, the length is " ++ decimal n) at

-- an index into a value that is no list
abbrev pub no_index_access : Val → Span → Fault
no_index_access v at = wrong (kind_word v ++ codes " does not support integer-based access") at

-- a key into a value that is no map
abbrev pub no_key_access : Val → Span → Fault
no_key_access v at = wrong (kind_word v ++ codes " does not support key-based access") at

-- a member of a loop's key, or of its state
abbrev pub index_into_string : Span → Fault
index_into_string at = wrong (codes "cannot index into string") at

-- an index after `loop`
abbrev pub integer_index : Span → Fault
integer_index at = wrong (codes "cannot index into map with integer") at

-- a member after a member of a loop's state
abbrev pub index_into : Val → Span → Fault
index_into v at = wrong (codes "cannot index into " ++ kind_word v) at

-- what a loop does not go over, or not with these names
abbrev pub not_iterable : Val → Span → Fault
not_iterable v at = wrong (codes "expected iterable, but expression evaluated to " ++ kind_word v) at

-- two names for the items of a list
abbrev pub list_item_into_two : Span → Fault
list_item_into_two at = wrong (codes "cannot unpack list item into two variables") at

-- one name for the entries of a map
abbrev pub map_item_into_one : Span → Fault
map_item_into_one at = wrong (codes "cannot unpack map item into one variable") at

-- A member of a value, and a walk over members from the left.
use Rattle.std.specs.Prelude.{ℕ, List, [], ◌∷◌, length, slice_get, Option, Some, None}
use Rattle.upon_types.specs.declared.types.Span.{Span}
use Rattle.upon_types.specs.declared.types.ast.path.AccessOp.{AccessOp}
use Rattle.upon_types.specs.declared.types.ast.path.AccessOp.TheVariants.{Direct, Optional}
use Rattle.upon_types.specs.Fault.{Fault}
use Rattle.upon_types.specs.Path.{Access, by_index, by_key, Member}
use Rattle.upon_types.specs.Val.{Val, none_val, list_val, map_val, entry_at}
use Rattle.upon_lookup.specs.Finding.{Finding, found, at_fault}
use Rattle.upon_lookup.specs.LookupFaults.{not_in_map, out_of_bounds, no_index_access, no_key_access}
use Rattle.upon_lookup.specs.Vals.{val_list}

-- a miss: by `.` it is the fault, by `?.` there is no value
abbrev pub miss : AccessOp → Fault → Finding (Option Val)
miss Direct fault = at_fault fault
miss Optional fault = found None

-- the value, or a miss
abbrev pub found_or_missed : Option Val → AccessOp → Fault → Finding (Option Val)
found_or_missed (Some v) op fault = found (Some v)
found_or_missed None op fault = miss op fault

-- an index goes into a list, and a key into a map; any other value is a fault, by either operator
abbrev pub index_in : Val → ℕ → AccessOp → Span → Finding (Option Val)
index_in (list_val vs) n op at = found_or_missed (slice_get (val_list vs) n) op
    (out_of_bounds (length (val_list vs)) at)
index_in v n op at = at_fault (no_index_access v at)

-- a key into a value
abbrev pub key_in : Val → List ℕ → AccessOp → Span → Finding (Option Val)
key_in (map_val es) key op at = found_or_missed (entry_at key es) op (not_in_map at)
key_in v key op at = at_fault (no_key_access v at)

-- an index or a key into a value
abbrev pub member_by_access : Val → Access → AccessOp → Span → Finding (Option Val)
member_by_access v (by_index n span) op at = index_in v n op at
member_by_access v (by_key word) op at = key_in v word.text op at

-- the member of a value, none if it misses by `?.`, or the fault, which lies at the member
abbrev pub lookup_member : Val → Member → Finding (Option Val)
lookup_member v member = member_by_access v member.access member.op member.span

-- on with a member, if there is one
abbrev pub after_member : Finding (Option Val) → (Val → Finding Val) → Finding Val
after_member (found (Some v)) go = go v
after_member (found None) go = found none_val
after_member (at_fault fault) go = at_fault fault

-- from member to member, from the left; a miss by `?.` gives no value and ends the walk
abbrev pub walk : List Member → Val → Finding Val
walk [] v = found v
walk (member ∷ members) v = after_member (lookup_member v member) (walk members)

-- something that was found, as one that may be missing
abbrev pub as_some : Finding Val → Finding (Option Val)
as_some (found v) = found (Some v)
as_some (at_fault fault) = at_fault fault

-- on with the first member, if a context has it
abbrev pub after_first : Finding (Option Val) → (Val → Finding Val) → Finding (Option Val)
after_first (found (Some v)) go = as_some (go v)
after_first (found None) go = found (Some none_val)
after_first (at_fault fault) go = found None

-- A path in a context. Any fault of its first member says that nothing binds the path there, and so there is none;
-- where the first
-- member misses by `?.`, that is bound, to no value. Later members are a walk.
abbrev pub context_walk : Member → List Member → Val → Finding (Option Val)
context_walk first rest v = after_first (lookup_member v first) (walk rest)

-- what a path finds in a context, as the list of its members; one without members finds nothing
abbrev pub path_in_context : List Member → Val → Finding (Option Val)
path_in_context [] v = found None
path_in_context (first ∷ rest) v = context_walk first rest v

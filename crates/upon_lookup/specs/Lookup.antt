-- What a path means where it is: what it finds among the bindings, or else in the root.
use Rattle.std.specs.Prelude.{ℕ, ◌+◌, ◌==◌, pos, List, [], ◌∷◌, Option, Some, None, codes, bytes_eq, if◌then◌else◌}
use Rattle.upon_types.specs.declared.types.Span.{Span}
use Rattle.upon_types.specs.declared.types.ast.path.AccessOp.{AccessOp}
use Rattle.upon_types.specs.Path.{Access, by_index, by_key, Member, path_span}
use Rattle.upon_types.specs.Val.{Val, none_val, bool_val, int_val, text_val, map_val, entry_then, no_entries}
use Rattle.upon_lookup.specs.Environment.{Bound, Binding, plain, key_text, loop_state, Root, context, value_source, nothing, Environment, binding_of}
use Rattle.upon_lookup.specs.Finding.{Finding, found, at_fault, Reply, reply}
use Rattle.upon_lookup.specs.LookupFaults.{wrong, not_in_scope, not_in_map, index_into_string, integer_index, index_into}
use Rattle.upon_lookup.specs.Source.{SourceAnswer, says, refuses, Source, value_members_of}
use Rattle.upon_lookup.specs.Walk.{miss, walk, as_some, context_walk}

-- a loop's key has no members
abbrev pub key_walk : List ℕ → List Member → Finding Val
key_walk text [] = found (text_val text)
key_walk text (member ∷ members) = at_fault (index_into_string member.span)

-- what a loop's state holds
abbrev pub is_first : ℕ → Val
is_first index = bool_val (index == 0)

-- whether the item is the last
abbrev pub is_last : ℕ → ℕ → Val
is_last index count = bool_val (index + 1 == count)

-- `loop` alone: the map of the three
abbrev pub state_map : ℕ → ℕ → Val
state_map index count =
    map_val (entry_then (codes "first") (is_first index)
    (entry_then (codes "index") (int_val (pos index)) (entry_then (codes "last") (is_last index count) no_entries)))

-- a member of a loop's state: one of the three; an index is a fault by either operator
abbrev pub state_member : ℕ → ℕ → Access → AccessOp → Span → Finding (Option Val)
state_member i count (by_index n span) op at = at_fault (integer_index at)
state_member i count (by_key word) op at =
    if bytes_eq word.text (codes "index") then found (Some (int_val (pos i))) else
    (if bytes_eq word.text (codes "first") then found (Some (is_first i)) else
    (if bytes_eq word.text (codes "last") then found (Some (is_last i count)) else miss op (not_in_map at)))

-- after a member of a loop's state no member may be, also if that member missed by `?.`
abbrev pub state_end : Val → List Member → Finding Val
state_end v [] = found v
state_end v (member ∷ members) = at_fault (index_into v member.span)

-- what follows a member of a loop's state
abbrev pub after_state : Finding (Option Val) → List Member → Finding Val
after_state (found (Some v)) members = state_end v members
after_state (found None) members = state_end none_val members
after_state (at_fault fault) members = at_fault fault

-- the members after `loop`
abbrev pub state_walk : ℕ → ℕ → List Member → Finding Val
state_walk index count [] = found (state_map index count)
state_walk index count (member ∷ members) = after_state
    (state_member index count member.access member.op member.span) members

-- what a binding answers to the members after the first
abbrev pub bound_value : Bound → List Member → Finding Val
bound_value (plain v) members = walk members v
bound_value (key_text text) members = key_walk text members
bound_value (loop_state index count) members = state_walk index count members

-- what a binding answers, if there is one
abbrev pub maybe_bound : Option Bound → List Member → Finding (Option Val)
maybe_bound None members = found None
maybe_bound (Some b) members = as_some (bound_value b members)

-- a path among bindings: the first one of its first member's name answers; none if there is no such binding
abbrev pub bindings_walk : List Binding → Member → List Member → Finding (Option Val)
bindings_walk bs first rest = maybe_bound (binding_of first.access bs) rest

-- what nothing binds is a fault at the first member
abbrev pub or_not_in_scope : Finding (Option Val) → Span → Finding Val
or_not_in_scope (found (Some v)) at = found v
or_not_in_scope (found None) at = at_fault (not_in_scope at)
or_not_in_scope (at_fault fault) at = at_fault fault

-- a refusal of the value source lies at the whole path
abbrev pub source_value : SourceAnswer Val → Span → Finding Val
source_value (says v) at = found v
source_value (refuses text) at = at_fault (wrong text at)

-- what the value source replies: a refusal lies at the whole path
abbrev pub reply_value : {Q : Type 0} → Reply Q (SourceAnswer Val) → Span → Reply Q (Finding Val)
reply_value r at = reply (source_value r.answer at) r.next

-- the value source is asked for the whole path, once
abbrev pub root_value : {Q : Type 0} → Source Q → Root → Member → List Member → Q → Reply Q (Finding Val)
root_value ask (context v) first rest q = reply (or_not_in_scope (context_walk first rest v) first.span) q
root_value ask value_source first rest q = reply_value (ask q (value_members_of (first ∷ rest))) (path_span first rest)
root_value ask nothing first rest q = reply (at_fault (not_in_scope first.span)) q

-- what the bindings answer, or else the root
abbrev pub or_root : {Q : Type 0} → Finding (Option Val) → Source Q → Root → Member → List Member → Q → Reply Q
    (Finding Val)
or_root (found (Some v)) ask root first rest q = reply (found v) q
or_root (found None) ask root first rest q = root_value ask root first rest q
or_root (at_fault fault) ask root first rest q = reply (at_fault fault) q

-- the bindings answer, or else the root
abbrev pub lookup : {Q : Type 0} → Source Q → Environment → Member → List Member → Q → Reply Q (Finding Val)
lookup ask env first rest q = or_root (bindings_walk env.bindings first rest) ask env.root first rest q

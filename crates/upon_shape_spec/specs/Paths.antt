-- The shape of what a path finds in a value, where it is sure to find something.
use Rattle.std.specs.Prelude.{ℕ, List, [], ◌∷◌, Bool, true, false, ◌||◌, Option, Some, None, option_map, if◌then◌else◌}
use Rattle.upon_types.specs.declared.types.ast.path.AccessOp.{AccessOp}
use Rattle.upon_types.specs.declared.types.ast.path.AccessOp.TheVariants.{Direct, Optional}
use Rattle.upon_types.specs.Path.{Access, by_index, by_key, Member}
use Rattle.upon_shape_spec.specs.Shape.{Plain, Shape, any_shape, one_of, Lists, no_list, lists_of, Maps, no_map, maps_of, never, optional, at_key}

-- what a member finds: it may be a fault; something of this shape; or that or nothing, which ends the path
pub data MemberShape : Type 0 where
  may_fail : MemberShape
  finds : Shape → MemberShape
  may_miss : Shape → MemberShape

-- values without parts are taken
abbrev pub takes_plain : Plain → Bool
takes_plain p = p.none || (p.truth || (p.integer || p.text))

-- lists are taken
abbrev pub takes_lists : Lists → Bool
takes_lists no_list = false
takes_lists (lists_of s) = true

-- maps are taken
abbrev pub takes_maps : Maps → Bool
takes_maps no_map = false
takes_maps (maps_of ks) = true

-- what may not be there: `?.` may miss it, and `.` may be a fault
abbrev pub if_there : AccessOp → Shape → MemberShape
if_there Direct s = may_fail
if_there Optional s = may_miss s

-- what a key finds of which this is known
abbrev pub by_known_key : AccessOp → Bool → Shape → MemberShape
by_known_key op true s = finds s
by_known_key op false s = if_there op s

-- in a map, if it can be one
abbrev pub key_in_map : AccessOp → List ℕ → Maps → MemberShape
key_in_map op key no_map = finds never
key_in_map op key (maps_of ks) = by_known_key op (at_key key ks).required (at_key key ks).shape

-- in a list, if it can be one; how long it is isn't known
abbrev pub index_in_list : AccessOp → Lists → MemberShape
index_in_list op no_list = finds never
index_in_list op (lists_of s) = if_there op s

-- a key of what can only be a map, an index of what can only be a list
abbrev pub member_shape : AccessOp → Access → Shape → MemberShape
member_shape op access any_shape = may_fail
member_shape op (by_key word) (one_of p l m) =
    if takes_plain p || takes_lists l then may_fail else key_in_map op word.text m
member_shape op (by_index n span) (one_of p l m) =
    if takes_plain p || takes_maps m then may_fail else index_in_list op l

-- on with what a member finds
abbrev pub after_member_shape : MemberShape → (Shape → Option Shape) → Option Shape
after_member_shape may_fail go = None
after_member_shape (finds s) go = go s
after_member_shape (may_miss s) go = option_map optional (go s)

-- from member to member
abbrev pub walk_shape : List Member → Shape → Option Shape
walk_shape [] s = Some s
walk_shape (member ∷ members) s =
    after_member_shape (member_shape member.op member.access s) (walk_shape members)

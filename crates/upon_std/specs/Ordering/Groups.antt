-- Groups of items that are lent, as a list is parted into them.
use Rattle.std.specs.Prelude.{ℕ, zero, suc, List, [], ◌∷◌, ◌++◌, map}
use denote.Ref.{Bor}
use Rattle.upon_types.specs.Same.{val_eq}
use Rattle.upon_types.specs.Val.{Val}
use Rattle.upon_types.specs.View.{view}
use Rattle.upon_types.specs.declared.value.Value.{Value}
use Rattle.upon_std.specs.Ordering.Distinct.{distinct}
use Rattle.upon_std.specs.Ordering.Grouping.{members}
use Rattle.upon_std.specs.Ordering.Keys.{lent_val}
use Rattle.upon_std.specs.declared.ordering.grouping.Group.{Group}

-- what lent items denote
abbrev pub lent_vals : List (Bor Value) → List Val
lent_vals items = map (λ item. view item.now) items

-- the key of a group, and its items
abbrev pub group_parts : Group → Val × List Val
group_parts group = (lent_val group.key, lent_vals group.members.items)

-- groups with one value more: in the group at a place, or in a group of its own after the last
abbrev pub added_at : ℕ → Val → Val → List (Val × List Val) → List (Val × List Val)
added_at n k v [] = (k, v ∷ []) ∷ []
added_at zero k v (g ∷ gs) = (g.0, g.1 ++ v ∷ []) ∷ gs
added_at (suc n) k v (g ∷ gs) = g ∷ added_at n k v gs

-- values in groups: each key with the values that have it, in the order in which the keys first come
abbrev pub parted : (Val → Val) → List Val → List (Val × List Val)
parted key vs = map (λ k. (k, members key k vs)) (distinct val_eq (map key vs))

-- What is yet to be compared of two values: what is left of the lists and maps that both are inside of.
use Rattle.std.specs.Prelude.{ℕ, List, [], ◌∷◌, ◌+◌, ◌*◌, Bool, true, false, ◌&&◌}
use Rattle.std.specs.Slice.Iter.{iter_rest}
use Rattle.upon_types.specs.Same.{val_agrees, vals_agree, entries_agree}
use Rattle.upon_types.specs.View.{view, vals_view, entries_view}
use Rattle.upon_types.specs.Weight.{bulk, items_bulk, entries_bulk}
use Rattle.upon_types.specs.declared.value.comparing.Next.{Next}
use Rattle.upon_types.specs.declared.value.comparing.Next.TheVariants.{Both, End, Differ}
use Rattle.upon_types.specs.declared.value.comparing.Pair.{Pair}
use Rattle.upon_types.specs.declared.value.comparing.Pair.TheVariants.{Lists, Maps}
use Rattle.upon_types.specs.declared.value.comparing.TwoLists.{TwoLists}
use Rattle.upon_types.specs.declared.value.comparing.TwoMaps.{TwoMaps}

-- whether what is left of two lists is the same
abbrev pub lists_agree : TwoLists → Bool
lists_agree lists = vals_agree (vals_view (iter_rest lists.first)) (vals_view (iter_rest lists.second))

-- whether what is left of two maps is the same
abbrev pub maps_agree : TwoMaps → Bool
maps_agree maps = entries_agree (entries_view maps.first) (entries_view maps.second)

-- whether what is left of two lists or two maps is the same
abbrev pub agree_in : Pair → Bool
agree_in (Lists lists) = lists_agree lists
agree_in (Maps maps) = maps_agree maps

-- whether all that is left is the same, of pairs that stand in one another, the innermost last
abbrev pub agree_all : List Pair → Bool
agree_all [] = true
agree_all (outer ∷ inner) = agree_all inner && agree_in outer

-- whether what came next in two lists or two maps is the same, and what is left of them then, of which this is given
abbrev pub agree_after : Next → Bool → Bool
agree_after (Both x y) rest = val_agrees (view x.now) (view y.now) && rest
agree_after End rest = true
agree_after Differ rest = false

-- how many values are left of the first list or map, with those in them
abbrev pub left_in : Pair → ℕ
left_in (Lists lists) = items_bulk (iter_rest lists.first)
left_in (Maps maps) = entries_bulk maps.first

-- how many values that is with what came next in it, and what is left of it then, of which this is given: none if
-- nothing more is to be compared there
abbrev pub left_after : Next → ℕ → ℕ
left_after (Both x y) rest = bulk x.now + rest
left_after End rest = 0
left_after Differ rest = 0

-- how much is to do: each pair ends, and each value that is left of its first list or map begins and ends
abbrev pub work_of_pairs : List Pair → ℕ
work_of_pairs [] = 0
work_of_pairs (outer ∷ inner) = 2 * left_in outer + 1 + work_of_pairs inner

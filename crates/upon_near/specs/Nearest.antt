-- The names that are near to a name.
use Rattle.std.specs.Prelude.{ℕ, List, length, take, filter, max, Bool, true, false, Option, Some, None, nat_le, ◌&&◌, ◌/◌, if◌then◌else◌}
use Rattle.std.specs.Borrow.{Bor}
use Rattle.std.specs.List.{list_all}
use Rattle.std.specs.Str.{chars}
use Rattle.strsim.specs.Edits.{osa_table, OsaState}

-- the distance of two names: how many times a letter is put in, left out or exchanged, or two letters next to each
-- other change their places, on the way from one to the other
abbrev pub distance : List ℕ → List ℕ → ℕ
distance name other = (osa_table (chars name) (chars other)).last_row (length (chars other))

-- how far a name is at most that is near: a third of the letters, and at least one
abbrev pub reach : List ℕ → ℕ
reach name = max (length (chars name) / 3) 1

-- whether a name is short enough to be compared with others: it has at most a hundred bytes
abbrev pub is_short : List ℕ → Bool
is_short name = nat_le (length name) 100

-- the distance of a name that is near to another; none if it is not
abbrev pub near_distance : List ℕ → List ℕ → Option ℕ
near_distance name other =
    if (is_short name && is_short other) && nat_le (distance name other) (reach name)
    then Some (distance name other)
    else None

-- whether what is at the second distance, if it is near, is no nearer than what is at the first
abbrev pub is_no_nearer : ℕ → Option ℕ → Bool
is_no_nearer d None = true
is_no_nearer d (Some other) = nat_le d other

-- whether what is at a distance is near, and no other is nearer
abbrev pub is_least : Option ℕ → (ℕ → Bool) → Bool
is_least None no_other_nearer = false
is_least (Some d) no_other_nearer = no_other_nearer d

-- whether one of some names is the nearest: it is near, and none of the others is nearer
abbrev pub is_nearest : List ℕ → List (Bor (List ℕ)) → Bor (List ℕ) → Bool
is_nearest name names one =
    is_least (near_distance name one.now) (λ d. list_all (λ other. is_no_nearer d (near_distance name other.now)) names)

-- the nearest of some names, in their order and at most two
abbrev pub nearest : List ℕ → List (Bor (List ℕ)) → List (Bor (List ℕ))
nearest name names = take 2 (filter (is_nearest name names) names)

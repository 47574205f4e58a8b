use Rattle.std.proofs.Common.{◌≡◌, ℕ, take}
use Rattle.std.specs.List.{list_all}
use Rattle.upon_near.specs.Nearest.{is_no_nearer, near_distance}
use Rattle.upon_near.proofs.nearest.least_distance.Given as goal

-- the least distance of the names so far
abbrev pub invariant-loop-other : goal.invariant-loop-other
invariant-loop-other l =
    (d : ℕ) → list_all (λ other. is_no_nearer d (near_distance l.name other.now)) (take l.other-index l.names) ≡ is_no_nearer d l.least

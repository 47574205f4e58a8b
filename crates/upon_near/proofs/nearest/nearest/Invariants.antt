use Rattle.std.proofs.Common.{◌≡◌, take}
use Rattle.std.specs.List.{filter}
use Rattle.upon_near.specs.Nearest.{is_nearest}
use Rattle.upon_near.proofs.nearest.nearest.Given as goal

-- those of the names so far that are the nearest of all
abbrev pub invariant-loop-other : goal.invariant-loop-other
invariant-loop-other l = l.near.items ≡ filter (is_nearest l.name l.names) (take l.other-index l.names)

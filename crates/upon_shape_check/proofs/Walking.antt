-- Walks from member to member.
use Rattle.std.proofs.Common.{Bool, true, false, Option, option_map}
use Rattle.upon_shape_spec.specs.Shape.{Shape, optional}

-- what a walk comes to, where it may have missed
abbrev pub missed_walk : Bool → Option Shape → Option Shape
missed_walk true o = option_map optional o
missed_walk false o = o

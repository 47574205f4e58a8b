use Rattle.std.proofs.Common.{◌≡◌, drop, map}
use Rattle.upon_types.specs.AstPath.{member_of}
use Rattle.upon_shape_spec.specs.Doubts.{walk_doubts}
use Rattle.upon_shape_spec.specs.Paths.{walk_shape}
use Rattle.upon_shape.specs.View.{shape_view}
use Rattle.upon_shape_check.proofs.Walking.{missed_walk}
use Rattle.upon_shape_check.proofs.found.walk.Given as goal

abbrev pub invariant-loop-member : goal.invariant-loop-member
invariant-loop-member l = record {
  shape : walk_shape (map member_of l.members) (shape_view l.shape)
      ≡ missed_walk l.missed (walk_shape (map member_of (drop l.member-index l.members)) (shape_view l.current));
  doubts : walk_doubts (map member_of l.members) (shape_view l.shape) ≡ walk_doubts (map member_of (drop l.member-index l.members)) (shape_view l.current);
}

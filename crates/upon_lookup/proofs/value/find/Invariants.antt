use Rattle.std.proofs.Common.{◌≡◌, drop, map}
use Rattle.upon_types.specs.AstPath.{member_of}
use Rattle.upon_types.specs.View.{view}
use Rattle.upon_lookup.specs.Walk.{walk}
use Rattle.upon_lookup.proofs.value.find.Given as goal

abbrev pub invariant-loop-member : goal.invariant-loop-member
invariant-loop-member l = record {
  same_end : walk (map member_of (drop l.member-index l.path)) (view l.here) ≡ walk (map member_of l.path) (view l.value);
}

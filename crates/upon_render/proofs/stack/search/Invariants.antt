use Rattle.std.proofs.Common.{◌≡◌, ◌≤◌, Bool, take, length}
use Rattle.upon_types.specs.AstPath.{first_member, rest_members}
use Rattle.upon_lookup.specs.Environment.{Environment}
use Rattle.upon_render.specs.Frames.{frames_over, frames_lend}
use Rattle.upon_lookup.specs.Settled.{known_path}
use Rattle.upon_render.proofs.stack.search.Given as goal

abbrev pub invariant-loop-left : goal.invariant-loop-left
invariant-loop-left l = record {
  within : l.left ≤ length l.frames;
  same : (env : Environment) (lent : Bool)
      → known_path (frames_over env l.frames) (frames_lend lent l.frames (first_member l.var).access) (first_member l.var) (rest_members l.var)
      ≡ known_path (frames_over env (take l.left l.frames)) (frames_lend lent (take l.left l.frames) (first_member l.var).access) (first_member l.var) (rest_members l.var);
}

abbrev pub decreases-loop-left : goal.decreases-loop-left
decreases-loop-left l = l.left

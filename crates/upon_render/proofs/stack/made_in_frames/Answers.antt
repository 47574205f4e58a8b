use Rattle.std.proofs.Common.{◌≡◌, ◌+◌, ◌-◌, take, arith, sym, subst}
use Rattle.upon_types.specs.AstPath.{first_member, rest_members}
use Rattle.upon_render.specs.Frames.{frame_bindings, frames_over, frames_lend}
use Rattle.upon_render.specs.Loop.{is_lent_loop}
use Rattle.upon_lookup.specs.Seen.{FindsMade}
use Rattle.upon_lookup.specs.Settled.{SettledPath}
use Rattle.upon_render.specs.declared.stack.Frame.TheVariants.{Loop}
use Rattle.upon_render.proofs.Known.{frame_makes}
use Rattle.upon_render.proofs.Searches.{known-step, known-passed, known_by_frame}
use Rattle.upon_render.proofs.stack.made_in_frames.Goals as goal

pub loop-left-preserved : goal.loop-left-preserved
loop-left-preserved c =
    let first = first_member c.args.var.now in
    let rest = rest_members c.args.var.now in
    let frames = c.args.frames.now in
    let n = c.loop-left.left in
    let k = c.loop-left.left - 1 in
    let next : n ≡ k + 1 = omega arith in
    record {
      within = omega arith;
      same = λ env lent. known-passed env lent frames n k c.index-frames-left.result first rest next c.loop-left.invariant.within c.index-frames-left.is (c.loop-left.invariant.same env lent) (c.in-Below-default.ensures (frames_over env (take k frames)) (frames_lend lent (take k frames) first.access));
    }

pub returns-in-Unknown-Loop : goal.returns-in-Unknown-Loop
returns-in-Unknown-Loop c env lent =
    let first = first_member c.args.var.now in
    let rest = rest_members c.args.var.now in
    let frames = c.args.frames.now in
    let n = c.loop-left.left in
    let k = c.loop-left.left - 1 in
    let next : n ≡ k + 1 = omega arith in
    let state = c.in-Unknown-Loop.state in
    let frame = c.index-frames-left-in-loop-left in
    let below = take k frames in
    let P : SettledPath → Type 0 = λ s. FindsMade s c.find_made.result in
    let makes = frame_makes c.find_made.result (frame_bindings (Loop state)) (frames_over env below) (is_lent_loop state) (frames_lend lent below first.access) first rest c.find_made.ensures in
    subst P (sym (known-step env lent frames n k frame.result first rest next c.loop-left.invariant.within frame.is (c.loop-left.invariant.same env lent)))
    (subst (λ f. P (known_by_frame f env lent below first rest)) (sym c.in-Unknown-Loop.is-1) makes)

use Rattle.std.proofs.Common.{◌≡◌, ◌+◌, ◌-◌, take, arith, ap, sym, ◌∙◌, subst}
use Rattle.upon_types.specs.AstPath.{first_member, rest_members}
use Rattle.upon_render.specs.Frames.{frames_over, frames_lend}
use Rattle.upon_lookup.specs.Seen.{FindsSeen}
use Rattle.upon_lookup.specs.Settled.{SettledPath, known_path}
use Rattle.upon_lookup.specs.declared.value.Found.TheVariants.{Lent, Held}
use Rattle.upon_render.proofs.Searches.{known-step, known-passed, known_by_frames}
use Rattle.upon_render.proofs.stack.find_in_frames.Goals as goal

pub returns-in-Lent : goal.returns-in-Lent
returns-in-Lent c env lent =
    let first = first_member c.args.var.now in
    let rest = rest_members c.args.var.now in
    let frames = c.args.frames.now in
    let n = c.loop-left.left in
    let k = c.loop-left.left - 1 in
    let next : n ≡ k + 1 = omega arith in
    let same = known-step env lent frames n k c.index-frames-left.result first rest next c.loop-left.invariant.within c.index-frames-left.is (c.loop-left.invariant.same env lent) in
    let P : SettledPath → Type 0 = λ s. FindsSeen s (known_path env lent first rest) (Lent c.in-Lent.value) in
    subst P (sym same) (c.in-Lent.ensures (frames_over env (take k frames)) (frames_lend lent (take k frames) first.access))

pub returns-in-Held : goal.returns-in-Held
returns-in-Held c env lent =
    let first = first_member c.args.var.now in
    let rest = rest_members c.args.var.now in
    let frames = c.args.frames.now in
    let n = c.loop-left.left in
    let k = c.loop-left.left - 1 in
    let next : n ≡ k + 1 = omega arith in
    let same = known-step env lent frames n k c.index-frames-left.result first rest next c.loop-left.invariant.within c.index-frames-left.is (c.loop-left.invariant.same env lent) in
    let P : SettledPath → Type 0 = λ s. FindsSeen s (known_path env lent first rest) (Held c.in-Held.value) in
    subst P (sym same) (c.in-Held.ensures (frames_over env (take k frames)) (frames_lend lent (take k frames) first.access))

pub loop-left-preserved : goal.loop-left-preserved
loop-left-preserved c =
    let first = first_member c.args.var.now in
    let rest = rest_members c.args.var.now in
    let frames = c.args.frames.now in
    let n = c.loop-left.left in
    let k = c.loop-left.left - 1 in
    let next : n ≡ k + 1 = omega arith in
    record {
      within = omega arith;
      same = λ env lent. known-passed env lent frames n k c.index-frames-left.result first rest next c.loop-left.invariant.within c.index-frames-left.is (c.loop-left.invariant.same env lent) (c.in-Below.ensures (frames_over env (take k frames)) (frames_lend lent (take k frames) first.access));
    }

pub returns : goal.returns
returns c env lent =
    let none : c.loop-left.left ≡ 0 = omega arith in
    c.loop-left.invariant.same env lent ∙ ap (λ i. known_by_frames env lent (take i c.args.frames.now) (first_member c.args.var.now) (rest_members c.args.var.now)) none

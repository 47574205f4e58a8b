use Rattle.std.proofs.Common.{ap, sym}
use Rattle.std.specs.Str.Iter.{split_text}
use Rattle.upon_std.specs.Cutting.Pieces.{put_together}
use Rattle.upon_std.proofs.CuttingLemmas.Appending.{moved, too_long, all_made, next_piece}
use Rattle.upon_std.proofs.CuttingLemmas.Pieces.{shown, part_comes}
use Rattle.upon_std.proofs.cutting.texts.replaced.Goals as goal

pub loop-piece-preserved : goal.loop-piece-preserved
loop-piece-preserved c =
    let comes = part_comes c.loop-piece.piece-iterator c.next.new.self c.args.from.now c.in-Some.piece c.requires c.loop-piece.invariant.pattern c.in-Some.ensures.steps in
    let more = moved _ _ _ _ _ _ c.if-not-branch.false c.in_ok-push_piece.ensures (next_piece _ c.loop-piece.before.now c.args.to.now c.in-Some.piece.now _ _ _ comes.1 c.loop-piece.invariant.whole) in
    record { text = c.utf8.to; pattern = comes.0; within = more.0; whole = more.1 }

pub returns : goal.returns
returns c =
    all_made _ _ _ c.loop-piece.invariant.within
    (ap (λ b. put_together c.loop-piece.before.now c.args.to.now (shown c.args.from.now b (split_text c.loop-piece.piece-iterator))) (sym c.in-None.ensures.steps.0))
    c.loop-piece.invariant.whole

pub returns-then-not-branch : goal.returns-then-not-branch
returns-then-not-branch c =
    let comes = part_comes c.loop-piece.piece-iterator c.next.new.self c.args.from.now c.in-Some.piece c.requires c.loop-piece.invariant.pattern c.in-Some.ensures.steps in
    too_long _ _ _ _ _ _ c.if-not-branch.true c.in_ok-push_piece.ensures (next_piece _ c.loop-piece.before.now c.args.to.now c.in-Some.piece.now _ _ _ comes.1 c.loop-piece.invariant.whole)

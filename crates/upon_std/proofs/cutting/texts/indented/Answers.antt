use Rattle.std.proofs.Common.{◌<◌, length, codes, ap, sym, arith}
use Rattle.std.specs.Str.Iter.{split_text}
use Rattle.upon_std.specs.Cutting.Pieces.{indented_lines}
use Rattle.upon_std.proofs.CuttingLemmas.Appending.{moved, too_long, all_made, next_line}
use Rattle.upon_std.proofs.CuttingLemmas.Pieces.{shown, part_comes}
use Rattle.upon_std.proofs.cutting.texts.indented.Goals as goal

pub loop-line-preserved : goal.loop-line-preserved
loop-line-preserved c =
    let some : 0 < length (codes "\n") = omega arith in
    let comes = part_comes c.loop-line.line-iterator c.next.new.self (codes "\n") c.in-Some.line some c.loop-line.invariant.pattern c.in-Some.ensures.steps in
    let more = moved _ _ _ _ _ _ c.if-not-branch.false c.in_ok-push_line.ensures (next_line _ c.loop-line.is_first c.args.width c.in-Some.line.now _ _ _ comes.1 c.loop-line.invariant.whole) in
    record { pattern = comes.0; within = more.0; whole = more.1 }

pub returns : goal.returns
returns c =
    all_made _ _ _ c.loop-line.invariant.within
    (ap (λ b. indented_lines c.loop-line.is_first c.args.width (shown (codes "\n") b (split_text c.loop-line.line-iterator))) (sym c.in-None.ensures.steps.0))
    c.loop-line.invariant.whole

pub returns-then-not-branch : goal.returns-then-not-branch
returns-then-not-branch c =
    let some : 0 < length (codes "\n") = omega arith in
    let comes = part_comes c.loop-line.line-iterator c.next.new.self (codes "\n") c.in-Some.line some c.loop-line.invariant.pattern c.in-Some.ensures.steps in
    too_long _ _ _ _ _ _ c.if-not-branch.true c.in_ok-push_line.ensures (next_line _ c.loop-line.is_first c.args.width c.in-Some.line.now _ _ _ comes.1 c.loop-line.invariant.whole)

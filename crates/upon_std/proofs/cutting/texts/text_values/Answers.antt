use Rattle.std.proofs.Common.{List, ℕ, Bor, ap, arith}
use Rattle.upon_types.specs.Val.{text_val}
use Rattle.upon_types.specs.View.{vals_of}
use Rattle.upon_std.proofs.CuttingLemmas.Items.{pushed_at, all_pushed}
use Rattle.upon_std.proofs.cutting.texts.text_values.Goals as goal

pub loop-text-preserved : goal.loop-text-preserved
loop-text-preserved c =
    pushed_at (λ (text : Bor (List ℕ)). text_val text.now) c.args.texts.now c.loop-text.text-index _ _ _ _ (omega arith)
    c.in_ok-push.ensures.items c.in_ok-from_text.ensures c.loop-text.invariant

pub returns : goal.returns
returns c = ap vals_of (all_pushed (λ (text : Bor (List ℕ)). text_val text.now) c.args.texts.now c.loop-text.text-index _ (omega arith) c.loop-text.invariant)

use Rattle.std.proofs.Common.{map, ap, ◌∙◌}
use Rattle.std.proofs.lemmas.Iterator.Consumers.{map_from_collect}
use Rattle.std.proofs.lemmas.Iterator.Splits.{YieldsList-from_lines}
use Rattle.upon_std.proofs.CuttingLemmas.Items.{made_values}
use Rattle.upon_std.proofs.cutting.texts.lines.Goals as goal

pub returns : goal.returns
returns c =
    let found = YieldsList-from_lines {s = c.lines.result} c.args.text.now c.lines.ensures.rest in
    let all = map_from_collect c.collect.result c.collect.ensures.ran found in
    let whole = rw c.in_ok-all.was at all in
    made_values c.text_values.result c.deref.result.now _ (ap (map (λ text. text.now)) c.deref.ensures.value ∙ whole) c.text_values.ensures

use Rattle.std.proofs.Common.{◌≡◌, map, take}
use Rattle.upon_types.specs.Val.{text_val}
use Rattle.upon_types.specs.View.{view}
use Rattle.upon_std.proofs.cutting.texts.text_values.Given as goal

abbrev pub invariant-loop-text : goal.invariant-loop-text
invariant-loop-text l = map view l.made.items ≡ map (λ text. text_val text.now) (take l.text-index l.texts)

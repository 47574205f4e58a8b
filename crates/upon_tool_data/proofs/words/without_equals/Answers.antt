use Rattle.std.proofs.Common.{◌≡◌, true, sym, ◌∙◌}
use Rattle.std.proofs.lemmas.List.Elements.{All-more}
use Rattle.upon_tool_data.specs.Words.{has_equals}
use Rattle.upon_tool_data.proofs.words.without_equals.Goals as goal

pub loop-word-preserved : goal.loop-word-preserved
loop-word-preserved c = All-more (λ word. has_equals word.now ≡ true) c.args.words.now c.loop-word.word-index _ c.loop-word-test.true c.loop-word.invariant (sym c.has_equals.ensures ∙ c.if-not-has_equals.false)

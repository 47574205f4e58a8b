use Rattle.upon_tool_data.proofs.Parts.{asked_more, asked_never, asked_twice}
use Rattle.upon_tool_data.proofs.words.asks_again.Goals as goal

pub returns-then-is_twice : goal.returns-then-is_twice
returns-then-is_twice c = asked_twice c.args.words.now c.loop-word.word-index _ c.loop-word-test.true c.loop-word.is_asked _ _ c.loop-word.invariant c.is_input-names_input.ensures c.if-is_twice.true

pub loop-word-preserved : goal.loop-word-preserved
loop-word-preserved c = asked_more c.args.words.now c.loop-word.word-index _ c.loop-word-test.true c.loop-word.is_asked _ _ c.loop-word.invariant c.is_input-names_input.ensures c.if-is_twice.false

pub returns : goal.returns
returns c = asked_never c.args.words.now c.loop-word.word-index c.loop-word.is_asked _ c.loop-word-test.false c.loop-word.invariant

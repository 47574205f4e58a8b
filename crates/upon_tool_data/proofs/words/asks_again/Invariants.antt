use Rattle.std.proofs.Common.{◌≡◌, drop}
use Rattle.upon_tool_data.specs.Words.{asks_again}
use Rattle.upon_tool_data.proofs.words.asks_again.Given as goal

-- what is answered of all words is what is answered of those that are left
abbrev pub invariant-loop-word : goal.invariant-loop-word
invariant-loop-word l = asks_again l.fn.is_taken l.words ≡ asks_again l.is_asked (drop l.word-index l.words)

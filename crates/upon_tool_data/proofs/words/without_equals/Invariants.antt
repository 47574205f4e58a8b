use Rattle.std.proofs.Common.{◌≡◌, All, take, true}
use Rattle.upon_tool_data.specs.Words.{has_equals}
use Rattle.upon_tool_data.proofs.words.without_equals.Given as goal

-- each word so far has a `=`
abbrev pub invariant-loop-word : goal.invariant-loop-word
invariant-loop-word l = All (λ word. has_equals word.now ≡ true) (take l.word-index l.words)

use Rattle.std.proofs.Common.{◌≡◌, ◌∷◌, take, map}
use Rattle.upon_tool_data.proofs.SampleSteps.{groups_in}
use Rattle.upon_tool_data.proofs.samples.each_with.Given as goal

-- each of the words so far, with the others
abbrev pub invariant-loop-word : goal.invariant-loop-word
invariant-loop-word l = groups_in l.groups.items ≡ map (λ word. word ∷ l.others) (take l.word-index l.words)

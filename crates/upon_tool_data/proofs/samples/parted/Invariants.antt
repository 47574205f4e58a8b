use Rattle.std.proofs.Common.{◌≡◌, take}
use Rattle.upon_tool_data.specs.Samples.{with_key, without_key}
use Rattle.upon_tool_data.proofs.samples.parted.Given as goal

-- the words so far without a key, and those with one
abbrev pub invariant-loop-word : goal.invariant-loop-word
invariant-loop-word l = (l.alone.items ≡ without_key (take l.word-index l.words)) × (l.keyed.items ≡ with_key (take l.word-index l.words))

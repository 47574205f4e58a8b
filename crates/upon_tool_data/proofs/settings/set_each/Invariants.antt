use Rattle.std.proofs.Common.{◌≡◌, take, Some}
use Rattle.upon_data.specs.Parts.{data_entries}
use Rattle.upon_tool_data.specs.Settings.{set_each}
use Rattle.upon_tool_data.proofs.settings.set_each.Given as goal

-- the values of the words so far were set
abbrev pub invariant-loop-word : goal.invariant-loop-word
invariant-loop-word l = set_each l.writing (take l.word-index l.words) (data_entries l.initial.data) ≡ Some (data_entries l.data)

use Rattle.std.proofs.Common.{take}
use Rattle.upon_data.specs.Parts.{data_entries}
use Rattle.upon_tool_data.specs.Files.{AddsFiles}
use Rattle.upon_tool_data.proofs.files.add_files.Given as goal

-- the files so far were added
abbrev pub invariant-loop-word : goal.invariant-loop-word
invariant-loop-word g l = AddsFiles (g.R.Sources.world l.rt) l.given (take l.word-index l.words) (g.I.Read.remaining l.initial.input) (data_entries l.initial.data) (g.I.Read.remaining l.input) (data_entries l.data)

use Rattle.std.proofs.Common.{◌≡◌, ◌++◌, drop}
use Rattle.upon_calls.specs.Templates.{lent_pairs}
use Rattle.upon_tool.specs.Fitting.{texts_read}
use Rattle.upon_tool.proofs.fitting.sources_of.Given as goal

-- the texts so far, and those of the files that are left, are those of all
abbrev pub invariant-loop-file : goal.invariant-loop-file
invariant-loop-file l = lent_pairs l.sources.items ++ texts_read (drop l.file-index l.files) ≡ texts_read l.files

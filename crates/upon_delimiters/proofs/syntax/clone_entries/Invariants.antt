use Rattle.std.proofs.Common.{◌≡◌, map, take}
use Rattle.upon_delimiters.specs.Entries.{delimiter_text_of}
use Rattle.upon_delimiters.proofs.syntax.clone_entries.Given as goal

abbrev pub invariant-loop-entry : goal.invariant-loop-entry
invariant-loop-entry l = map delimiter_text_of l.copies.items ≡ map delimiter_text_of (take l.entry-index l.entry-items)

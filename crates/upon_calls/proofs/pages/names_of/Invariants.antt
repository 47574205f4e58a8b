use Rattle.std.proofs.Common.{◌≡◌, take}
use Rattle.upon_needs.specs.Names.{texts}
use Rattle.upon_calls.proofs.CheckedPages.{names_in}
use Rattle.upon_calls.proofs.pages.names_of.Given as goal

-- the names so far
abbrev pub invariant-loop-name : goal.invariant-loop-name
invariant-loop-name l = texts l.names.items ≡ names_in (take l.name-index l.sources)

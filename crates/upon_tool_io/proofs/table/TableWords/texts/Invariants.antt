use Rattle.std.proofs.Common.{◌≡◌, ◌++◌, drop}
use Rattle.upon_tool_io.specs.Said.{lent_texts}
use Rattle.upon_tool_io.specs.Table.{texts_under}
use Rattle.upon_tool_io.proofs.table.TableWords.texts.Given as goal

abbrev pub invariant-loop-row : goal.invariant-loop-row
invariant-loop-row l =
    lent_texts l.found.items ++ texts_under l.name (drop l.row-index l.row-items) ≡ texts_under l.name l.row-items

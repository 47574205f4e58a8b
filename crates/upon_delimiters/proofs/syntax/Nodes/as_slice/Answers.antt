use Rattle.std.proofs.Common.{ap, sym}
use Rattle.upon_delimiters.specs.Entries.{nodes_list}
use Rattle.upon_delimiters.specs.Nodes.{sibling_with}
use Rattle.upon_delimiters.specs.Grown.{grown, marked}
use Rattle.upon_delimiters.proofs.syntax.Nodes.as_slice.Goals as goal

-- the table computes
pub returns-in-Default : goal.returns-in-Default
unfolding sibling_with grown marked
returns-in-Default c = ap nodes_list (sym c.in-Default.is)

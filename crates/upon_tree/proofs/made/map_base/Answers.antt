use Rattle.std.proofs.Common.{rules}
use Rattle.upon_tree.proofs.Trees.{expression_views}
use Rattle.upon_tree.proofs.made.map_base.Goals as goal

pub returns : goal.returns
returns c = search (rules, expression_views)

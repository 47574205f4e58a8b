use Rattle.std.specs.BTreeMap.{get_by_text}
use Rattle.upon_engine.proofs.Tables.{tree_held}
use Rattle.upon_engine.proofs.theorem.held_has_tree.Goals as goal

pub returns : goal.returns
returns g c name held is = tree_held (get_by_text c.args.engine.now.templates name) held is

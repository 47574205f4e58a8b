use Rattle.std.specs.BTreeMap.{get_by_text}
use Rattle.upon_engine.proofs.Tables.{table_of}
use Rattle.upon_engine.proofs.theorem.one_table.Goals as goal

pub returns : goal.returns
returns g c = table_of (get_by_text c.args.engine.now.templates)

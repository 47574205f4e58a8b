use Rattle.std.specs.BTreeMap.{get_by_text}
use Rattle.upon_engine.proofs.Tables.{is_table}
use Rattle.upon_engine.proofs.laws_of_templates.templates_are_the_table.Goals as goal

pub returns : goal.returns
returns g c = is_table (get_by_text c.args.engine.now.templates)

use Rattle.upon_engine.specs.Engine.{table_in}
use Rattle.upon_engine.specs.Template.{template_tree}
use Rattle.upon_needs.proofs.Begun.{needed_here, needed_there}
use Rattle.upon_needs.proofs.needs.is_needed.Goals as goal

pub returns-then-begins_by : goal.returns-then-begins_by
returns-then-begins_by c = needed_here (table_in c.args.templates.now) (template_tree c.args.from.now) c.args.start c.begins_by.result c.begins_by.ensures c.if-begins_by.true

pub returns : goal.returns
returns c = needed_there (table_in c.args.templates.now) (template_tree c.args.from.now) c.args.start c.begins_by.result c.one_begins.result c.in_ok-names.names c.begins_by.ensures c.if-begins_by.false c.in_ok-names.ensures c.one_begins.ensures

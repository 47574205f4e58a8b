use Rattle.upon_needs.specs.EngineNeeds.{start_of}
use Rattle.upon_engine.specs.Template.{template_of}
use Rattle.upon_needs.proofs.Begun.{begins_held, begins_none}
use Rattle.upon_needs.proofs.needs.begins_in.Goals as goal

pub returns-in-Some : goal.returns-in-Some
returns-in-Some c = begins_held _ (template_of c.in-Some.template.now) (start_of c.args.start) c.begins_by.result c.in-Some.ensures c.begins_by.ensures

pub returns-in-None : goal.returns-in-None
returns-in-None c = begins_none _ (start_of c.args.start) c.in-None.ensures

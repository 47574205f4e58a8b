use Rattle.std.proofs.Common.{ap}
use Rattle.upon_engine.specs.Template.{template_of}
use Rattle.upon_engine.proofs.template.Template.rendering.Goals as goal

pub returns-clause-template : goal.returns-clause-template
returns-clause-template g c = ap template_of c.lent.ensures

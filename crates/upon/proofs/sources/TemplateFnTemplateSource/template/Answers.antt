use Rattle.upon.proofs.HandedOn.{shown}
use Rattle.upon.proofs.sources.TemplateFnTemplateSource.template.Goals as goal

pub returns-clause-resolved : goal.returns-clause-resolved
returns-clause-resolved g c = shown _ c.call.result _ _ c.call.ensures

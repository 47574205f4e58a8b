use Rattle.upon_language_spec.proofs.Wanted.TagsLead.{leads_on}
use Rattle.upon_language_spec.proofs.laws.beginning_leads.Goals as goal

pub returns : goal.returns
returns c = leads_on

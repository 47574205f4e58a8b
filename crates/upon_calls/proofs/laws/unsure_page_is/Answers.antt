use Rattle.upon_calls.proofs.Unsure.{shown_or_unsure}
use Rattle.upon_calls.proofs.laws.unsure_page_is.Goals as goal

pub returns : goal.returns
returns c = λ templates options text r. shown_or_unsure r.asked r.contexts r.value r.sources text r.are r.wrong

use Rattle.upon_calls.proofs.ShownBy.{shown_or_placed}
use Rattle.upon_calls.proofs.laws.shown_places_are.Goals as goal

pub returns : goal.returns
returns c = λ templates options text r. shown_or_placed r.asked r.contexts r.value r.sources text r.wrong

use Rattle.upon_html.proofs.EscapedCallables.{calls_escaped}
use Rattle.upon_html.proofs.callables.EscapingCallables.call.Goals as goal

pub returns : goal.returns
returns g c = calls_escaped c.call.result _ _ c.call.ensures

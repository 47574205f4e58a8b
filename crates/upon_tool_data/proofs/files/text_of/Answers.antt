use Rattle.upon_tool_data.proofs.FileSteps.{told_refused}
use Rattle.upon_tool_data.proofs.files.text_of.Goals as goal

pub returns-in-Err-clause-refused : goal.returns-in-Err-clause-refused
returns-in-Err-clause-refused g c =
    λ format. told_refused (g.R.Sources.world c.args.rt.now) format (g.I.Read.remaining c.args.input.now) c.args.name _ _ c.unread.ensures c.in-Err.ensures.unread

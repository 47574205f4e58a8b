use Rattle.std.proofs.Common.{map, string_bytes}
use Rattle.std.proofs.lemmas.Result.{IfOk-weaker}
use Rattle.clap.specs.Simple.{app_of, App}
use Rattle.upon_tool_io.specs.Rows.{AsksByWords}
use Rattle.upon_tool_io.specs.declared.arguments.Call.{Call}
use Rattle.upon_tool_io.proofs.arguments.read.Goals as goal

pub returns-clause-asks : goal.returns-clause-asks
returns-clause-asks c =
    let app = app_of c.in_ok-command.command in
    let words = map string_bytes c.args.words.now in
    IfOk-weaker c.read_by-call.result (AsksByWords app words) (λ (call : Call). (app : App) × AsksByWords app words call)
    (λ call asks. (app, asks)) c.read_by-call.ensures.asks

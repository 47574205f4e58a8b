use Rattle.std.proofs.Common.{Some, string_bytes}
use Rattle.upon_vm.proofs.WithinWrites.{text_received, text_refused}
use Rattle.upon_engine.proofs.engine.Engine.text_within.Goals as goal

pub returns-in-Ok : goal.returns-in-Ok
returns-in-Ok g c = text_received c.args.self.now.depth c.args.limits.now _ _ (string_bytes c.new-text.result) c.write_within.new.out c.new-text.ensures.bytes c.in-Ok.ensures.means

pub returns-in-Err : goal.returns-in-Err
returns-in-Err g c =
    text_refused c.args.self.now.depth c.args.limits.now _ _ (Some (string_bytes c.new-text.result)) (Some (string_bytes c.write_within.new.out)) c.in-Err.error c.in-Err.ensures.means

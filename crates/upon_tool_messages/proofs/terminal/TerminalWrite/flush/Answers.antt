use Rattle.std.proofs.Common.{[], Result, Ok, Err, OnOk, subst}
use Rattle.std.proofs.KnownBytes.{Appends-kept, Appends-nil}
use Rattle.std.specs.Io.KnownBytes.{Appends}
use Rattle.upon_tool_messages.specs.Terminal.{held_line}
use Rattle.upon_tool_messages.proofs.HandedOn.{piece_sent}
use Rattle.upon_tool_messages.proofs.terminal.TerminalWrite.flush.Goals as goal

-- what holds, holds at a value
at_value : {T E P : Type 0} (r : Result T E) → P → OnOk r P
at_value (Ok x) p = p
at_value (Err e) p = tt

pub returns-clause-sent : goal.returns-clause-sent
returns-clause-sent g c =
    let contents = g.E.Write.contents in
    let line = held_line c.args.self.now in
    at_value c.flush.result
    (piece_sent _ line _ (contents c.args.self.now.err.now) (contents c.flush.new.self) _ [] c.clear.ensures.bytes
    (Appends-kept _ (contents c.write_all.new.self) _ line
    (subst (Appends (contents c.args.self.now.err.now) (contents c.write_all.new.self)) c.as_bytes.ensures.value c.in_ok-write_all.ensures.bytes) c.flush.ensures.bytes)
    (Appends-nil (contents c.flush.new.self)))

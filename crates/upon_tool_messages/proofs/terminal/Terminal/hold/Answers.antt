use Rattle.std.proofs.Common.{rules, ◌≡◌, subst, MutBor}
use Rattle.std.proofs.lemmas.Result.{on_ok_weaker}
use Rattle.std.specs.Io.KnownBytes.{Appends}
use Rattle.upon_tool_messages.specs.Terminal.{held_line}
use Rattle.upon_tool_messages.proofs.HandedOn.{piece_held, piece_sent}
use Rattle.upon_tool_messages.proofs.terminal.Terminal.hold.Goals as goal
use Rattle.upon_tool_messages.proofs.terminal.Terminal.hold.Goals.{else-self-via-then-self+then-not-self+else-is_ok, else-self-via-then-self+else-not-self, else-self-via-else-self}

pub returns-then-is_ok-clause-shown : goal.returns-then-is_ok-clause-shown
returns-then-is_ok-clause-shown g c = piece_held _ _ _ _ _ (search rules)

pub returns-clause-shown : goal.returns-clause-shown
returns-clause-shown g c =
    let same : held_line c.else-self.self ≡ held_line c.args.self.now =
    elim c.else-self.branch [
      | else-self-via-then-self+then-not-self+else-is_ok w ↦ search rules
      | else-self-via-then-self+else-not-self w ↦ search rules
      | else-self-via-else-self w ↦ search rules
    ] in
    let stays : c.else-self.self.err ≡ c.args.self.now.err =
    elim c.else-self.branch [
      | else-self-via-then-self+then-not-self+else-is_ok w ↦ search rules
      | else-self-via-then-self+else-not-self w ↦ search rules
      | else-self-via-else-self w ↦ search rules
    ] in
    let let_go : Appends (g.E.Write.contents c.args.self.now.err.now) (g.E.Write.contents c.let_go.new.self.err.now) (held_line c.args.self.now) =
    subst (Appends (g.E.Write.contents c.args.self.now.err.now) (g.E.Write.contents c.let_go.new.self.err.now)) same
    (subst (λ (err : MutBor g.row.E.Denot). Appends (g.E.Write.contents err.now) (g.E.Write.contents c.let_go.new.self.err.now) (held_line c.else-self.self)) stays c.in_ok-let_go.ensures.sent) in
    on_ok_weaker c.write_all.result (λ sent. piece_sent _ (held_line c.args.self.now) _
    (g.E.Write.contents c.args.self.now.err.now) (g.E.Write.contents c.let_go.new.self.err.now) _ c.args.piece.now
    c.in_ok-let_go.ensures.held let_go
    (subst (Appends (g.E.Write.contents c.let_go.new.self.err.now) (g.E.Write.contents c.write_all.new.self)) c.as_bytes.ensures.value sent)) c.write_all.ensures.bytes

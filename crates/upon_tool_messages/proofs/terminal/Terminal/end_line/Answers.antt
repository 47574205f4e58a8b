use Rattle.std.proofs.Common.{◌∷◌, [], true, subst, sym}
use Rattle.std.proofs.lemmas.Result.{on_ok_weaker}
use Rattle.std.specs.Io.KnownBytes.{Appends}
use Rattle.upon_tool_messages.specs.Terminal.{held_line, PassesOn}
use Rattle.upon_tool_messages.specs.declared.terminal.Terminal.{Terminal}
use Rattle.upon_tool_messages.proofs.HandedOn.{handed_both, line_sent, text_sent}
use Rattle.upon_tool_messages.proofs.terminal.Terminal.end_line.Goals as goal
use Rattle.upon_tool_messages.proofs.terminal.Terminal.end_line.Goals.{then-not-self+in_ok-paint_line, else-not-self}

pub returns-clause-shown : goal.returns-clause-shown
returns-clause-shown g c =
    let contents = g.E.Write.contents in
    let last = contents c.write_all.new.self in
    let before = c.hold.new.self in
    let Ends : Terminal g.row.E.Denot → Type 0 =
    λ t. Appends (contents t.err.now) last (10 ∷ []) → PassesOn true (held_line before) (held_line t) (contents before.err.now) last (10 ∷ []) in
    let ends : Ends c.if-not-self.self =
    elim c.if-not-self.branch as (λ _. Ends c.if-not-self.self) [
      | then-not-self+in_ok-paint_line w ↦ subst Ends (sym w.self-is) (λ sent. line_sent _ _ _ _ _ _ w.in_ok-paint_line.ensures.held w.in_ok-paint_line.ensures.sent sent)
      | else-not-self w ↦ subst Ends (sym w.self-is) (λ sent. text_sent true _ _ _ _ (c.in_ok-hold.ensures.unheld w.if-not-self.false) sent)
    ] in
    let begins = subst (λ paints. PassesOn paints (held_line c.args.self.now) (held_line before) (contents c.args.self.now.err.now) (contents before.err.now) c.args.piece.now) c.requires c.in_ok-hold.ensures.shown in
    on_ok_weaker c.write_all.result (λ sent. handed_both true _ _ _ _ _ _ _ _ begins (ends sent)) c.write_all.ensures.bytes

use Rattle.std.proofs.Common.{subst, sym}
use Rattle.std.proofs.lemmas.Result.{on_ok_weaker}
use Rattle.std.specs.Io.KnownBytes.{Appends}
use Rattle.upon_tool_messages.proofs.HandedOn.{part_plain, part_tinted}
use Rattle.upon_tool_messages.proofs.terminal.write_painted.Goals as goal

pub returns-in_ok-write_all-in-Some-2 : goal.returns-in_ok-write_all-in-Some-2
returns-in_ok-write_all-in-Some-2 g c =
    on_ok_weaker c.write_all-in-Some-2.result
    (λ third. part_tinted c.args.tint c.in-Some.code.now c.args.part.now _
    (g.E.Write.contents c.write_all.new.self) (g.E.Write.contents c.write_all-in-Some.new.self) _ (sym c.in-Some.ensures)
    (subst (Appends _ _) c.as_bytes.ensures.value c.in_ok-write_all-in-Some.ensures.bytes)
    (subst (Appends _ _) c.as_bytes-in-Some.ensures.value c.in_ok-write_all-in-Some-2.ensures.bytes)
    (subst (Appends _ _) c.as_bytes-in-Some-2.ensures.value third)) c.write_all-in-Some-2.ensures.bytes

pub returns-in_default : goal.returns-in_default
returns-in_default g c =
    on_ok_weaker c.write_all-in_default.result
    (λ sent. part_plain c.args.part.now _ _ (subst (Appends _ _) c.as_bytes-in_default.ensures.value sent)) c.write_all-in_default.ensures.bytes

use Rattle.std.proofs.Common.{◌∙◌}
use Rattle.upon_tool_messages.specs.Terminal.{held_line}
use Rattle.upon_tool_messages.proofs.HandedOn.{parts_sent}
use Rattle.upon_tool_messages.proofs.terminal.Terminal.paint_line.Goals as goal

pub returns-clause-sent : goal.returns-clause-sent
returns-clause-sent g c =
    parts_sent _ _ (held_line c.args.self.now) _ (g.E.Write.contents c.write_painted.new.err) _
    (c.parts_of-parts.ensures ∙ c.as_str.ensures.value) c.in_ok-write_painted.ensures c.in_ok-write_painted-2.ensures

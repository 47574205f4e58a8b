use Rattle.std.proofs.Common.{◌≡◌, ◌++◌, ℕ, List, true, length}
use denote.Text.{Utf8}
use denote.Shadow.{shadow}
use Rattle.upon_tool_messages.specs.Terminal.{held_line, paints_lines, PassesOn}
use Rattle.upon_tool_messages.proofs.terminal.Terminal.put_part.Given as goal

-- what was passed of the part is handed on
abbrev pub invariant-loop-end : goal.invariant-loop-end
invariant-loop-end g l = shadow (Utf8 l.rest) × record {
  paints : paints_lines l.self ≡ true;
  done : (passed : List ℕ) × (l.part ≡ passed ++ l.rest)
      × PassesOn (paints_lines l.initial.self) (held_line l.initial.self) (held_line l.self) (g.E.Write.contents l.initial.self.err.now) (g.E.Write.contents l.self.err.now) passed;
}

abbrev pub decreases-loop-end : goal.decreases-loop-end
decreases-loop-end g l = length l.rest

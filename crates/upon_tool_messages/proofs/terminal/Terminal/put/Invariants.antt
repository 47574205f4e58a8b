use Rattle.std.proofs.Common.{◌≡◌, ◌++◌, ℕ, List, length}
use denote.Text.{Utf8}
use denote.Shadow.{shadow}
use Rattle.upon_tool_messages.specs.Terminal.{held_line, paints_lines, shown_text, PassesOn}
use Rattle.upon_tool_messages.proofs.terminal.Terminal.put.Given as goal

-- what was passed of the text is handed on as it is shown
abbrev pub invariant-loop-before : goal.invariant-loop-before
invariant-loop-before g l = shadow (Utf8 l.rest) × record {
  paints : paints_lines l.self ≡ paints_lines l.initial.self;
  done : (shown : List ℕ) × (shown_text l.text ≡ shown ++ shown_text l.rest)
      × PassesOn (paints_lines l.initial.self) (held_line l.initial.self) (held_line l.self) (g.E.Write.contents l.initial.self.err.now) (g.E.Write.contents l.self.err.now) shown;
}

abbrev pub decreases-loop-before : goal.decreases-loop-before
decreases-loop-before g l = length l.rest

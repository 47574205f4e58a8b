use Rattle.std.proofs.Common.{◌≡◌, ◌≤◌}
use Rattle.std.specs.Str.{IsCharBoundary}
use Rattle.upon_fmt.specs.Formatter.{text_of, is_marked}
use Rattle.upon_html.proofs.Runs.{Keeps}
use Rattle.upon_html.proofs.formatters.write_escaped.Given as goal

abbrev pub invariant-loop-at : goal.invariant-loop-at
invariant-loop-at l = record {
  within : l.start ≤ l.at;
  boundary : IsCharBoundary l.text l.start;
  mark : is_marked l.f ≡ is_marked l.initial.f;
  keeps : Keeps (text_of l.initial.f) (text_of l.f) l.text l.start l.at;
}

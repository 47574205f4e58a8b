use Rattle.std.proofs.Common.{◌≡◌, ◌≤◌, drop, false}
use Rattle.std.specs.Str.{IsCharBoundary}
use Rattle.std.specs.Str.Iter.{char_indices_offset, char_indices_rest}
use Rattle.upon_fmt.specs.Formatter.{text_of, is_marked}
use Rattle.upon_quote.proofs.Runs.{Keeps}
use Rattle.upon_quote.proofs.escapes.write_quoted.Given as goal

abbrev pub invariant-loop-at : goal.invariant-loop-at
invariant-loop-at g l = record {
  within : l.start ≤ char_indices_offset l.at-iterator;
  boundary : IsCharBoundary l.text l.start;
  place : IsCharBoundary l.text (char_indices_offset l.at-iterator);
  left : char_indices_rest l.at-iterator ≡ drop (char_indices_offset l.at-iterator) l.text;
  keeps : is_marked l.f ≡ false → (is_marked l.initial.f ≡ false) × Keeps g.L.Language.escape_of (text_of l.initial.f) (text_of l.f) l.text l.start (char_indices_offset l.at-iterator);
}

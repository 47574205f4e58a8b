use Rattle.std.proofs.Common.{length, ◌-◌, ◌+◌}
use Rattle.std.specs.Str.{IsCharBoundary}
use Rattle.upon_language_spec.specs.Inside.{IsQuoted}
use Rattle.upon_language_spec.specs.LiteralFaults.{escape_fault}
use Rattle.upon_lexer.proofs.StringPieces.{LeftAt, HaveFault}
use Rattle.upon_lexer.proofs.literal.strange_escape.Given as goal

abbrev pub invariant-loop-c : goal.invariant-loop-c
invariant-loop-c l = record {
  between : IsCharBoundary l.source l.at;
  left : (string : IsQuoted l.source l.fn.span.m l.fn.span.n) → LeftAt l.source (HaveFault (escape_fault (l.fn.span.m + 1) string.pieces)) l.at;
}

abbrev pub decreases-loop-c : goal.decreases-loop-c
decreases-loop-c l = length l.source - l.at

use Rattle.std.proofs.Common.{length, ◌-◌, string_bytes}
use Rattle.std.specs.Str.{IsCharBoundary}
use Rattle.upon_language_spec.specs.Inside.{IsQuoted}
use Rattle.upon_language_spec.specs.Literal.{text_of_pieces}
use Rattle.upon_lexer.proofs.StringPieces.{LeftAt, HaveText}
use Rattle.upon_lexer.proofs.literal.text.Given as goal

abbrev pub invariant-loop-c : goal.invariant-loop-c
invariant-loop-c l = record {
  between : IsCharBoundary l.source l.at;
  left : (string : IsQuoted l.source l.fn.span.m l.fn.span.n) → LeftAt l.source (HaveText (text_of_pieces string.pieces) (string_bytes l.text)) l.at;
}

abbrev pub decreases-loop-c : goal.decreases-loop-c
decreases-loop-c l = length l.source - l.at

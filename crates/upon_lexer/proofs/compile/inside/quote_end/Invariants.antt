use Rattle.std.proofs.Common.{length, ◌-◌}
use Rattle.std.specs.Str.{IsCharBoundary}
use Rattle.upon_language_spec.proofs.Offsets.Strings.{PiecesRead}
use Rattle.upon_lexer.proofs.compile.inside.quote_end.Given as goal

abbrev pub invariant-loop-c : goal.invariant-loop-c
invariant-loop-c l = record {
  between : IsCharBoundary l.source l.end;
  read : PiecesRead l.source l.at l.end;
}

abbrev pub decreases-loop-c : goal.decreases-loop-c
decreases-loop-c l = length l.source - l.end

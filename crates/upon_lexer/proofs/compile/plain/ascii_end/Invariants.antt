use Rattle.std.proofs.Common.{length, ◌-◌}
use Rattle.std.specs.Str.{IsCharBoundary}
use Rattle.upon_lexer.specs.Class.{class_test}
use Rattle.upon_language_spec.proofs.Offsets.Runs.{Passes}
use Rattle.upon_lexer.proofs.compile.plain.ascii_end.Given as goal

abbrev pub invariant-loop-end : goal.invariant-loop-end
invariant-loop-end l = record {
  between : IsCharBoundary l.source l.end;
  passes : Passes (class_test l.class) l.source l.at l.end;
}

abbrev pub decreases-loop-end : goal.decreases-loop-end
decreases-loop-end l = length l.source - l.end

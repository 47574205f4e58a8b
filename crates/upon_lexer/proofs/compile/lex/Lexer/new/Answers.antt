use Rattle.std.proofs.Common.{arith}
use Rattle.std.proofs.lemmas.Str.{IsCharBoundary-start}
use Rattle.upon_lexer.proofs.compile.lex.Lexer.new.Goals as goal

pub invariant_of-result : goal.invariant_of-result
invariant_of-result c = record {
  boundary = IsCharBoundary-start c.args.source.now c.utf8.source;
  tag_span = λ tag is. absurd (cc);
  bracket_spans = λ b h. let inside = rw c.new.ensures.items at h in absurd (omega (arith, inside.1));
}

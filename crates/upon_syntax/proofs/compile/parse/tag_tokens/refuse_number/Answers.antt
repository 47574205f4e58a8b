use Rattle.upon_lexer.specs.Literals.{before_of}
use Rattle.upon_lexer.specs.LiteralReasons.{report_of}
use Rattle.upon_types.specs.Span.{slice}
use Rattle.upon_syntax.proofs.LiteralSpans.{number_fine, number_lies}
use Rattle.upon_syntax.proofs.compile.parse.tag_tokens.refuse_number.Goals as goal

pub returns-in-Ok-clause-number : goal.returns-in-Ok-clause-number
returns-in-Ok-clause-number c = record {
  number = λ e. number_fine (slice c.args.source.now c.args.span) (before_of c.args.before) c.args.span.m c.args.span.n _ c.in-Ok.ensures.ok;
  index = λ e. absurd (cc);
  string = λ e. absurd (cc);
}

pub returns-in-Err-clause-span : goal.returns-in-Err-clause-span
returns-in-Err-clause-span c = number_lies c.args.source.now (before_of c.args.before) c.args.span (report_of c.in-Err.refusal) c.requires.span c.requires.spelled c.requires.sign c.in-Err.ensures.err

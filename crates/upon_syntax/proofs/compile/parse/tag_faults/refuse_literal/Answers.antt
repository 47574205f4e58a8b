use Rattle.upon_lexer.specs.LiteralReasons.{literal_reason}
use Rattle.upon_syntax.proofs.compile.parse.tag_faults.refuse_literal.Goals as goal

pub returns-then-takes_literal-clause-fits : goal.returns-then-takes_literal-clause-fits
returns-then-takes_literal-clause-fits c = λ _. c.syntax_error.ensures.fault (literal_reason c.args.refusal.fault) c.cause.ensures

use Rattle.upon_lexer.specs.Lexers.{lexer_text, lexer_delimiters, lexer_state}
use Rattle.upon_lexer.specs.Reasons.{reason_of}
use Rattle.upon_language_spec.proofs.Offsets.LexFaults.{wrong_inside}
use Rattle.upon_lexer.proofs.compile.lex.Lexer.inside.Goals as goal

pub returns-in-Err-clause-wrong : goal.returns-in-Err-clause-wrong
returns-in-Err-clause-wrong c =
    wrong_inside (lexer_delimiters c.args.self.now) (lexer_text c.args.self.now) (lexer_state c.args.self.now) c.requires.mode.0 c.args.tag.in_path c.in-Err.wrong.span (reason_of c.in-Err.wrong.fault) c.requires.mode.1 c.requires.bare c.in-Err.ensures.none

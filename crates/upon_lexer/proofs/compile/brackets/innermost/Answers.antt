use Rattle.std.proofs.Common.{◌∙◌, ap, option_map}
use Rattle.upon_lexer.specs.Brackets.{bracket_lexeme}
use Rattle.upon_lexer.proofs.OpenBrackets.{innermost_last}
use Rattle.upon_lexer.proofs.compile.brackets.innermost.Goals as goal

pub returns-clause-value : goal.returns-clause-value
returns-clause-value c = ap (option_map bracket_lexeme) (c.copied.ensures ∙ c.last.ensures.value) ∙ innermost_last c.args.brackets.now

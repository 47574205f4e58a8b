use Rattle.upon_lexer.specs.Literals.{fault_of_digits}
use Rattle.upon_lexer.proofs.Digits.{index_too_large}
use Rattle.upon_lexer.proofs.literal.index.Goals as goal

pub returns-in-Err : goal.returns-in-Err
returns-in-Err c = index_too_large c.args.text.now c.requires.0 (fault_of_digits c.in-Err.field-0) c.requires.1 c.in-Err.ensures.err

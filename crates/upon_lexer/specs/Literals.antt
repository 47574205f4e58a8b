-- What is wrong with a literal, as the code says it.
use Rattle.std.specs.Prelude.{Option, Some, None, false}
use Rattle.upon_language_spec.specs.Cut.{Lexeme}
use Rattle.upon_lexer.specs.declared.literal.Lexed.{Lexed}
use Rattle.upon_language_spec.specs.LiteralFaults.{NumberFault, bad_digit, too_large}
use Rattle.upon_lexer.specs.declared.literal.DigitFault.{DigitFault}
use Rattle.upon_lexer.specs.declared.literal.DigitFault.TheVariants.{BadDigit, TooLarge}

-- what is wrong with digits
abbrev pub fault_of_digits : DigitFault → NumberFault
fault_of_digits (BadDigit offset) = bad_digit offset
fault_of_digits TooLarge = too_large

-- a token that is no delimiter, as the code holds it
abbrev pub lexeme_of : Lexed → Lexeme
lexeme_of x = record { token = x.token; hyphen = false; span = x.span }

-- the token before, if there is one
abbrev pub before_of : Option Lexed → Option Lexeme
before_of None = None
before_of (Some x) = Some (lexeme_of x)

-- Which characters a class has.
use Rattle.std.specs.Prelude.{ℕ, Bool}
use Rattle.unicode_ident.specs.Ident.{is_xid_continue}
use Rattle.std.specs.Char.{is_ascii_digit}
use Rattle.upon_language_spec.specs.Words.{is_tag_space}
use Rattle.upon_language_spec.specs.Inside.{continues_number}
use Rattle.upon_lexer.specs.declared.compile.chars.CharClass.{CharClass}
use Rattle.upon_lexer.specs.declared.compile.chars.CharClass.TheVariants.{Space, Name, Number, Digit}

-- whether a character is of the class
abbrev pub class_test : CharClass → ℕ → Bool
class_test Space = is_tag_space
class_test Name = is_xid_continue
class_test Number = continues_number
class_test Digit = is_ascii_digit

-- The words that report each fault of the code.
use Rattle.std.specs.Prelude.{ℕ, List, ◌++◌, codes}
use Rattle.upon_types.specs.Token.{token_word}
use Rattle.upon_language_spec.specs.Delimiters.{begin_token, end_token}
use Rattle.upon_lexer.specs.Brackets.{open_token, close_token}
use Rattle.upon_lexer.specs.Roles.{sort_of}
use Rattle.upon_lexer.specs.declared.compile.fault.SyntaxFault.{SyntaxFault}
use Rattle.upon_lexer.specs.declared.compile.fault.SyntaxFault.TheVariants.{UnexpectedEnd, UnclosedTag, UnclosedBracket, UnexpectedClose, UnexpectedCharacter, UndelimitedString}

-- the reason of the fault: what it is, and the words of the token that it is about
abbrev pub reason_of : SyntaxFault → List ℕ
reason_of (UnexpectedEnd sort) = codes "unexpected " ++ token_word (end_token (sort_of sort))
reason_of (UnclosedTag sort) = codes "unclosed " ++ token_word (begin_token (sort_of sort))
reason_of (UnclosedBracket shape) = codes "unclosed " ++ token_word (open_token shape)
reason_of (UnexpectedClose shape) = codes "unexpected " ++ token_word (close_token shape)
reason_of UnexpectedCharacter = codes "unexpected character"
reason_of UndelimitedString = codes "undelimited string"

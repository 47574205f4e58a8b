-- Why there is a fault, as data, and the words that tell of it.
use Rattle.std.specs.Prelude.{ℕ, ℤ, List, [], ◌++◌, Option, Some, None, codes}
use Rattle.std.specs.Fmt.{decimal, signed_decimal}
use Rattle.upon_types.specs.Token.{token_word}
use Rattle.upon_types.specs.ValueKind.{kind_name}
use Rattle.upon_types.specs.BlockKinds.{block_kind, closing_words}
use Rattle.upon_types.specs.BlockKinds.{block_word}
use Rattle.upon_types.specs.declared.error.cause.Argument.{Argument}
use Rattle.upon_types.specs.declared.error.cause.Cause.{Cause}
use Rattle.upon_types.specs.declared.error.cause.Cause.TheVariants.{Unexpected, Unclosed, UnexpectedCharacter, UndelimitedString, Expected, ExpectedAtEnd, ExpectedKeyword, UnexpectedKeyword, UnexpectedBlock, UnclosedBlock, InvalidDigit, NumberOutOfRange, InvalidFloat, IndexOutOfRange, UnknownEscape, NotInScope, NotInMap, OutOfBounds, NoIndexAccess, NoKeyAccess, IndexIntoString, IntegerIndex, IndexInto, NotIterable, ListItemIntoTwo, MapItemIntoOne, UnknownCallable, UnknownFunction, FormatterFound, FormatterExpects, FunctionExpects, WrongType, OutOfRange, UnknownTemplate, TooDeep, Unformattable, LimitReached}
use Rattle.upon_types.specs.declared.error.cause.Counted.{Counted}
use Rattle.upon_types.specs.declared.error.cause.Counted.TheVariants.{Steps, Bytes, BytesOfValues}
use Rattle.upon_types.specs.declared.error.cause.TagKeyword.{TagKeyword}
use Rattle.upon_types.specs.declared.error.cause.TagKeyword.TheVariants.{In, As}
use Rattle.upon_types.specs.declared.error.cause.Wanted.{Wanted}
use Rattle.upon_types.specs.declared.error.cause.Wanted.TheVariants.{Expression, NameOrIndex, Token}

-- what has to be somewhere
abbrev pub wanted_name : Wanted → List ℕ
wanted_name Expression = codes "expression"
wanted_name NameOrIndex = codes "identifier or index"
wanted_name (Token token) = token_word token

-- the same at the end of the text
abbrev pub name_at_end : Wanted → List ℕ
name_at_end Expression = codes "token"
name_at_end NameOrIndex = codes "token"
name_at_end (Token token) = token_word token

-- a keyword inside a block's first tag
abbrev pub tag_keyword_word : TagKeyword → List ℕ
tag_keyword_word In = codes "in"
tag_keyword_word As = codes "as"

-- what a limit counts
abbrev pub counted_words : Counted → List ℕ
counted_words Steps = codes "steps"
counted_words Bytes = codes "bytes"
counted_words BytesOfValues = codes "bytes of values"

-- something is found where something else has to be
abbrev pub expected_but : List ℕ → List ℕ → List ℕ
expected_but wanted found = codes "expected " ++ (wanted ++ (codes ", found " ++ found))

-- a keyword is, where another one has to be
abbrev pub expected_word_but : List ℕ → List ℕ → List ℕ
expected_word_but wanted found =
    codes "expected keyword `" ++ (wanted ++ (codes "`, found keyword `" ++ (found ++ codes "`")))

-- an argument of a function does not fit
abbrev pub argument_text : Argument → List ℕ → List ℕ
argument_text argument misfit =
    codes "function `" ++ (argument.function ++ (codes "` expects " ++ (argument.wanted ++ misfit)))

-- the digits of a number, if it is one
abbrev pub digits_of : Option ℤ → List ℕ
digits_of None = []
digits_of (Some n) = signed_decimal n

-- the words that tell of each cause
abbrev pub cause_text : Cause → List ℕ
cause_text (Unexpected token) = codes "unexpected " ++ token_word token
cause_text (Unclosed token) = codes "unclosed " ++ token_word token
cause_text UnexpectedCharacter = codes "unexpected character"
cause_text UndelimitedString = codes "undelimited string"
cause_text (Expected wanted token) = expected_but (wanted_name wanted) (token_word token)
cause_text (ExpectedAtEnd wanted) = expected_but (name_at_end wanted) (codes "EOF")
cause_text (ExpectedKeyword wanted word) = expected_word_but (tag_keyword_word wanted) word
cause_text (UnexpectedKeyword word) = codes "unexpected keyword `" ++ (word ++ codes "`")
cause_text (UnexpectedBlock closing) = codes "unexpected `" ++ (closing_words closing ++ codes "` block")
cause_text (UnclosedBlock kind) = codes "unclosed `" ++ (block_word (block_kind kind) ++ codes "` block")
cause_text (InvalidDigit base) = codes "invalid digit for base " ++ (decimal base ++ codes " literal")
cause_text (NumberOutOfRange base) =
    codes "base " ++ (decimal base ++ codes " literal out of range for 64-bit integer")
cause_text InvalidFloat = codes "invalid float literal"
cause_text IndexOutOfRange = codes "base 10 literal out of range for unsigned 64-bit integer"
cause_text UnknownEscape = codes "unknown escape character"
cause_text NotInScope = codes "not found in this scope"
cause_text NotInMap = codes "not found in map"
cause_text (OutOfBounds n) = codes "index out of bounds, the length is " ++ decimal n
cause_text (NoIndexAccess kind) = kind_name kind ++ codes " does not support integer-based access"
cause_text (NoKeyAccess kind) = kind_name kind ++ codes " does not support key-based access"
cause_text IndexIntoString = codes "cannot index into string"
cause_text IntegerIndex = codes "cannot index into map with integer"
cause_text (IndexInto kind) = codes "cannot index into " ++ kind_name kind
cause_text (NotIterable kind) = codes "expected iterable, but expression evaluated to " ++ kind_name kind
cause_text ListItemIntoTwo = codes "cannot unpack list item into two variables"
cause_text MapItemIntoOne = codes "cannot unpack map item into one variable"
cause_text UnknownCallable = codes "unknown formatter or function"
cause_text UnknownFunction = codes "unknown function"
cause_text FormatterFound = codes "expected function, found formatter"
cause_text (FormatterExpects n) = codes "formatter expects 1 argument, " ++ (decimal n ++ codes " provided")
cause_text (FunctionExpects n m) =
    codes "function expects " ++ (decimal n ++ (codes " arguments, " ++ (decimal m ++ codes " provided")))
cause_text (WrongType argument kind) = argument_text argument (codes " argument, found " ++ kind_name kind)
cause_text (OutOfRange argument number) =
    argument_text argument (codes " argument, but `" ++ (digits_of number ++ codes "` is out of range"))
cause_text UnknownTemplate = codes "unknown template"
cause_text (TooDeep limit) = codes "reached maximum include depth (" ++ (decimal limit ++ codes ")")
cause_text (Unformattable kind) = codes "expression evaluated to unformattable type " ++ kind_name kind
cause_text (LimitReached n counted) =
    codes "reached the limit of " ++ (decimal n ++ (codes " " ++ counted_words counted))

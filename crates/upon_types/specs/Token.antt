-- What a message calls each kind of token.
use Rattle.std.specs.Prelude.{ℕ, List, codes}
use Rattle.upon_types.specs.declared.types.token.Token.{Token}
use Rattle.upon_types.specs.declared.types.token.Token.TheVariants.{Raw, BeginExpr, EndExpr, BeginBlock, EndBlock, BeginComment, EndComment, OpenBracket, CloseBracket, OpenBrace, CloseBrace, OpenParen, CloseParen, Dot, QuestionDot, Pipe, Comma, Colon, Plus, Minus, Whitespace, Keyword, Ident, Index, Number, String}

-- the words of a kind of token
abbrev pub token_word : Token → List ℕ
token_word Raw = codes "raw template"
token_word BeginExpr = codes "begin expression"
token_word EndExpr = codes "end expression"
token_word BeginBlock = codes "begin block"
token_word EndBlock = codes "end block"
token_word BeginComment = codes "begin comment"
token_word EndComment = codes "end comment"
token_word OpenBracket = codes "open bracket"
token_word CloseBracket = codes "close bracket"
token_word OpenBrace = codes "open brace"
token_word CloseBrace = codes "close brace"
token_word OpenParen = codes "open parenthesis"
token_word CloseParen = codes "close parenthesis"
token_word Dot = codes "member access operator"
token_word QuestionDot = codes "optional member access operator"
token_word Pipe = codes "pipe"
token_word Comma = codes "comma"
token_word Colon = codes "colon"
token_word Plus = codes "plus"
token_word Minus = codes "minus"
token_word Whitespace = codes "whitespace"
token_word Keyword = codes "keyword"
token_word Ident = codes "identifier"
token_word Index = codes "index"
token_word Number = codes "number"
token_word String = codes "string"

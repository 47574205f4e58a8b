-- The tokens inside a tag: what begins each, and how far it goes.
use Rattle.std.specs.Prelude.{◌≡◌, ℕ, ◌+◌, ◌==◌, ◌||◌, not, List, [], ◌∷◌, ◌++◌, length, Bool, true, false, Option, Some, None, codes, encode_utf8, if◌then◌else◌}
use Rattle.std.specs.Char.{is_ascii_digit, is_ascii_alphanumeric}
use Rattle.unicode_ident.specs.Ident.{is_xid_continue}
use Rattle.upon_types.specs.declared.types.token.Token.{Token}
use Rattle.upon_types.specs.declared.types.token.Token.TheVariants.{Raw, BeginExpr, EndExpr, BeginBlock, EndBlock, BeginComment, EndComment, OpenBracket, CloseBracket, OpenBrace, CloseBrace, OpenParen, CloseParen, Dot, QuestionDot, Pipe, Comma, Colon, Plus, Minus, Whitespace, Keyword, Ident, Index, Number, String}
use Rattle.upon_types.specs.Span.{slice}
use Rattle.upon_language_spec.specs.Search.{DelimiterText, Occurs, NoneAt}
use Rattle.upon_language_spec.specs.Words.{is_tag_space, begins_name, IsRun, is_keyword}
use Rattle.upon_types.specs.Bytes.{line_feed, carriage_return, quote, open_paren, close_paren, plus, comma, hyphen, dot, colon, question_mark, open_bracket, backslash, close_bracket, underscore, open_brace, bar, close_brace}

-- The kind of the token that a character begins; in a path a digit begins an index, else a number.
-- `Ident` denotes keywords too.
abbrev pub token_kind : Bool → ℕ → Option Token
token_kind in_path c =
    if is_tag_space c then Some Whitespace
    else (if c == dot then Some Dot
    else (if c == question_mark then Some QuestionDot
    else (if c == bar then Some Pipe
    else (if c == comma then Some Comma
    else (if c == colon then Some Colon
    else (if c == plus then Some Plus
    else (if c == hyphen then Some Minus
    else (if c == open_bracket then Some OpenBracket
    else (if c == close_bracket then Some CloseBracket
    else (if c == open_brace then Some OpenBrace
    else (if c == close_brace then Some CloseBrace
    else (if c == open_paren then Some OpenParen
    else (if c == close_paren then Some CloseParen
    else (if c == quote then Some String
    else (if is_ascii_digit c then Some (if in_path then Index else Number)
    else (if begins_name c then Some Ident else None))))))))))))))))

-- the characters that a number goes on with
abbrev pub continues_number : ℕ → Bool
continues_number c = is_ascii_alphanumeric c || (c == underscore) || (c == hyphen) || (c == plus) || (c == dot)

-- a part of a string: a character as it is, or a backslash and the character that it takes with it
pub data Piece : Type 0 where
  plain : ℕ → Piece
  escape : ℕ → Piece

-- whether a character ends a line
abbrev pub ends_line : ℕ → Bool
ends_line c = (c == line_feed) || (c == carriage_return)

-- whether a piece may be in a string
abbrev pub is_piece : Piece → Bool
is_piece (plain c) = not (ends_line c || (c == quote) || (c == backslash))
is_piece (escape c) = not (ends_line c)

-- the text of pieces
abbrev pub pieces_text : List Piece → List ℕ
pieces_text [] = []
pieces_text (plain c ∷ pieces) = encode_utf8 c ++ pieces_text pieces
pieces_text (escape c ∷ pieces) = (backslash ∷ encode_utf8 c) ++ pieces_text pieces

-- each piece may be in a string
abbrev pub EachIsPiece : List Piece → Type 0
EachIsPiece [] = Unit {0}
EachIsPiece (p ∷ ps) = (is_piece p ≡ true) × EachIsPiece ps

-- the text of a string: a quote, the pieces, a quote
abbrev pub string_text : List Piece → List ℕ
string_text pieces = quote ∷ (pieces_text pieces ++ quote ∷ [])

-- a string: a quote, pieces, a quote
pub record IsQuoted (s : List ℕ) (m n : ℕ) : Type 0 where
  pub pieces : List Piece
  pub each : EachIsPiece pieces
  pub occurs : Occurs s m (string_text pieces)
  pub to : n ≡ m + length (string_text pieces)

-- how far a token of a kind goes
abbrev pub Extent : List ℕ → Token → ℕ → ℕ → Type 0
Extent s Whitespace m n = IsRun is_tag_space s m n
Extent s Ident m n = IsRun is_xid_continue s m n × (is_keyword (slice s (record { m = m; n = n })) ≡ false)
Extent s Keyword m n = IsRun is_xid_continue s m n × (is_keyword (slice s (record { m = m; n = n })) ≡ true)
Extent s Number m n = IsRun continues_number s m n
Extent s Index m n = IsRun is_ascii_digit s m n
Extent s String m n = IsQuoted s m n
Extent s QuestionDot m n = Occurs s m (codes "?.") × (n ≡ m + 2)
Extent s OpenBracket m n = n ≡ m + 1
Extent s CloseBracket m n = n ≡ m + 1
Extent s OpenBrace m n = n ≡ m + 1
Extent s CloseBrace m n = n ≡ m + 1
Extent s OpenParen m n = n ≡ m + 1
Extent s CloseParen m n = n ≡ m + 1
Extent s Dot m n = n ≡ m + 1
Extent s Pipe m n = n ≡ m + 1
Extent s Comma m n = n ≡ m + 1
Extent s Colon m n = n ≡ m + 1
Extent s Plus m n = n ≡ m + 1
Extent s Minus m n = n ≡ m + 1
Extent s Raw m n = ⊥
Extent s BeginExpr m n = ⊥
Extent s EndExpr m n = ⊥
Extent s BeginBlock m n = ⊥
Extent s EndBlock m n = ⊥
Extent s BeginComment m n = ⊥
Extent s EndComment m n = ⊥

-- keywords begin as names do
abbrev pub start_kind : Token → Token
start_kind Keyword = Ident
start_kind t = t

-- a token inside a tag, at whose start no delimiter is
pub record IsInside (delimiters : List DelimiterText) (s : List ℕ) (in_path : Bool) (t : Token) (m n : ℕ) : Type 0 where
  pub bare : NoneAt delimiters s m
  pub first : ℕ
  pub occurs : Occurs s m (encode_utf8 first)
  pub of_kind : token_kind in_path first ≡ Some (start_kind t)
  pub extent : Extent s t m n

-- whether a digit after this token begins an index: a name, `.` and `?.` begin a path, and `(`, `|`, `,`, `:` and
-- keywords end it
abbrev pub in_path_after : Bool → Token → Bool
in_path_after in_path Ident = true
in_path_after in_path Dot = true
in_path_after in_path QuestionDot = true
in_path_after in_path OpenParen = false
in_path_after in_path Pipe = false
in_path_after in_path Comma = false
in_path_after in_path Colon = false
in_path_after in_path Keyword = false
in_path_after in_path t = in_path

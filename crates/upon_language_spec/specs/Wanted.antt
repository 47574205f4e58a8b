-- The word that is reported for what a tag wants at an offset, and what is reported of a token that may not be there.
use Rattle.std.specs.Prelude.{ℕ, ◌<◌, List, [], ◌∷◌, ◌++◌, codes}
use Rattle.upon_types.specs.declared.types.token.Token.{Token}
use Rattle.upon_types.specs.declared.types.token.Token.TheVariants.{EndExpr, EndBlock, OpenBracket, CloseBracket, CloseBrace, CloseParen, Colon, Keyword, Ident, Index, Number, String}
use Rattle.upon_types.specs.Token.{token_word}
use Rattle.upon_language_spec.specs.Tags.{Symbol, BeginsTag}

-- what a tag can want next
pub data Wanted : Type 0 where
  an_expression : Wanted
  a_string : Wanted
  a_name_or_index : Wanted
  an_end_expression : Wanted
  an_end_block : Wanted
  a_close_paren : Wanted
  a_close_bracket : Wanted
  a_close_brace : Wanted
  an_in : Wanted
  an_as : Wanted
  a_block_word : Wanted
  a_name : Wanted
  a_number : Wanted
  a_colon : Wanted

-- of the words that may be at an offset, the one with the least rank is reported
abbrev pub rank : Wanted → ℕ
rank an_expression = 0
rank a_string = 1
rank a_name_or_index = 2
rank an_end_expression = 3
rank an_end_block = 4
rank a_close_paren = 5
rank a_close_bracket = 6
rank a_close_brace = 7
rank an_in = 8
rank an_as = 9
rank a_block_word = 10
rank a_name = 11
rank a_number = 12
rank a_colon = 13

-- the symbol of a token that is no keyword
abbrev pub plain_symbol : Token → Symbol
plain_symbol t = record { token = t; word = [] }

-- the symbol of a keyword
abbrev pub keyword_symbol : List ℕ → Symbol
keyword_symbol word = record { token = Keyword; word = word }

-- a token that shows that the word may be: an expression may begin with `[`, an index is only after `.` or `?.`, and
-- `endif` only where a block begins
abbrev pub shows : Wanted → Symbol
shows an_expression = plain_symbol OpenBracket
shows a_string = plain_symbol String
shows a_name_or_index = plain_symbol Index
shows an_end_expression = plain_symbol EndExpr
shows an_end_block = plain_symbol EndBlock
shows a_close_paren = plain_symbol CloseParen
shows a_close_bracket = plain_symbol CloseBracket
shows a_close_brace = plain_symbol CloseBrace
shows an_in = keyword_symbol (codes "in")
shows an_as = keyword_symbol (codes "as")
shows a_block_word = keyword_symbol (codes "endif")
shows a_name = plain_symbol Ident
shows a_number = plain_symbol Number
shows a_colon = plain_symbol Colon

-- this word may follow the symbols
abbrev pub MayFollow : List Symbol → Wanted → Type 0
MayFollow row w = BeginsTag (row ++ shows w ∷ [])

-- after the symbols this word may be, and none of a lesser rank
pub record IsWanted (row : List Symbol) (w : Wanted) : Type 0 where
  pub may_follow : MayFollow row w
  pub least : (v : Wanted) → rank v < rank w → MayFollow row v → ⊥

-- the words that report it
abbrev pub wanted_word : Wanted → List ℕ
wanted_word an_expression = codes "expression"
wanted_word a_string = codes "string"
wanted_word a_name_or_index = codes "identifier or index"
wanted_word an_end_expression = codes "end expression"
wanted_word an_end_block = codes "end block"
wanted_word a_close_paren = codes "close parenthesis"
wanted_word a_close_bracket = codes "close bracket"
wanted_word a_close_brace = codes "close brace"
wanted_word an_in = codes "keyword"
wanted_word an_as = codes "keyword"
wanted_word a_block_word = codes "keyword"
wanted_word a_name = codes "identifier"
wanted_word a_number = codes "number"
wanted_word a_colon = codes "colon"

-- at the end of the text
abbrev pub wanted_at_end : Wanted → List ℕ
wanted_at_end an_expression = codes "token"
wanted_at_end a_name_or_index = codes "token"
wanted_at_end w = wanted_word w

-- `expected .., found ..`
abbrev pub expected_found : List ℕ → List ℕ → List ℕ
expected_found wanted found = codes "expected " ++ (wanted ++ (codes ", found " ++ found))

-- a word between backquotes
abbrev pub in_quotes : List ℕ → List ℕ
in_quotes word = codes "`" ++ (word ++ codes "`")

-- the reason of a keyword that may not begin there
abbrev pub unexpected_keyword : List ℕ → List ℕ
unexpected_keyword word = codes "unexpected keyword " ++ in_quotes word

-- the reason of a keyword where another has to come
abbrev pub expected_keyword : List ℕ → List ℕ → List ℕ
expected_keyword wanted found = expected_found (codes "keyword " ++ in_quotes wanted)
    (codes "keyword " ++ in_quotes found)

-- what is reported of a keyword that may not be there
abbrev pub reason_for_keyword : Wanted → List ℕ → List ℕ
reason_for_keyword an_expression word = unexpected_keyword word
reason_for_keyword an_in word = expected_keyword (codes "in") word
reason_for_keyword an_as word = expected_keyword (codes "as") word
reason_for_keyword a_block_word word = unexpected_keyword word
reason_for_keyword w word = expected_found (wanted_word w) (codes "keyword")

-- the reason of a token that may not follow, by what is wanted
abbrev pub reason_for : Wanted → Token → List ℕ → List ℕ
reason_for w Keyword word = reason_for_keyword w word
reason_for w t word = expected_found (wanted_word w) (token_word t)

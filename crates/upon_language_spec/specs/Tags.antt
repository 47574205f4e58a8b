-- Tags as sequences of tokens: what begins a tag, whatever it may go on with.
use Rattle.std.specs.Prelude.{◌≡◌, ℕ, ◌≤◌, List, [], ◌++◌, length, map, Bool, codes}
use Rattle.upon_types.specs.declared.types.Span.{Span}
use Rattle.upon_types.specs.declared.types.token.Token.{Token}
use Rattle.upon_types.specs.declared.types.token.Token.TheVariants.{Keyword}
use Rattle.upon_types.specs.Span.{slice}
use Rattle.upon_types.specs.Path.{Ident}
use Rattle.upon_types.specs.Expression.{Expression}
use Rattle.upon_types.specs.BlockKinds.{Block, Opening, end_word}
use Rattle.upon_types.specs.Tree.{inline_expr, include}
use Rattle.std.specs.Prelude.{Option}
use Rattle.upon_language_spec.specs.Cut.{Lexeme}
use Rattle.upon_language_spec.specs.Grammar.{IsStatement, IsOpeningTag, IsElseIfTag, IsWordTag}

-- from the first of these tokens up to the rest is a whole tag
pub data IsTag (s : List ℕ) (ls rest : List Lexeme) : Type 0 where
  an_inline : (e : Expression) (span : Span) → IsStatement s (inline_expr e span) ls rest → IsTag s ls rest
  an_include : (name : Ident) (context : Option Expression) → IsStatement s (include name context) ls rest
      → IsTag s ls rest
  an_opening : (opening : Opening) (e : Expression) → IsOpeningTag s opening e ls rest → IsTag s ls rest
  an_else_if : (negated : Bool) (e : Expression) → IsElseIfTag s negated e ls rest → IsTag s ls rest
  an_else : IsWordTag s (codes "else") ls rest → IsTag s ls rest
  an_end : (kind : Block) → IsWordTag s (end_word kind) ls rest → IsTag s ls rest

-- a token without its span and its text; of a keyword the word stays
pub record Symbol : Type 0 where
  pub token : Token
  pub word : List ℕ

-- the word that stays of a token: that of a keyword
abbrev pub word_of : List ℕ → Token → Span → List ℕ
word_of s Keyword span = slice s span
word_of s t span = []

-- the symbol of a token
abbrev pub symbol_of : List ℕ → Lexeme → Symbol
symbol_of s l = record { token = l.token; word = word_of s l.token l.span }

-- the symbols of tokens
abbrev pub symbols_of : List ℕ → List Lexeme → List Symbol
symbols_of s ls = map (symbol_of s) ls

-- the symbols begin a tag, if some text has a tag that begins with them
pub record BeginsTag (row : List Symbol) : Type 0 where
  pub text : List ℕ
  pub lexemes : List Lexeme
  pub rest : List Lexeme
  pub tag : IsTag text lexemes rest
  pub more : List Symbol
  pub begins : symbols_of text lexemes ≡ row ++ more
  pub within : length rest ≤ length more

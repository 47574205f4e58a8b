-- The tokens that the grammar reads: those of a cut, without whitespace and comments.
use Rattle.std.specs.Prelude.{◌≡◌, ℕ, List, [], ◌∷◌, Bool, true, false, if◌then◌else◌}
use Rattle.upon_types.specs.declared.types.Span.{Span}
use Rattle.upon_types.specs.declared.types.token.Token.{Token}
use Rattle.upon_types.specs.declared.types.token.Token.TheVariants.{Raw, BeginComment, Whitespace, Keyword, Ident as Identifier, String}
use Rattle.upon_types.specs.Span.{slice}
use Rattle.upon_types.specs.Path.{Ident}
use Rattle.upon_language_spec.specs.Cut.{Lexeme}
use Rattle.upon_language_spec.specs.Literal.{IsText}

-- whether a token is whitespace
abbrev pub is_space : Token → Bool
is_space Whitespace = true
is_space t = false

-- whether it begins a comment
abbrev pub begins_comment : Token → Bool
begins_comment BeginComment = true
begins_comment t = false

-- whether it is raw
abbrev pub is_raw : Token → Bool
is_raw Raw = true
is_raw t = false

-- the tokens that are no whitespace
abbrev pub without_spaces : List Lexeme → List Lexeme
without_spaces [] = []
without_spaces (l ∷ ls) = if is_space l.token then without_spaces ls else (l ∷ without_spaces ls)

-- A comment is its begin, a raw part and its end, and leaves nothing. The begin of an empty comment stays, and no
-- statement begins with it.
abbrev mutual
  pub without_comments : List Lexeme → List Lexeme
  without_comments [] = []
  without_comments (l ∷ ls) = if begins_comment l.token then comment_from l ls else (l ∷ without_comments ls)

  pub comment_from : Lexeme → List Lexeme → List Lexeme
  comment_from begin [] = begin ∷ []
  comment_from begin (l ∷ ls) = if is_raw l.token then after_comment_end ls else (begin ∷ l ∷ without_comments ls)

  pub after_comment_end : List Lexeme → List Lexeme
  after_comment_end [] = []
  after_comment_end (l ∷ ls) = without_comments ls

-- the tokens that the grammar reads
abbrev pub significant : List Lexeme → List Lexeme
significant ls = without_comments (without_spaces ls)

-- the first token is of this kind and is there, and then the rest
pub record Goes (t : Token) (span : Span) (before rest : List Lexeme) : Type 0 where
  pub lexeme : Lexeme
  pub is : before ≡ lexeme ∷ rest
  pub of_token : lexeme.token ≡ t
  pub at : lexeme.span ≡ span

-- a token of this kind, wherever it is
abbrev pub GoesBy : Token → List Lexeme → List Lexeme → Type 0
GoesBy t before rest = (span : Span) × Goes t span before rest

-- the first token is this keyword, at this span, and then the rest
abbrev pub GoesWord : List ℕ → List ℕ → Span → List Lexeme → List Lexeme → Type 0
GoesWord s word span before rest = Goes Keyword span before rest × (slice s span ≡ word)

-- this keyword, wherever it is
abbrev pub GoesKeyword : List ℕ → List ℕ → List Lexeme → List Lexeme → Type 0
GoesKeyword s word before rest = (span : Span) × GoesWord s word span before rest

-- this name
abbrev pub GoesName : List ℕ → Ident → List Lexeme → List Lexeme → Type 0
GoesName s name before rest = Goes Identifier name.span before rest × (name.text ≡ slice s name.span)

-- this string
abbrev pub GoesText : List ℕ → Ident → List Lexeme → List Lexeme → Type 0
GoesText s string before rest = Goes String string.span before rest × IsText s string.span.m string.span.n string.text

-- from the first byte of one span to the end of another
abbrev pub from_to : Span → Span → Span
from_to a b = record { m = a.m; n = b.n }

-- Whether two tokens are one, as a test that computes.
use Rattle.std.proofs.Common.{◌≡◌, ℕ, ◌==◌, List, [], ◌∷◌, Bool, true, false, Option, Some, None, refl, sym, ap, ◌∙◌, arith, slice_index_or}
use Rattle.upon_types.specs.declared.types.token.Token.{Token}
use Rattle.upon_types.specs.declared.types.token.Token.TheVariants.{Raw, BeginExpr, EndExpr, BeginBlock, EndBlock, BeginComment, EndComment, OpenBracket, CloseBracket, OpenBrace, CloseBrace, OpenParen, CloseParen, Dot, QuestionDot, Pipe, Comma, Colon, Plus, Minus, Whitespace, Keyword, Ident, Index, Number, String}
use Rattle.upon_language_spec.specs.Delimiters.{Sort, expression, block, comment}

abbrev tokens : List Token
tokens = Raw ∷ BeginExpr ∷ EndExpr ∷ BeginBlock ∷ EndBlock ∷ BeginComment ∷ EndComment ∷ OpenBracket ∷ CloseBracket ∷ OpenBrace ∷ CloseBrace ∷ OpenParen ∷ CloseParen ∷ Dot ∷ QuestionDot ∷ Pipe ∷ Comma ∷ Colon ∷ Plus ∷ Minus ∷ Whitespace ∷ Keyword ∷ Ident ∷ Index ∷ Number ∷ String ∷ []

abbrev pub place_of : Token → ℕ
place_of Raw = 0
place_of BeginExpr = 1
place_of EndExpr = 2
place_of BeginBlock = 3
place_of EndBlock = 4
place_of BeginComment = 5
place_of EndComment = 6
place_of OpenBracket = 7
place_of CloseBracket = 8
place_of OpenBrace = 9
place_of CloseBrace = 10
place_of OpenParen = 11
place_of CloseParen = 12
place_of Dot = 13
place_of QuestionDot = 14
place_of Pipe = 15
place_of Comma = 16
place_of Colon = 17
place_of Plus = 18
place_of Minus = 19
place_of Whitespace = 20
place_of Keyword = 21
place_of Ident = 22
place_of Index = 23
place_of Number = 24
place_of String = 25

abbrev back : ℕ → Token
back n = slice_index_or tokens n Raw

back_again : (t : Token) → back (place_of t) ≡ t
back_again Raw = refl
back_again BeginExpr = refl
back_again EndExpr = refl
back_again BeginBlock = refl
back_again EndBlock = refl
back_again BeginComment = refl
back_again EndComment = refl
back_again OpenBracket = refl
back_again CloseBracket = refl
back_again OpenBrace = refl
back_again CloseBrace = refl
back_again OpenParen = refl
back_again CloseParen = refl
back_again Dot = refl
back_again QuestionDot = refl
back_again Pipe = refl
back_again Comma = refl
back_again Colon = refl
back_again Plus = refl
back_again Minus = refl
back_again Whitespace = refl
back_again Keyword = refl
back_again Ident = refl
back_again Index = refl
back_again Number = refl
back_again String = refl

abbrev pub same_token : Token → Token → Bool
same_token a b = place_of a == place_of b

pub one_token : (a b : Token) → same_token a b ≡ true → a ≡ b
one_token a b h = let e : place_of a ≡ place_of b = grind (arith, h) in sym (back_again a) ∙ ap back e ∙ back_again b

abbrev pub is_token : Token → Option Token → Bool
is_token t None = false
is_token t (Some u) = same_token u t

pub is_token_tested : (t : Token) (o : Option Token) → is_token t o ≡ true → o ≡ Some t
is_token_tested t None h = absurd cc
is_token_tested t (Some u) h = ap Some (one_token u t h)

abbrev pub is_sort : Sort → Option Sort → Bool
is_sort expression (Some expression) = true
is_sort block (Some block) = true
is_sort comment (Some comment) = true
is_sort _ _ = false

pub is_sort_tested : (sort : Sort) (o : Option Sort) → is_sort sort o ≡ true → o ≡ Some sort
is_sort_tested expression (Some expression) h = refl
is_sort_tested block (Some block) h = refl
is_sort_tested comment (Some comment) h = refl
is_sort_tested _ _ h = absurd cc

abbrev pub same_bool : Bool → Bool → Bool
same_bool true true = true
same_bool false false = true
same_bool _ _ = false

pub one_bool : (a b : Bool) → same_bool a b ≡ true → a ≡ b
one_bool true true h = refl
one_bool false false h = refl
one_bool _ _ h = absurd cc

-- Short names that let the tokens and the trees of the examples read well.
use Rattle.std.specs.Prelude.{ℕ, ◌+◌, ℤ, List, [], ◌∷◌, ◌++◌, true, false}
use Rattle.upon_types.specs.declared.types.token.Token.{Token}
use Rattle.upon_types.specs.declared.types.token.Token.TheVariants.{BeginExpr, EndExpr, Whitespace}
use Rattle.upon_types.specs.declared.types.ast.path.AccessOp.{AccessOp}
use Rattle.upon_types.specs.Val.{int_val, text_val}
use Rattle.upon_types.specs.Path.{Access, Member}
use Rattle.upon_types.specs.Expression.{Expression, base, Base, literal, Bases, no_bases, base_then}
use Rattle.upon_types.specs.Tree.{Statement, inline_expr, Statements, statement_then}
use Rattle.upon_language_spec.specs.Cut.{Lexeme}
use Rattle.upon_language_spec.specs.ShortTrees.{at, one, two}

-- a token, and a delimiter with the hyphen
abbrev pub lex : Token → ℕ → ℕ → Lexeme
lex t m n = record { token = t; hyphen = false; span = at m n }

abbrev pub trimming : Token → ℕ → ℕ → Lexeme
trimming t m n = record { token = t; hyphen = true; span = at m n }

-- the tokens of an expression that ends at n, in `{{ ` and ` }}`
abbrev pub braced : List Lexeme → ℕ → List Lexeme
braced lexemes n = lex BeginExpr 0 2 ∷ lex Whitespace 2 3 ∷ (lexemes ++ (lex Whitespace n (n + 1) ∷ lex EndExpr (n + 1) (n + 3) ∷ []))

-- a member, after its operator
abbrev pub step : AccessOp → Access → ℕ → ℕ → Member
step op selector m n = record { op = op; access = selector; span = at m n }

abbrev pub number : ℤ → ℕ → ℕ → Base
number z m n = literal (int_val z) (at m n)

abbrev pub quote : List ℕ → ℕ → ℕ → Base
quote text m n = literal (text_val text) (at m n)

-- one, and two
abbrev pub one_base : Base → Bases
one_base a = base_then a no_bases

abbrev pub two_bases : Base → Base → Bases
two_bases a b = base_then a (one_base b)

abbrev pub three : Statement → Statement → Statement → Statements
three t u v = statement_then t (two u v)

-- an expression from m to n, with its braces
abbrev pub shows : Base → ℕ → ℕ → Statement
shows b m n = inline_expr (base b) (at m n)

-- the tree of one expression alone, whose text with its braces ends at n
abbrev pub only : Base → ℕ → Statements
only b n = one (shows b 0 n)

abbrev pub only_expression : Expression → ℕ → Statements
only_expression e n = one (inline_expr e (at 0 n))

-- The written grammar before `for .. else`: statements, and which tree a text had.
use Rattle.std.specs.Prelude.{◌≡◌, ◌⊎◌, ℕ, List, [], length, Bool, false, codes}
use Rattle.upon_types.specs.declared.types.Span.{Span}
use Rattle.upon_types.specs.declared.types.token.Token.TheVariants.{Raw, BeginExpr, EndExpr, EndBlock}
use Rattle.upon_types.specs.Path.{Ident, LoopVars}
use Rattle.upon_types.specs.Expression.{Expression}
use Rattle.upon_before_spec.specs.Tree.{Statement, raw, inline_expr, include, if_else, for_loop, with, Statements, no_statements, statement_then, Else, no_else, otherwise}
use Rattle.upon_language_spec.specs.Search.{DelimiterText}
use Rattle.upon_language_spec.specs.Cut.{Lexeme, outside, Cut}
use Rattle.upon_language_spec.specs.Shown.{shown_lexemes}
use Rattle.upon_language_spec.specs.Tokens.{Goes, GoesBy, GoesKeyword, GoesName, GoesText, from_to, significant}
use Rattle.upon_language_spec.specs.Expressions.{IsExpression}
use Rattle.upon_language_spec.specs.Grammar.{BeginsBlock, IsWordTag, IsCondition, IsElseIfTag, AreLoopVars, AreGlobals}

-- tag("if" Cond)
abbrev pub IsIfTag : List ℕ → Bool → Expression → List Lexeme → List Lexeme → Type 0
IsIfTag s negated e before rest = (mid after : List Lexeme) × BeginsBlock s (codes "if") before mid
    × IsCondition s negated e mid after × GoesBy EndBlock after rest

-- tag("for" Ident ["," Ident] "in" Expr)
abbrev pub IsForTag : List ℕ → LoopVars → Expression → List Lexeme → List Lexeme → Type 0
IsForTag s names e before rest = (start mid after last : List Lexeme) × BeginsBlock s (codes "for") before start
    × AreLoopVars s names start mid × GoesKeyword s (codes "in") mid after × IsExpression s e after last
    × GoesBy EndBlock last rest

-- tag("with" Expr "as" Ident)
abbrev pub IsWithTag : List ℕ → Expression → Ident → List Lexeme → List Lexeme → Type 0
IsWithTag s e name before rest = (start mid after last : List Lexeme) × BeginsBlock s (codes "with") before start
    × IsExpression s e start mid × GoesKeyword s (codes "as") mid after × GoesName s name after last
    × GoesBy EndBlock last rest

abbrev mutual
  -- Stmt = Raw | Inline | If | For | With | Include
  pub IsStatement : List ℕ → Statement → List Lexeme → List Lexeme → Type 0
  IsStatement s (raw span) before rest = Goes Raw span before rest
  IsStatement s (inline_expr e span) before rest = (begin end : Span) × (mid after : List Lexeme)
      × Goes BeginExpr begin before mid × IsExpression s e mid after × Goes EndExpr end after rest ×
      (span ≡ from_to begin end)
  IsStatement s (include name context) before rest = (start mid after : List Lexeme) × BeginsBlock s
      (codes "include") before start × GoesText s name start mid × AreGlobals s context mid after
      × GoesBy EndBlock after rest
  IsStatement s (if_else negated e body other) before rest = (mid after : List Lexeme)
      × IsIfTag s negated e before mid × AreStatements s body mid after × IsElse s other after rest
  IsStatement s (for_loop names e body) before rest = (mid after : List Lexeme) × IsForTag s names e before mid
      × AreStatements s body mid after × IsWordTag s (codes "endfor") after rest
  IsStatement s (with e name body) before rest = (mid after : List Lexeme) × IsWithTag s e name before mid
      × AreStatements s body mid after × IsWordTag s (codes "endwith") after rest

  -- Stmt*
  pub AreStatements : List ℕ → Statements → List Lexeme → List Lexeme → Type 0
  AreStatements s no_statements before rest = before ≡ rest
  AreStatements s (statement_then t ts) before rest = (mid : List Lexeme) × IsStatement s t before mid
      × AreStatements s ts mid rest

  -- [Else] tag("endif"): an `else if` is an `if` inside the other branch, and one `endif` ends them all
  pub IsElse : List ℕ → Else → List Lexeme → List Lexeme → Type 0
  IsElse s no_else before rest = IsWordTag s (codes "endif") before rest
  IsElse s (otherwise body) before rest =
      ((mid after : List Lexeme) × IsWordTag s (codes "else") before mid × AreStatements s body mid after
      × IsWordTag s (codes "endif") after rest) ⊎ IsElseIf s body before rest

  -- an `else if`: one `if` is all that the other branch holds
  pub IsElseIf : List ℕ → Statements → List Lexeme → List Lexeme → Type 0
  IsElseIf s no_statements before rest = ⊥
  IsElseIf s (statement_then t no_statements) before rest = IsIfAfterElse s t before rest
  IsElseIf s (statement_then t (statement_then u ts)) before rest = ⊥

  -- the `if` of an `else if`, whose tag has both keywords
  pub IsIfAfterElse : List ℕ → Statement → List Lexeme → List Lexeme → Type 0
  IsIfAfterElse s (if_else negated e body other) before rest = (mid after : List Lexeme)
      × IsElseIfTag s negated e before mid × AreStatements s body mid after × IsElse s other after rest
  IsIfAfterElse s _ before rest = ⊥

-- the text has this tree: it is cut whole, and its tokens read as the tree's statements
pub record HasTree (delimiters : List DelimiterText) (s : List ℕ) (tree : Statements) : Type 0 where
  pub lexemes : List Lexeme
  pub cut : Cut delimiters s outside 0 lexemes outside (length s)
  pub reads : AreStatements s tree (significant (shown_lexemes s false lexemes)) []

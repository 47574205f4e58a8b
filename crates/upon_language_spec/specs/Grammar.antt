-- The written grammar of templates, and which tree a text has.
use Rattle.std.specs.Prelude.{◌≡◌, ◌⊎◌, ℕ, List, [], length, Bool, true, false, Option, Some, None, codes}
use Rattle.upon_types.specs.declared.types.Span.{Span}
use Rattle.upon_types.specs.declared.types.token.Token.TheVariants.{Raw, BeginExpr, EndExpr, BeginBlock, EndBlock, Comma}
use Rattle.upon_types.specs.Path.{Ident, LoopVars, item, key_value}
use Rattle.upon_types.specs.Expression.{Expression}
use Rattle.upon_types.specs.BlockKinds.{Block, if_block, Opening, if_tag, for_tag, with_tag, opened_kind, block_word, end_word, may_have_else, may_have_else_if}
use Rattle.upon_types.specs.Tree.{Statement, raw, inline_expr, include, block, Statements, no_statements, statement_then, Else, no_else, otherwise}
use Rattle.upon_language_spec.specs.Search.{DelimiterText}
use Rattle.upon_language_spec.specs.Cut.{Lexeme, outside, Cut}
use Rattle.upon_language_spec.specs.Shown.{shown_lexemes}
use Rattle.upon_language_spec.specs.Tokens.{Goes, GoesBy, GoesKeyword, GoesName, GoesText, from_to, significant}
use Rattle.upon_language_spec.specs.Expressions.{IsExpression}

-- a begin of block and a keyword
abbrev pub BeginsBlock : List ℕ → List ℕ → List Lexeme → List Lexeme → Type 0
BeginsBlock s word before rest = (mid : List Lexeme) × GoesBy BeginBlock before mid × GoesKeyword s word mid rest

-- a tag of a keyword alone
abbrev pub IsWordTag : List ℕ → List ℕ → List Lexeme → List Lexeme → Type 0
IsWordTag s word before rest = (mid : List Lexeme) × BeginsBlock s word before mid × GoesBy EndBlock mid rest

-- Cond = ["not"] Expr
abbrev pub IsCondition : List ℕ → Bool → Expression → List Lexeme → List Lexeme → Type 0
IsCondition s true e before rest = (mid : List Lexeme) × GoesKeyword s (codes "not") before mid
    × IsExpression s e mid rest
IsCondition s false e before rest = IsExpression s e before rest

-- tag("else" "if" Cond)
abbrev pub IsElseIfTag : List ℕ → Bool → Expression → List Lexeme → List Lexeme → Type 0
IsElseIfTag s negated e before rest = (start mid after : List Lexeme) × BeginsBlock s (codes "else") before start
    × GoesKeyword s (codes "if") start mid × IsCondition s negated e mid after × GoesBy EndBlock after rest

-- Ident ["," Ident]: two names are from the first to the second
abbrev pub AreLoopVars : List ℕ → LoopVars → List Lexeme → List Lexeme → Type 0
AreLoopVars s (item name) before rest = GoesName s name before rest
AreLoopVars s (key_value key value span) before rest = (mid after : List Lexeme) × GoesName s key before mid
    × GoesBy Comma mid after × GoesName s value after rest × (span ≡ from_to key.span value.span)

-- what follows the keyword of a block: Cond, or Ident ["," Ident] "in" Expr, or Expr "as" Ident
abbrev pub IsHead : List ℕ → Opening → Expression → List Lexeme → List Lexeme → Type 0
IsHead s (if_tag negated) e before rest = IsCondition s negated e before rest
IsHead s (for_tag names) e before rest = (mid after : List Lexeme) × AreLoopVars s names before mid
    × GoesKeyword s (codes "in") mid after × IsExpression s e after rest
IsHead s (with_tag name) e before rest = (mid after : List Lexeme) × IsExpression s e before mid
    × GoesKeyword s (codes "as") mid after × GoesName s name after rest

-- the first tag of a block
abbrev pub IsOpeningTag : List ℕ → Opening → Expression → List Lexeme → List Lexeme → Type 0
IsOpeningTag s tag e before rest = (mid after : List Lexeme)
    × BeginsBlock s (block_word (opened_kind tag)) before mid × IsHead s tag e mid after × GoesBy EndBlock after rest

-- ["with" Expr]
abbrev pub AreGlobals : List ℕ → Option Expression → List Lexeme → List Lexeme → Type 0
AreGlobals s None before rest = before ≡ rest
AreGlobals s (Some e) before rest = (mid : List Lexeme) × GoesKeyword s (codes "with") before mid
    × IsExpression s e mid rest

abbrev mutual
  -- Stmt = Raw | Inline | Include | If | For | With
  pub IsStatement : List ℕ → Statement → List Lexeme → List Lexeme → Type 0
  IsStatement s (raw span) before rest = Goes Raw span before rest
  IsStatement s (inline_expr e span) before rest = (begin end : Span) × (mid after : List Lexeme)
      × Goes BeginExpr begin before mid × IsExpression s e mid after × Goes EndExpr end after rest ×
      (span ≡ from_to begin end)
  IsStatement s (include name context) before rest = (start mid after : List Lexeme) × BeginsBlock s
      (codes "include") before start × GoesText s name start mid × AreGlobals s context mid after
      × GoesBy EndBlock after rest
  IsStatement s (block tag e body other) before rest = (mid end : List Lexeme)
      × IsOpeningTag s tag e before mid × AreStatements s body mid end × IsBlockEnd s (opened_kind tag) other end rest

  -- Stmt*
  pub AreStatements : List ℕ → Statements → List Lexeme → List Lexeme → Type 0
  AreStatements s no_statements before rest = before ≡ rest
  AreStatements s (statement_then t ts) before rest = (mid : List Lexeme) × IsStatement s t before mid
      × AreStatements s ts mid rest

  -- [Else] and the last tag: an `else if` is an `if` inside the other branch, and one `endif` ends them all
  pub IsBlockEnd : List ℕ → Block → Else → List Lexeme → List Lexeme → Type 0
  IsBlockEnd s kind no_else before rest = IsWordTag s (end_word kind) before rest
  IsBlockEnd s kind (otherwise body) before rest =
      ((mid after : List Lexeme) × (may_have_else kind ≡ true) × IsWordTag s (codes "else") before mid
      × AreStatements s body mid after × IsWordTag s (end_word kind) after rest)
      ⊎ ((may_have_else_if kind ≡ true) × IsElseIf s body before rest)

  -- an `else if`: one `if` is all that the other branch holds
  pub IsElseIf : List ℕ → Statements → List Lexeme → List Lexeme → Type 0
  IsElseIf s no_statements before rest = ⊥
  IsElseIf s (statement_then t no_statements) before rest = IsIfAfterElse s t before rest
  IsElseIf s (statement_then t (statement_then u ts)) before rest = ⊥

  -- the `if` of an `else if`, whose tag has both keywords
  pub IsIfAfterElse : List ℕ → Statement → List Lexeme → List Lexeme → Type 0
  IsIfAfterElse s (block (if_tag negated) e body other) before rest = (mid after : List Lexeme)
      × IsElseIfTag s negated e before mid × AreStatements s body mid after × IsBlockEnd s if_block other after rest
  IsIfAfterElse s _ before rest = ⊥

-- the text has this tree: it is cut whole, and its tokens read as the tree's statements
pub record HasTree (delimiters : List DelimiterText) (s : List ℕ) (tree : Statements) : Type 0 where
  pub lexemes : List Lexeme
  pub cut : Cut delimiters s outside 0 lexemes outside (length s)
  pub reads : AreStatements s tree (significant (shown_lexemes s false lexemes)) []

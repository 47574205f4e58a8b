-- A tag whose first token inside is a number: its text denotes an integer.
use Rattle.std.proofs.Common.{◌≡◌, ◌⊎◌, inl, inr, ℕ, ℤ, List, ◌∷◌, Bool, true, false, sym, ◌∙◌, subst}
use Rattle.upon_types.specs.declared.types.Span.{Span}
use Rattle.upon_types.specs.declared.types.token.Token.{Token}
use Rattle.upon_types.specs.declared.types.token.Token.TheVariants.{Raw, BeginExpr, BeginBlock, OpenBracket, OpenBrace, OpenParen, Keyword, Ident, Number, String}
use Rattle.upon_types.specs.declared.types.ast.path.AccessOp.{AccessOp}
use Rattle.upon_types.specs.declared.types.ast.path.AccessOp.TheVariants.{Direct, Optional}
use Rattle.upon_types.specs.Span.{slice}
use Rattle.upon_types.specs.Val.{Val, none_val, bool_val, int_val, text_val, list_val, map_val}
use Rattle.upon_types.specs.Path.{Member}
use Rattle.upon_types.specs.Expression.{Expression, base, filtered, Base, var, literal, list, mapping, paren, call}
use Rattle.upon_types.specs.Tree.{Statement, raw, inline_expr, include, block, no_statements, statement_then}
use Rattle.upon_language_spec.specs.Cut.{Lexeme}
use Rattle.upon_language_spec.specs.Literal.{IsInteger}
use Rattle.upon_language_spec.specs.Tokens.{Goes}
use Rattle.upon_language_spec.specs.Expressions.{op_token, sign_token, IsBareName, IsMember, IsLiteral, IsBase, IsExpression}
use Rattle.upon_language_spec.specs.Grammar.{IsStatement}
use Rattle.upon_language_spec.proofs.Computation.NoTree.{NothingReads, first_goes, first_is, by_block}

-- the text of the token denotes an integer
abbrev pub StandsForInteger : List ℕ → Lexeme → Type 0
StandsForInteger s l = (z : ℤ) × IsInteger false (slice s l.span) z

not_op : (op : AccessOp) → Number ≡ op_token op → ⊥
not_op Direct h = cc
not_op Optional h = cc

not_sign : (minus : Bool) → Number ≡ sign_token minus → ⊥
not_sign true h = cc
not_sign false h = cc

module _ (s : List ℕ) (l : Lexeme) (ls : List Lexeme) (is : l.token ≡ Number) where
  goes_number : (t : Token) (span : Span) (rest : List Lexeme) → Goes t span (l ∷ ls) rest → Number ≡ t
  goes_number t span rest g = sym is ∙ first_is t span l ls rest g

  no_first : (first : Member) (rest : List Lexeme) → IsBareName s first (l ∷ ls) rest ⊎ IsMember s first (l ∷ ls) rest → ⊥
  no_first first rest (inl h) = let e : Number ≡ Ident = goes_number Ident h.0.span rest h.1.0 in cc e
  no_first first rest (inr h) = not_op first.op (goes_number (op_token first.op) h.0 h.1 h.2)

  number_literal : (v : Val) (span : Span) (rest : List Lexeme) → IsLiteral s v span (l ∷ ls) rest → StandsForInteger s l
  number_literal (bool_val true) span rest h = let e : Number ≡ Keyword = goes_number Keyword span rest h.0 in absurd (cc e)
  number_literal (bool_val false) span rest h = let e : Number ≡ Keyword = goes_number Keyword span rest h.0 in absurd (cc e)
  number_literal (int_val z) span rest (inl h) =
      let F : Span → Type 0 = λ x. IsInteger false (slice s x) z in
      (z, subst F (sym (first_goes Number span l ls rest h.0).1) h.1)
  number_literal (int_val z) span rest (inr h) = absurd (not_sign h.0 (goes_number (sign_token h.0) h.1 h.3 h.4))
  number_literal (text_val t) span rest h = let e : Number ≡ String = goes_number String span rest h.0 in absurd (cc e)
  number_literal none_val span rest h = absurd h
  number_literal (list_val vs) span rest h = absurd h
  number_literal (map_val es) span rest h = absurd h

  number_base : (b : Base) (rest : List Lexeme) → IsBase s b (l ∷ ls) rest → StandsForInteger s l
  number_base (var first others) rest h = absurd (no_first first h.0 h.1)
  number_base (literal v span) rest h = number_literal v span rest h
  number_base (list bases span) rest h = let e : Number ≡ OpenBracket = goes_number OpenBracket h.1.0 h.0 h.1.1 in absurd (cc e)
  number_base (mapping items span) rest h = let e : Number ≡ OpenBrace = goes_number OpenBrace h.1.0 h.0 h.1.1 in absurd (cc e)
  number_base (paren e span) rest h = let e : Number ≡ OpenParen = goes_number OpenParen h.2.0 h.0 h.2.1 in absurd (cc e)
  number_base (call name args span) rest h = let e : Number ≡ Ident = goes_number Ident name.span h.0 h.2.0 in absurd (cc e)

  number_expression : (e : Expression) (rest : List Lexeme) → IsExpression s e (l ∷ ls) rest → StandsForInteger s l
  number_expression (base b) rest h = number_base b rest h
  number_expression (filtered e name args span) rest h = number_expression e h.0 h.3

not_block : (l : Lexeme) → l.token ≡ BeginExpr → l.token ≡ BeginBlock → ⊥
not_block l a b = cc (a, b)

module _ (s : List ℕ) (begin l : Lexeme) (ls : List Lexeme) (begins : begin.token ≡ BeginExpr) (is : l.token ≡ Number) where
  statement_number : (t : Statement) (rest : List Lexeme) → IsStatement s t (begin ∷ l ∷ ls) rest → StandsForInteger s l
  statement_number (raw span) rest h = let e = first_is Raw span begin (l ∷ ls) rest h in absurd (cc (e, begins))
  statement_number (inline_expr e span) rest h =
      let F : List Lexeme → Type 0 = λ x. IsExpression s e x h.3 in
      let inside : l ∷ ls ≡ h.2 = (first_goes BeginExpr h.0 begin (l ∷ ls) h.2 h.4).2 in
      number_expression s l ls is e h.3 (subst F (sym inside) h.5)
  statement_number (include name context) rest h = absurd (not_block begin begins (by_block s _ begin (l ∷ ls) h.0 h.3))
  statement_number (block opening e body other) rest h = absurd (not_block begin begins (by_block s _ begin (l ∷ ls) h.2.0 h.2.2))

  -- no tree reads from a begin and a number whose text denotes no integer
  pub no_number_reads : (StandsForInteger s l → ⊥) → NothingReads s (begin ∷ l ∷ ls)
  no_number_reads other no_statements are = cc are
  no_number_reads other (statement_then t ts) are = other (statement_number t are.0 are.1)

-- Rows of tokens that begin a tag, and one that begins none.
use Rattle.std.proofs.Common.{◌≡◌, ◌⊎◌, inl, inr, ℕ, pos, List, [], ◌∷◌, ◌++◌, Bool, true, false, Some, refl, sym, ap, subst, ◌∙◌, arith, codes}
use Rattle.upon_language_spec.proofs.Computation.Computing.{computing}
use Rattle.upon_types.specs.declared.types.token.Token.TheVariants.{BeginExpr, EndExpr, BeginBlock, OpenBracket, CloseBracket, OpenBrace, OpenParen, Colon, Keyword, Ident, Number, String, Dot, Index}
use Rattle.upon_types.specs.declared.types.Span.{Span}
use Rattle.upon_types.specs.declared.types.token.Token.{Token}
use Rattle.upon_types.specs.declared.types.ast.path.AccessOp.{AccessOp}
use Rattle.upon_types.specs.declared.types.ast.path.AccessOp.TheVariants.{Direct, Optional}
use Rattle.upon_types.specs.Val.{Val, none_val, bool_val, int_val, text_val, list_val, map_val}
use Rattle.upon_types.specs.Path.{Member, by_index}
use Rattle.upon_types.specs.Expression.{Expression, base, filtered, Base, var, literal, list, mapping, paren, call, no_bases}
use Rattle.upon_types.specs.Tree.{inline_expr}
use Rattle.upon_language_spec.specs.Cut.{Lexeme}
use Rattle.upon_language_spec.specs.Tokens.{Goes}
use Rattle.upon_language_spec.specs.Expressions.{op_token, sign_token, IsBareName, IsMember, IsLiteral, IsBase, IsExpression}
use Rattle.upon_language_spec.specs.Tags.{IsTag, an_inline, an_include, an_opening, an_else_if, an_else, an_end, Symbol, symbol_of, symbols_of, BeginsTag}
use Rattle.upon_language_spec.specs.Wanted.{plain_symbol}
use Rattle.upon_language_spec.proofs.Computation.ReadStatements.{read_statements, statements_read}
use Rattle.upon_language_spec.proofs.Computation.NoTree.{first_goes, first_is, by_block}
use Rattle.upon_language_spec.specs.ShortTrees.{at, bare, one}
use Rattle.upon_language_spec.proofs.Examples.ShortTrees.{step, quote, lex, number}

-- a row begins a tag, where an expression's tag in some text begins with it
shown_by : (row more : List Symbol) (s : List ℕ) (ls : List Lexeme) (e : Expression) (span : Span) → read_statements s (one (inline_expr e span)) ls ≡ Some [] → symbols_of s ls ≡ row ++ more → BeginsTag row
shown_by row more s ls e span h begins =
    let are = statements_read s (one (inline_expr e span)) ls [] h in
    let F : List Lexeme → Type 0 = λ x. IsTag s ls x in
    record { text = s; lexemes = ls; rest = []; tag = subst F are.2 (an_inline e span are.1); more = more; begins = begins; within = omega arith }

pub number_may_stand : BeginsTag (plain_symbol BeginExpr ∷ plain_symbol Number ∷ [])
unfolding computing
number_may_stand = shown_by (plain_symbol BeginExpr ∷ plain_symbol Number ∷ []) (plain_symbol EndExpr ∷ []) (codes "{{ 0 }}") (lex BeginExpr 0 2 ∷ lex Number 3 4 ∷ lex EndExpr 5 7 ∷ []) (base (number (pos 0) 3 4)) (at 0 7) refl refl

pub bracket_may_stand : BeginsTag (plain_symbol BeginExpr ∷ plain_symbol OpenBracket ∷ [])
unfolding computing
bracket_may_stand = shown_by (plain_symbol BeginExpr ∷ plain_symbol OpenBracket ∷ []) (plain_symbol CloseBracket ∷ plain_symbol EndExpr ∷ []) (codes "{{ [] }}") (lex BeginExpr 0 2 ∷ lex OpenBracket 3 4 ∷ lex CloseBracket 4 5 ∷ lex EndExpr 6 8 ∷ []) (base (list no_bases (at 3 5))) (at 0 8) refl refl

pub text_may_stand : BeginsTag (plain_symbol BeginExpr ∷ plain_symbol String ∷ [])
unfolding computing
text_may_stand = shown_by (plain_symbol BeginExpr ∷ plain_symbol String ∷ []) (plain_symbol EndExpr ∷ []) (codes "{{ \"\" }}") (lex BeginExpr 0 2 ∷ lex String 3 5 ∷ lex EndExpr 6 8 ∷ []) (base (quote [] 3 5)) (at 0 8) refl refl

pub index_may_stand : BeginsTag (plain_symbol BeginExpr ∷ plain_symbol Ident ∷ plain_symbol Dot ∷ plain_symbol Index ∷ [])
unfolding computing
index_may_stand = shown_by (plain_symbol BeginExpr ∷ plain_symbol Ident ∷ plain_symbol Dot ∷ plain_symbol Index ∷ []) (plain_symbol EndExpr ∷ []) (codes "{{ a.0 }}") (lex BeginExpr 0 2 ∷ lex Ident 3 4 ∷ lex Dot 4 5 ∷ lex Index 5 6 ∷ lex EndExpr 7 9 ∷ []) (base (var (bare (codes "a") 3 4) (step Direct (by_index 0 (at 5 6)) 4 6 ∷ []))) (at 0 9) refl refl

not_op : (op : AccessOp) → Colon ≡ op_token op → ⊥
not_op Direct h = cc
not_op Optional h = cc

not_sign : (minus : Bool) → Colon ≡ sign_token minus → ⊥
not_sign true h = cc
not_sign false h = cc

-- no expression begins with a colon
module _ (s : List ℕ) (l : Lexeme) (ls : List Lexeme) (is : l.token ≡ Colon) where
  goes_colon : (t : Token) (span : Span) (rest : List Lexeme) → Goes t span (l ∷ ls) rest → Colon ≡ t
  goes_colon t span rest g = sym is ∙ first_is t span l ls rest g

  no_first : (first : Member) (rest : List Lexeme) → IsBareName s first (l ∷ ls) rest ⊎ IsMember s first (l ∷ ls) rest → ⊥
  no_first first rest (inl h) = let e : Colon ≡ Ident = goes_colon Ident h.0.span rest h.1.0 in cc e
  no_first first rest (inr h) = not_op first.op (goes_colon (op_token first.op) h.0 h.1 h.2)

  no_literal : (v : Val) (span : Span) (rest : List Lexeme) → IsLiteral s v span (l ∷ ls) rest → ⊥
  no_literal (bool_val true) span rest h = let e : Colon ≡ Keyword = goes_colon Keyword span rest h.0 in cc e
  no_literal (bool_val false) span rest h = let e : Colon ≡ Keyword = goes_colon Keyword span rest h.0 in cc e
  no_literal (int_val z) span rest (inl h) = let e : Colon ≡ Number = goes_colon Number span rest h.0 in cc e
  no_literal (int_val z) span rest (inr h) = not_sign h.0 (goes_colon (sign_token h.0) h.1 h.3 h.4)
  no_literal (text_val t) span rest h = let e : Colon ≡ String = goes_colon String span rest h.0 in cc e
  no_literal none_val span rest h = h
  no_literal (list_val vs) span rest h = h
  no_literal (map_val es) span rest h = h

  no_base : (b : Base) (rest : List Lexeme) → IsBase s b (l ∷ ls) rest → ⊥
  no_base (var first others) rest h = no_first first h.0 h.1
  no_base (literal v span) rest h = no_literal v span rest h
  no_base (list bases span) rest h = let e : Colon ≡ OpenBracket = goes_colon OpenBracket h.1.0 h.0 h.1.1 in cc e
  no_base (mapping items span) rest h = let e : Colon ≡ OpenBrace = goes_colon OpenBrace h.1.0 h.0 h.1.1 in cc e
  no_base (paren e span) rest h = let e : Colon ≡ OpenParen = goes_colon OpenParen h.2.0 h.0 h.2.1 in cc e
  no_base (call name args span) rest h = let e : Colon ≡ Ident = goes_colon Ident name.span h.0 h.2.0 in cc e

  no_expression : (e : Expression) (rest : List Lexeme) → IsExpression s e (l ∷ ls) rest → ⊥
  no_expression (base b) rest h = no_base b rest h
  no_expression (filtered e name args span) rest h = no_expression e h.0 h.3

not_block : (l : Lexeme) → l.token ≡ BeginExpr → l.token ≡ BeginBlock → ⊥
not_block l a b = cc (a, b)

no_tag : (s : List ℕ) (begin l : Lexeme) (ls rest : List Lexeme) → begin.token ≡ BeginExpr → l.token ≡ Colon → IsTag s (begin ∷ l ∷ ls) rest → ⊥
no_tag s begin l ls rest begins is (an_inline e span h) =
    let F : List Lexeme → Type 0 = λ x. IsExpression s e x h.3 in
    let inside : l ∷ ls ≡ h.2 = (first_goes BeginExpr h.0 begin (l ∷ ls) h.2 h.4).2 in
    no_expression s l ls is e h.3 (subst F (sym inside) h.5)
no_tag s begin l ls rest begins is (an_include name context g) = not_block begin begins (by_block s _ begin (l ∷ ls) g.0 g.3)
no_tag s begin l ls rest begins is (an_opening opening e g) = not_block begin begins (by_block s _ begin (l ∷ ls) g.0 g.2)
no_tag s begin l ls rest begins is (an_else_if negated e g) = not_block begin begins (by_block s _ begin (l ∷ ls) g.0 g.3)
no_tag s begin l ls rest begins is (an_else g) = not_block begin begins (by_block s _ begin (l ∷ ls) g.0 g.1)
no_tag s begin l ls rest begins is (an_end kind g) = not_block begin begins (by_block s _ begin (l ∷ ls) g.0 g.1)

by_symbols : (s : List ℕ) (ls rest : List Lexeme) (more : List Symbol) → IsTag s ls rest → symbols_of s ls ≡ plain_symbol BeginExpr ∷ plain_symbol Colon ∷ more → ⊥
by_symbols s [] rest more tag h = cc h
by_symbols s (l ∷ []) rest more tag h = cc h
by_symbols s (l ∷ k ∷ ls) rest more tag h =
    let a : symbol_of s l ≡ plain_symbol BeginExpr = cc h in
    let b : symbol_of s k ≡ plain_symbol Colon = cc h in
    no_tag s l k ls rest (ap (λ (x : Symbol). x.token) a) (ap (λ (x : Symbol). x.token) b) tag

pub colon_may_not_stand : BeginsTag (plain_symbol BeginExpr ∷ plain_symbol Colon ∷ []) → ⊥
colon_may_not_stand b = by_symbols b.text b.lexemes b.rest b.more b.tag b.begins

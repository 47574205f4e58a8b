-- Tags as sequences of tokens before `for .. else`: what began a tag.
use Rattle.std.specs.Prelude.{◌≡◌, ℕ, ◌≤◌, List, ◌++◌, length, Bool, Option, codes}
use Rattle.upon_types.specs.declared.types.Span.{Span}
use Rattle.upon_types.specs.Path.{Ident, LoopVars}
use Rattle.upon_types.specs.Expression.{Expression}
use Rattle.upon_language_spec.specs.Cut.{Lexeme}
use Rattle.upon_language_spec.specs.Grammar.{IsElseIfTag, IsWordTag}
use Rattle.upon_language_spec.specs.Tags.{Symbol, symbols_of}
use Rattle.upon_before_spec.specs.Tree.{inline_expr, include}
use Rattle.upon_before_spec.specs.Grammar.{IsStatement, IsIfTag, IsForTag, IsWithTag}

-- from the first of these tokens up to the rest is a whole tag
pub data IsTag (s : List ℕ) (ls rest : List Lexeme) : Type 0 where
  an_inline : (e : Expression) (span : Span) → IsStatement s (inline_expr e span) ls rest → IsTag s ls rest
  an_include : (name : Ident) (context : Option Expression) → IsStatement s (include name context) ls rest
      → IsTag s ls rest
  an_if : (negated : Bool) (e : Expression) → IsIfTag s negated e ls rest → IsTag s ls rest
  an_else_if : (negated : Bool) (e : Expression) → IsElseIfTag s negated e ls rest → IsTag s ls rest
  an_else : IsWordTag s (codes "else") ls rest → IsTag s ls rest
  an_endif : IsWordTag s (codes "endif") ls rest → IsTag s ls rest
  a_for : (names : LoopVars) (e : Expression) → IsForTag s names e ls rest → IsTag s ls rest
  an_endfor : IsWordTag s (codes "endfor") ls rest → IsTag s ls rest
  a_with : (e : Expression) (name : Ident) → IsWithTag s e name ls rest → IsTag s ls rest
  an_endwith : IsWordTag s (codes "endwith") ls rest → IsTag s ls rest

-- a row of symbols begins a tag, where some text has a tag that begins with this row
pub record BeginsTag (row : List Symbol) : Type 0 where
  pub text : List ℕ
  pub lexemes : List Lexeme
  pub rest : List Lexeme
  pub tag : IsTag text lexemes rest
  pub more : List Symbol
  pub begins : symbols_of text lexemes ≡ row ++ more
  pub within : length rest ≤ length more

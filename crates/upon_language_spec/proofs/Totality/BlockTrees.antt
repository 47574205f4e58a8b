-- Trees from the end of the text backwards: the rest of a text reads as what the open blocks still want.
use Rattle.std.proofs.Common.{◌≡◌, inl, inr, List, [], ◌∷◌, Bool, true, false, refl, codes, ℕ}
use Rattle.upon_types.specs.declared.types.Span.{Span}
use Rattle.upon_types.specs.Expression.{Expression}
use Rattle.upon_types.specs.BlockKinds.{Block, if_block, Opening, if_tag, opened_kind, end_word, may_have_else}
use Rattle.upon_types.specs.Tree.{Statement, block, Statements, no_statements, statement_then, Else, no_else, otherwise}
use Rattle.upon_language_spec.specs.Cut.{Lexeme}
use Rattle.upon_language_spec.specs.Grammar.{IsStatement, AreStatements, IsBlockEnd, IsWordTag, IsElseIfTag, IsOpeningTag}
use Rattle.upon_language_spec.specs.Blocks.{OpenBlock}

-- a body, its closing tags, and then what P says
abbrev Closed : List ℕ → Block → Bool → (List Lexeme → Type 0) → List Lexeme → Type 0
Closed s kind false P ls = (other : Else) × (rest : List Lexeme) × IsBlockEnd s kind other ls rest × P rest
Closed s kind true P ls = (rest : List Lexeme) × IsWordTag s (end_word kind) ls rest × P rest

-- the tokens end the open blocks, the innermost first, and then the text
abbrev pub EndsBlocks : List ℕ → List OpenBlock → List Lexeme → Type 0
EndsBlocks s [] ls = (ts : Statements) × AreStatements s ts ls []
EndsBlocks s (o ∷ stack) ls = (body : Statements) × (mid : List Lexeme) × AreStatements s body ls mid × Closed s o.kind o.has_else (EndsBlocks s stack) mid

abbrev pub opening : Block → Bool → Span → OpenBlock
opening kind has_else span = record { kind = kind; has_else = has_else; span = span }

module _ (s : List ℕ) where
  pub text_ends : EndsBlocks s [] []
  text_ends = (no_statements, refl)

  -- a whole statement before the rest
  pub statement_first : (stack : List OpenBlock) (t : Statement) (ls mid : List Lexeme) → IsStatement s t ls mid → EndsBlocks s stack mid → EndsBlocks s stack ls
  statement_first [] t ls mid g (ts, are) = (statement_then t ts, (mid, g, are))
  statement_first (o ∷ stack) t ls mid g (ts, rest, are, closed) = (statement_then t ts, rest, (mid, g, are), closed)

  -- the first tag of a block
  pub opening_first : (stack : List OpenBlock) (span : Span) (tag : Opening) (e : Expression) (ls mid : List Lexeme) → IsOpeningTag s tag e ls mid → EndsBlocks s (opening (opened_kind tag) false span ∷ stack) mid → EndsBlocks s stack ls
  opening_first stack span tag e ls mid g (body, after, are, (other, rest, closed, more)) = statement_first stack (block tag e body other) ls rest (mid, after, g, are, closed) more

  -- a tag that goes on with the innermost block or closes it
  pub else_first : (kind : Block) (stack : List OpenBlock) (span : Span) (ls mid : List Lexeme) → may_have_else kind ≡ true → IsWordTag s (codes "else") ls mid → EndsBlocks s (opening kind true span ∷ stack) mid → EndsBlocks s (opening kind false span ∷ stack) ls
  else_first kind stack span ls mid may g (body, after, are, (rest, closed, more)) = (no_statements, ls, refl, (otherwise body, rest, inl (mid, after, may, g, are, closed), more))

  pub else_if_first : (stack : List OpenBlock) (span : Span) (negated : Bool) (e : Expression) (ls mid : List Lexeme) → IsElseIfTag s negated e ls mid → EndsBlocks s (opening if_block false span ∷ stack) mid → EndsBlocks s (opening if_block false span ∷ stack) ls
  else_if_first stack span negated e ls mid g (body, after, are, (other, rest, closed, more)) = (no_statements, ls, refl, (otherwise (statement_then (block (if_tag negated) e body other) no_statements), rest, inr (refl, (mid, after, g, are, closed)), more))

  pub end_first : (kind : Block) (stack : List OpenBlock) (has_else : Bool) (span : Span) (ls mid : List Lexeme) → IsWordTag s (end_word kind) ls mid → EndsBlocks s stack mid → EndsBlocks s (opening kind has_else span ∷ stack) ls
  end_first kind stack true span ls mid g more = (no_statements, ls, refl, (mid, g, more))
  end_first kind stack false span ls mid g more = (no_statements, ls, refl, (no_else, mid, g, more))

-- The open blocks of tokens that a tree is read from: after statements they are as before, and each closing tag is taken.
use Rattle.std.proofs.Common.{◌≡◌, inl, inr, ℕ, List, [], ◌∷◌, true, false, refl, subst}
use Rattle.upon_types.specs.declared.types.Span.{Span}
use Rattle.upon_types.specs.declared.types.token.Token.TheVariants.{Raw}
use Rattle.upon_types.specs.Expression.{Expression}
use Rattle.upon_types.specs.BlockKinds.{Block, if_block, if_tag, opened_kind}
use Rattle.upon_types.specs.Tree.{Statement, raw, inline_expr, include, block, Statements, no_statements, statement_then, Else, no_else, otherwise}
use Rattle.upon_language_spec.specs.Cut.{Lexeme}
use Rattle.upon_language_spec.specs.Expressions.{IsExpression}
use Rattle.upon_language_spec.specs.Grammar.{IsStatement, AreStatements, IsBlockEnd, IsElseIf, IsIfAfterElse}
use Rattle.upon_language_spec.proofs.NoTreeWithFault.Fine.{Passes}
use Rattle.upon_language_spec.specs.Blocks.{OpenBlock, blocks_from}
use Rattle.upon_language_spec.proofs.BlockKinds.{only_if}
use Rattle.upon_language_spec.specs.ClosingTags.{AllTaken}
use Rattle.upon_language_spec.proofs.NoTreeWithFault.TagBlocks.{Walks, walks_then, walks_nothing, walks_one, opening, walks_end, walks_plain_else, walks_opening, walks_else_if, walks_include, walks_inline}

-- with what is known of expressions: none of their tokens begins a block
module _ (s : List ℕ) (passes : (e : Expression) (ts rest : List Lexeme) → IsExpression s e ts rest → Passes s ts rest) where
  mutual
    walks_statement : (t : Statement) (a : List OpenBlock) (ts rest : List Lexeme) → IsStatement s t ts rest → Walks s a ts a rest
    walks_statement (raw span) a ts rest g = walks_one s Raw span a ts rest refl g
    walks_statement (inline_expr e span) a ts rest g = walks_inline s passes e span a ts rest g
    walks_statement (include name context) a ts rest g = walks_include s passes name context a ts rest g
    walks_statement (block tag e body other) a ts rest g =
        let o = walks_opening s passes tag e a ts g.0 g.2 in
        let b = opening s (opened_kind tag) false o.0 ∷ a in
        walks_then s a b a ts g.0 rest o.1 (walks_then s b b a g.0 g.1 rest (walks_statements body b g.0 g.1 g.3) (walks_block_end (opened_kind tag) other o.0 a g.1 rest g.4))

    pub walks_statements : (tree : Statements) (a : List OpenBlock) (ts rest : List Lexeme) → AreStatements s tree ts rest → Walks s a ts a rest
    walks_statements no_statements a ts rest g = walks_nothing s a ts rest g
    walks_statements (statement_then t tree) a ts rest g = walks_then s a a a ts g.0 rest (walks_statement t a ts g.0 g.1) (walks_statements tree a g.0 rest g.2)

    walks_block_end : (kind : Block) (other : Else) (span : Span) (a : List OpenBlock) (ts rest : List Lexeme) → IsBlockEnd s kind other ts rest → Walks s (opening s kind false span ∷ a) ts a rest
    walks_block_end kind no_else span a ts rest g = walks_end s kind a false span ts rest g
    walks_block_end kind (otherwise body) span a ts rest (inl g) =
        let b = opening s kind false span ∷ a in
        let c = opening s kind true span ∷ a in
        walks_then s b c a ts g.0 rest (walks_plain_else s kind a span ts g.0 g.2 g.3) (walks_then s c c a g.0 g.1 rest (walks_statements body c g.0 g.1 g.4) (walks_end s kind a true span g.1 rest g.5))
    walks_block_end kind (otherwise body) span a ts rest (inr g) =
        let F : Block → Type 0 = λ k. Walks s (opening s k false span ∷ a) ts a rest in
        subst F (only_if kind g.0) (walks_other_if body span a ts rest g.1)

    walks_other_if : (body : Statements) (span : Span) (a : List OpenBlock) (ts rest : List Lexeme) → IsElseIf s body ts rest → Walks s (opening s if_block false span ∷ a) ts a rest
    walks_other_if no_statements span a ts rest g = absurd g
    walks_other_if (statement_then t no_statements) span a ts rest g = walks_if_after t span a ts rest g
    walks_other_if (statement_then t (statement_then u us)) span a ts rest g = absurd g

    walks_if_after : (t : Statement) (span : Span) (a : List OpenBlock) (ts rest : List Lexeme) → IsIfAfterElse s t ts rest → Walks s (opening s if_block false span ∷ a) ts a rest
    walks_if_after (block (if_tag negated) e body other) span a ts rest g =
        let b = opening s if_block false span ∷ a in
        walks_then s b b a ts g.0 rest (walks_else_if s passes negated e span a ts g.0 g.2) (walks_then s b b a g.0 g.1 rest (walks_statements body b g.0 g.1 g.3) (walks_block_end if_block other span a g.1 rest g.4))
    walks_if_after t span a ts rest g = absurd g

  -- after statements the same blocks are open as before
  pub blocks_of_statements : (tree : Statements) (stack : List OpenBlock) (ts rest : List Lexeme) → AreStatements s tree ts rest → blocks_from s stack ts ≡ blocks_from s stack rest
  blocks_of_statements tree stack ts rest g = (walks_statements tree stack ts rest g).0

  -- each closing tag of a whole tree's tokens is taken
  pub taken_of_statements : (tree : Statements) (ts : List Lexeme) → AreStatements s tree ts [] → AllTaken s [] ts
  taken_of_statements tree ts g = (walks_statements tree [] ts [] g).1 tt

-- The spans of a whole tree lie in the text that has it.
use Rattle.std.proofs.Common.{◌≡◌, inl, inr, ℕ, List, [], length, Bool, true, false, Option, Some, None, sym, subst, arith, codes}
use Rattle.std.specs.Str.{IsUtf8}
use Rattle.std.proofs.lemmas.Str.{IsCharBoundary-start}
use Rattle.upon_types.specs.declared.types.Span.{Span}
use Rattle.upon_types.specs.declared.types.token.Token.{Token}
use Rattle.upon_types.specs.declared.types.token.Token.TheVariants.{Raw, BeginExpr, EndExpr, BeginBlock, EndBlock, Comma, Keyword, Ident as Identifier, String}
use Rattle.upon_types.specs.Span.{LiesIn}
use Rattle.upon_types.specs.Path.{LoopVars, item, key_value}
use Rattle.upon_types.specs.Expression.{Expression, expression_span}
use Rattle.upon_types.specs.BlockKinds.{Block, if_block, Opening, if_tag, opened_kind, block_word, end_word, LoopNamesSpans, OpeningSpans}
use Rattle.upon_types.specs.Tree.{Statement, raw, inline_expr, include, block, Statements, no_statements, statement_then, Else, no_else, otherwise}
use Rattle.upon_language_spec.specs.Search.{DelimiterText, HasTexts}
use Rattle.upon_language_spec.specs.LiesIn.{HasUtf8}
use Rattle.upon_language_spec.specs.Cut.{Lexeme, outside}
use Rattle.upon_language_spec.specs.Tokens.{GoesKeyword}
use Rattle.upon_language_spec.specs.Expressions.{IsExpression}
use Rattle.upon_language_spec.specs.Grammar.{BeginsBlock, IsWordTag, IsCondition, IsElseIfTag, AreLoopVars, IsOpeningTag, AreGlobals, IsStatement, AreStatements, IsBlockEnd, IsElseIf, IsIfAfterElse, HasTree}
use Rattle.upon_language_spec.specs.SpansLieIn.{ExpressionLiesIn, ContextLiesIn, StatementLiesIn, StatementsLieIn, ElseLiesIn}
use Rattle.upon_language_spec.proofs.BlockKinds.{HeadPart, value_part, names_part, Head, last_part, part_then, head_of, IsHeadPart, AreHeadParts, parts_of_head, PartSpans, HeadSpans, spans_of_head}
use Rattle.upon_language_spec.proofs.Spans.Along.{Along, along_before, along_significant, Passed, goes_along, by_along}
use Rattle.upon_language_spec.proofs.Spans.Expressions.{from_to_lies, expression_along}

module _ (s : List ℕ) where
  along_same : (p : ℕ) (ts rest : List Lexeme) → Along s p ts → ts ≡ rest → Along s p rest
  along_same p ts rest h e = subst (λ x. Along s p x) e h

  keyword_along : (word : List ℕ) (p : ℕ) (ts rest : List Lexeme) → Along s p ts → GoesKeyword s word ts rest → Along s p rest
  keyword_along word p ts rest h g = by_along s p Keyword ts rest h (g.0, g.1.0)

  begins_along : (word : List ℕ) (p : ℕ) (ts rest : List Lexeme) → Along s p ts → BeginsBlock s word ts rest → Along s p rest
  begins_along word p ts rest h g = keyword_along word p g.0 rest (by_along s p BeginBlock ts g.0 h g.1) g.2

  word_tag_along : (word : List ℕ) (p : ℕ) (ts rest : List Lexeme) → Along s p ts → IsWordTag s word ts rest → Along s p rest
  word_tag_along word p ts rest h g = by_along s p EndBlock g.0 rest (begins_along word p ts g.0 h g.1) g.2

  -- an expression, and what is after it
  expression_then : (e : Expression) (p : ℕ) (ts rest : List Lexeme) → Along s p ts → IsExpression s e ts rest → ExpressionLiesIn s e × Along s p rest
  expression_then e p ts rest h g =
      let x = expression_along s e p ts rest h g in
      (x.0, along_before s p (expression_span e).n rest (omega (arith, x.1.from, x.1.lies.ordered)) x.1.along)

  name_then : (t : Token) (span : Span) (p : ℕ) (rest : List Lexeme) → Passed s p span rest → LiesIn s span × Along s p rest
  name_then t span p rest x = (x.lies, along_before s p span.n rest (omega (arith, x.from, x.lies.ordered)) x.along)

  condition_along : (negated : Bool) (e : Expression) (p : ℕ) (ts rest : List Lexeme) → Along s p ts → IsCondition s negated e ts rest → ExpressionLiesIn s e × Along s p rest
  condition_along true e p ts rest h g = expression_then e p g.0 rest (keyword_along (codes "not") p ts g.0 h g.1) g.2
  condition_along false e p ts rest h g = expression_then e p ts rest h g

  else_if_along : (negated : Bool) (e : Expression) (p : ℕ) (ts rest : List Lexeme) → Along s p ts → IsElseIfTag s negated e ts rest → ExpressionLiesIn s e × Along s p rest
  else_if_along negated e p ts rest h g =
      let x = condition_along negated e p g.1 g.2 (keyword_along (codes "if") p g.0 g.1 (begins_along (codes "else") p ts g.0 h g.3) g.4) g.5 in
      (x.0, by_along s p EndBlock g.2 rest x.1 g.6)

  names_along : (names : LoopVars) (p : ℕ) (ts rest : List Lexeme) → Along s p ts → AreLoopVars s names ts rest → LoopNamesSpans (LiesIn s) names × Along s p rest
  names_along (item name) p ts rest h g = name_then Identifier name.span p rest (goes_along s p Identifier name.span ts rest h g.0)
  names_along (key_value key value span) p ts rest h g =
      let first = goes_along s p Identifier key.span ts g.0 h g.2.0 in
      let second = goes_along s key.span.n Identifier value.span g.1 rest (by_along s key.span.n Comma g.0 g.1 first.along g.3) g.4.0 in
      let F : Span → Type 0 = λ x. LiesIn s x in
      let both = subst F (sym g.5) (from_to_lies s key.span value.span first.lies second.lies second.from) in
      ((first.lies, second.lies, both), along_before s p value.span.n rest (omega (arith, first.from, first.lies.ordered, second.from, second.lies.ordered)) second.along)

  part_along : (part : HeadPart) (p : ℕ) (ts rest : List Lexeme) → Along s p ts → IsHeadPart s part ts rest → PartSpans (LiesIn s) (ExpressionLiesIn s) part × Along s p rest
  part_along (value_part negated e) p ts rest h g = condition_along negated e p ts rest h g
  part_along (names_part names) p ts rest h g = names_along names p ts rest h g

  parts_along : (head : Head) (p : ℕ) (ts rest : List Lexeme) → Along s p ts → AreHeadParts s head ts rest → HeadSpans (LiesIn s) (ExpressionLiesIn s) head × Along s p rest
  parts_along (last_part part) p ts rest h g = part_along part p ts rest h g
  parts_along (part_then part word head) p ts rest h g =
      let x = part_along part p ts g.0 h g.2 in
      let y = parts_along head p g.1 rest (keyword_along word p g.0 g.1 x.1 g.3) g.4 in
      ((x.0, y.0), y.1)

  opening_along : (tag : Opening) (e : Expression) (p : ℕ) (ts rest : List Lexeme) → Along s p ts → IsOpeningTag s tag e ts rest → OpeningSpans (LiesIn s) tag × ExpressionLiesIn s e × Along s p rest
  opening_along tag e p ts rest h g =
      let x = parts_along (head_of tag e) p g.0 g.1 (begins_along (block_word (opened_kind tag)) p ts g.0 h g.2) (parts_of_head s tag e g.0 g.1 g.3) in
      let spans = spans_of_head (LiesIn s) (ExpressionLiesIn s) tag e x.0 in
      (spans.0, spans.1, by_along s p EndBlock g.1 rest x.1 g.4)

  context_along : (context : Option Expression) (p : ℕ) (ts rest : List Lexeme) → Along s p ts → AreGlobals s context ts rest → ContextLiesIn s context × Along s p rest
  context_along None p ts rest h g = (tt, along_same p ts rest h g)
  context_along (Some e) p ts rest h g = expression_then e p g.0 rest (keyword_along (codes "with") p ts g.0 h g.1) g.2

  mutual
    statement_along : (t : Statement) (p : ℕ) (ts rest : List Lexeme) → Along s p ts → IsStatement s t ts rest → StatementLiesIn s t × Along s p rest
    statement_along (raw span) p ts rest h g = name_then Raw span p rest (goes_along s p Raw span ts rest h g)
    statement_along (inline_expr e span) p ts rest h g =
        let begin = goes_along s p BeginExpr g.0 ts g.2 h g.4 in
        let x = expression_along s e g.0.n g.2 g.3 begin.along g.5 in
        let end = goes_along s (expression_span e).n EndExpr g.1 g.3 rest x.1.along g.6 in
        let F : Span → Type 0 = λ y. LiesIn s y in
        let whole = subst F (sym g.7) (from_to_lies s g.0 g.1 begin.lies end.lies (omega (arith, x.1.from, x.1.lies.ordered, end.from))) in
        ((x.0, whole), along_before s p g.1.n rest (omega (arith, begin.from, begin.lies.ordered, x.1.from, x.1.lies.ordered, end.from, end.lies.ordered)) end.along)
    statement_along (include name context) p ts rest h g =
        let named = name_then String name.span p g.1 (goes_along s p String name.span g.0 g.1 (begins_along (codes "include") p ts g.0 h g.3) g.4.0) in
        let x = context_along context p g.1 g.2 named.1 g.5 in
        ((named.0, x.0), by_along s p EndBlock g.2 rest x.1 g.6)
    statement_along (block tag e body other) p ts rest h g =
        let x = opening_along tag e p ts g.0 h g.2 in
        let y = statements_along body p g.0 g.1 x.2 g.3 in
        let z = end_along (opened_kind tag) other p g.1 rest y.1 g.4 in
        ((x.0, x.1, y.0, z.0), z.1)

    pub statements_along : (ts : Statements) (p : ℕ) (ls rest : List Lexeme) → Along s p ls → AreStatements s ts ls rest → StatementsLieIn s ts × Along s p rest
    statements_along no_statements p ls rest h g = (tt, along_same p ls rest h g)
    statements_along (statement_then t ts) p ls rest h g =
        let x = statement_along t p ls g.0 h g.1 in
        let y = statements_along ts p g.0 rest x.1 g.2 in
        ((x.0, y.0), y.1)

    end_along : (kind : Block) (other : Else) (p : ℕ) (ts rest : List Lexeme) → Along s p ts → IsBlockEnd s kind other ts rest → ElseLiesIn s other × Along s p rest
    end_along kind no_else p ts rest h g = (tt, word_tag_along (end_word kind) p ts rest h g)
    end_along kind (otherwise body) p ts rest h (inl g) =
        let y = statements_along body p g.0 g.1 (word_tag_along (codes "else") p ts g.0 h g.3) g.4 in
        (y.0, word_tag_along (end_word kind) p g.1 rest y.1 g.5)
    end_along kind (otherwise body) p ts rest h (inr g) = else_if_chain body p ts rest h g.1

    else_if_chain : (body : Statements) (p : ℕ) (ts rest : List Lexeme) → Along s p ts → IsElseIf s body ts rest → StatementsLieIn s body × Along s p rest
    else_if_chain no_statements p ts rest h g = absurd g
    else_if_chain (statement_then t no_statements) p ts rest h g = let x = after_else t p ts rest h g in ((x.0, tt), x.1)
    else_if_chain (statement_then t (statement_then u us)) p ts rest h g = absurd g

    after_else : (t : Statement) (p : ℕ) (ts rest : List Lexeme) → Along s p ts → IsIfAfterElse s t ts rest → StatementLiesIn s t × Along s p rest
    after_else (block (if_tag negated) e body other) p ts rest h g =
        let x = else_if_along negated e p ts g.0 h g.2 in
        let y = statements_along body p g.0 g.1 x.1 g.3 in
        let z = end_along if_block other p g.1 rest y.1 g.4 in
        ((tt, x.0, y.0, z.0), z.1)
    after_else t p ts rest h g = absurd g

pub tree_lies_in : (delimiters : List DelimiterText) (s : List ℕ) (tree : Statements) → HasTexts delimiters → HasUtf8 delimiters → IsUtf8 s → HasTree delimiters s tree → StatementsLieIn s tree
tree_lies_in delimiters s tree texts utf8 text has =
    (statements_along s tree 0 _ [] (along_significant delimiters s texts utf8 text false outside outside 0 (length s) has.lexemes (IsCharBoundary-start s text) has.cut) has.reads).0

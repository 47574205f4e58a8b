-- A tree of before is a tree of today, and the other way round.
use Rattle.std.proofs.Common.{inl, inr, ℕ, List, [], refl}
use Rattle.upon_language_spec.specs.Search.{DelimiterText}
use Rattle.upon_language_spec.specs.Cut.{Lexeme}
use Rattle.upon_language_spec.specs.Grammar.{IsStatement, AreStatements, IsBlockEnd, IsElseIf, IsIfAfterElse, HasTree}
use Rattle.upon_types.specs.BlockKinds.{if_block}
use Rattle.upon_before_spec.specs.Tree.{Statement as StatementBefore, raw as raw_before, inline_expr as inline_before, include as include_before, if_else as if_before, for_loop as for_before, with as with_before, Statements as StatementsBefore, no_statements as none_before, statement_then as then_before, Else as ElseBefore, no_else as no_else_before, otherwise as otherwise_before}
use Rattle.upon_before_spec.specs.Grammar.{IsStatement as WasStatement, AreStatements as WereStatements, IsElse as WasElse, IsElseIf as WasElseIf, IsIfAfterElse as WasIfAfterElse, HasTree as HadTree}
use Rattle.upon_before_spec.specs.Now.{statement_now, statements_now, else_now}
use Rattle.upon_before_spec.proofs.TagsKept.{for_now, for_was, with_now, with_was}

module _ (s : List ℕ) where
  mutual
    pub statement_kept : (t : StatementBefore) (ts rest : List Lexeme) → WasStatement s t ts rest → IsStatement s (statement_now t) ts rest
    statement_kept (raw_before span) ts rest g = g
    statement_kept (inline_before e span) ts rest g = g
    statement_kept (include_before word given) ts rest g = g
    statement_kept (if_before negated e body other) ts rest g = (g.0, g.1, g.2, statements_kept body g.0 g.1 g.3, else_kept other g.1 rest g.4)
    statement_kept (for_before names e body) ts rest g = (g.0, g.1, for_now s names e ts g.0 g.2, statements_kept body g.0 g.1 g.3, g.4)
    statement_kept (with_before e name body) ts rest g = (g.0, g.1, with_now s e name ts g.0 g.2, statements_kept body g.0 g.1 g.3, g.4)

    pub statements_kept : (tree : StatementsBefore) (ts rest : List Lexeme) → WereStatements s tree ts rest → AreStatements s (statements_now tree) ts rest
    statements_kept none_before ts rest g = g
    statements_kept (then_before t tree) ts rest g = (g.0, statement_kept t ts g.0 g.1, statements_kept tree g.0 rest g.2)

    else_kept : (other : ElseBefore) (ts rest : List Lexeme) → WasElse s other ts rest → IsBlockEnd s if_block (else_now other) ts rest
    else_kept no_else_before ts rest g = g
    else_kept (otherwise_before body) ts rest (inl g) = inl (g.0, g.1, refl, g.2, statements_kept body g.0 g.1 g.3, g.4)
    else_kept (otherwise_before body) ts rest (inr g) = inr (refl, else_if_kept body ts rest g)

    else_if_kept : (body : StatementsBefore) (ts rest : List Lexeme) → WasElseIf s body ts rest → IsElseIf s (statements_now body) ts rest
    else_if_kept none_before ts rest g = absurd g
    else_if_kept (then_before t none_before) ts rest g = if_kept t ts rest g
    else_if_kept (then_before t (then_before u us)) ts rest g = absurd g

    if_kept : (t : StatementBefore) (ts rest : List Lexeme) → WasIfAfterElse s t ts rest → IsIfAfterElse s (statement_now t) ts rest
    if_kept (if_before negated e body other) ts rest g = (g.0, g.1, g.2, statements_kept body g.0 g.1 g.3, else_kept other g.1 rest g.4)
    if_kept (raw_before span) ts rest g = absurd g
    if_kept (inline_before e span) ts rest g = absurd g
    if_kept (include_before word given) ts rest g = absurd g
    if_kept (for_before names e body) ts rest g = absurd g
    if_kept (with_before e name body) ts rest g = absurd g

  mutual
    pub statement_was : (t : StatementBefore) (ts rest : List Lexeme) → IsStatement s (statement_now t) ts rest → WasStatement s t ts rest
    statement_was (raw_before span) ts rest g = g
    statement_was (inline_before e span) ts rest g = g
    statement_was (include_before word given) ts rest g = g
    statement_was (if_before negated e body other) ts rest g = (g.0, g.1, g.2, statements_was body g.0 g.1 g.3, else_was other g.1 rest g.4)
    statement_was (for_before names e body) ts rest g = (g.0, g.1, for_was s names e ts g.0 g.2, statements_was body g.0 g.1 g.3, g.4)
    statement_was (with_before e name body) ts rest g = (g.0, g.1, with_was s e name ts g.0 g.2, statements_was body g.0 g.1 g.3, g.4)

    pub statements_was : (tree : StatementsBefore) (ts rest : List Lexeme) → AreStatements s (statements_now tree) ts rest → WereStatements s tree ts rest
    statements_was none_before ts rest g = g
    statements_was (then_before t tree) ts rest g = (g.0, statement_was t ts g.0 g.1, statements_was tree g.0 rest g.2)

    else_was : (other : ElseBefore) (ts rest : List Lexeme) → IsBlockEnd s if_block (else_now other) ts rest → WasElse s other ts rest
    else_was no_else_before ts rest g = g
    else_was (otherwise_before body) ts rest (inl g) = inl (g.0, g.1, g.3, statements_was body g.0 g.1 g.4, g.5)
    else_was (otherwise_before body) ts rest (inr g) = inr (else_if_was body ts rest g.1)

    else_if_was : (body : StatementsBefore) (ts rest : List Lexeme) → IsElseIf s (statements_now body) ts rest → WasElseIf s body ts rest
    else_if_was none_before ts rest g = absurd g
    else_if_was (then_before t none_before) ts rest g = if_was t ts rest g
    else_if_was (then_before t (then_before u us)) ts rest g = absurd g

    if_was : (t : StatementBefore) (ts rest : List Lexeme) → IsIfAfterElse s (statement_now t) ts rest → WasIfAfterElse s t ts rest
    if_was (if_before negated e body other) ts rest g = (g.0, g.1, g.2, statements_was body g.0 g.1 g.3, else_was other g.1 rest g.4)
    if_was (raw_before span) ts rest g = absurd g
    if_was (inline_before e span) ts rest g = absurd g
    if_was (include_before word given) ts rest g = absurd g
    if_was (for_before names e body) ts rest g = absurd g
    if_was (with_before e name body) ts rest g = absurd g

pub tree_kept : (delimiters : List DelimiterText) (s : List ℕ) (tree : StatementsBefore) → HadTree delimiters s tree → HasTree delimiters s (statements_now tree)
tree_kept delimiters s tree has = record { lexemes = has.lexemes; cut = has.cut; reads = statements_kept s tree _ [] has.reads }

pub tree_was : (delimiters : List DelimiterText) (s : List ℕ) (tree : StatementsBefore) → HasTree delimiters s (statements_now tree) → HadTree delimiters s tree
tree_was delimiters s tree has = record { lexemes = has.lexemes; cut = has.cut; reads = statements_was s tree _ [] has.reads }

-- Tokens are one list of statements at most.
use Rattle.std.proofs.Common.{◌≡◌, ℕ, List, [], refl, sym, ap, ◌∙◌}
use Rattle.upon_types.specs.BlockKinds.{Block, if_block, if_tag, opened_kind}
use Rattle.upon_types.specs.Tree.{Statement, raw, inline_expr, include, block, Statements, no_statements, statement_then, Else, no_else, otherwise}
use Rattle.upon_language_spec.specs.Cut.{Lexeme}
use Rattle.upon_language_spec.specs.Grammar.{AreStatements}
use Rattle.upon_language_spec.proofs.OneTree.Mark.{end_begins_none}
use Rattle.upon_language_spec.proofs.OneTree.Statement.{OneStatement, OneStatements, OneBlockEnd, OneElseIf, OneIfAfterElse, one_raw, one_inline, one_include, one_block, one_if_after_else, one_no_else, one_otherwise}

module _ (s : List ℕ) where
  end_of_statements : OneStatements s no_statements
  end_of_statements no_statements ts us r x same h p k q = (refl, sym h ∙ same ∙ k)
  end_of_statements (statement_then u more) ts us r x same h p k q = absurd (p u us k.0 (sym h ∙ same) k.1)

  one_more : (t : Statement) (rest : Statements) → OneStatement s t → OneStatements s rest → OneStatements s (statement_then t rest)
  one_more t rest one others no_statements ts us r x same h p k q = absurd (q t ts h.0 (sym k ∙ sym same) h.1)
  one_more t rest one others (statement_then u more) ts us r x same h p k q =
      let o = one u ts us h.0 k.0 same h.1 k.1 in
      let m = others more h.0 k.0 r x o.1 h.2 p k.2 q in
      let first : t ≡ u = o.0 in
      let last : rest ≡ more = m.0 in
      ((λ i. statement_then (first i) (last i)), m.1)

  one_alone : (t : Statement) → OneIfAfterElse s t → OneElseIf s (statement_then t no_statements)
  one_alone t one no_statements ts us r x same h k = absurd k
  one_alone t one (statement_then u no_statements) ts us r x same h k = let o = one u ts us r x same h k in (ap (λ v. statement_then v no_statements) o.0, o.1)
  one_alone t one (statement_then u (statement_then v more)) ts us r x same h k = absurd k

  mutual
    statement : (t : Statement) → OneStatement s t
    statement (raw span) = one_raw s span
    statement (inline_expr e span) = one_inline s e span
    statement (include name context) = one_include s name context
    statement (block opening e body other) = one_block s opening e body other (statements body) (branch (opened_kind opening) other)

    statements : (a : Statements) → OneStatements s a
    statements no_statements = end_of_statements
    statements (statement_then t more) = one_more t more (statement t) (statements more)

    branch : (kind : Block) (a : Else) → OneBlockEnd s kind a
    branch kind no_else = one_no_else s kind
    branch kind (otherwise body) = one_otherwise s kind body (statements body) (chain body)

    -- an `else if` is an `if` alone in the other branch
    chain : (a : Statements) → OneElseIf s a
    chain no_statements = λ b ts us r x same h k. absurd h
    chain (statement_then t no_statements) = one_alone t (link t)
    chain (statement_then t (statement_then u more)) = λ b ts us r x same h k. absurd h

    link : (t : Statement) → OneIfAfterElse s t
    link (block (if_tag negated) e body other) = one_if_after_else s negated e body other (statements body) (branch if_block other)
    link t = λ u ts us r x same h k. absurd h

  pub one_statements : (ts : List Lexeme) (a b : Statements) → AreStatements s a ts [] → AreStatements s b ts [] → a ≡ b
  one_statements ts a b h k = (statements a b ts ts [] [] refl h (end_begins_none s) k (end_begins_none s)).0

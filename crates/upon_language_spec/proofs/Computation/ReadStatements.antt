-- Reading a template from tokens by its tree.
use Rattle.std.proofs.Common.{◌≡◌, inl, inr, ℕ, List, Bool, true, false, Option, Some, None, codes}
use Rattle.upon_types.specs.declared.types.Span.{Span}
use Rattle.upon_types.specs.declared.types.token.Token.TheVariants.{Raw, BeginExpr, EndExpr, BeginBlock, EndBlock, Comma}
use Rattle.upon_types.specs.Path.{LoopVars, item, key_value}
use Rattle.upon_types.specs.Expression.{Expression}
use Rattle.upon_types.specs.BlockKinds.{Block, if_block, Opening, if_tag, opened_kind, block_word, end_word, may_have_else, may_have_else_if}
use Rattle.upon_types.specs.Tree.{Statement, raw, inline_expr, include, block, Statements, no_statements, statement_then, Else, no_else, otherwise}
use Rattle.upon_language_spec.specs.Cut.{Lexeme}
use Rattle.upon_language_spec.specs.Tokens.{from_to}
use Rattle.upon_language_spec.specs.Grammar.{BeginsBlock, IsWordTag, IsCondition, IsElseIfTag, AreLoopVars, IsHead, IsOpeningTag, AreGlobals, IsStatement, AreStatements, IsBlockEnd, IsElseIf, IsIfAfterElse}
use Rattle.upon_language_spec.proofs.BlockKinds.{HeadPart, value_part, names_part, Head, last_part, part_then, head_of, IsHeadPart, AreHeadParts, head_of_parts}
use Rattle.upon_language_spec.proofs.Computation.ReadTokens.{Left, then_read, when, or_read, both_read, read_when, one_read, first_span, same_span, one_span, read_by, read_at, goes_read, by_read, at_read, read_keyword, keyword_read, read_name, read_text, name_read, text_read}
use Rattle.upon_language_spec.proofs.Computation.ReadExpressions.{read_expression, expression_read}

-- tags
abbrev pub read_begins : List ℕ → List ℕ → List Lexeme → Left
read_begins s word before = then_read (read_by BeginBlock before) (read_keyword s word)

abbrev pub read_word_tag : List ℕ → List ℕ → List Lexeme → Left
read_word_tag s word before = then_read (read_begins s word before) (read_by EndBlock)

abbrev pub read_condition : List ℕ → Bool → Expression → List Lexeme → Left
read_condition s true e before = then_read (read_keyword s (codes "not") before) (read_expression s e)
read_condition s false e before = read_expression s e before

abbrev pub read_else_if_tag : List ℕ → Bool → Expression → List Lexeme → Left
read_else_if_tag s negated e before = then_read (then_read (then_read (read_begins s (codes "else") before) (read_keyword s (codes "if"))) (read_condition s negated e)) (read_by EndBlock)

abbrev pub read_loop_names : List ℕ → LoopVars → List Lexeme → Left
read_loop_names s (item name) before = read_name s name before
read_loop_names s (key_value key value span) before = when (same_span span (from_to key.span value.span)) (then_read (then_read (read_name s key before) (read_by Comma)) (read_name s value))

abbrev pub read_part : List ℕ → HeadPart → List Lexeme → Left
read_part s (value_part negated e) before = read_condition s negated e before
read_part s (names_part names) before = read_loop_names s names before

abbrev pub read_parts : List ℕ → Head → List Lexeme → Left
read_parts s (last_part part) before = read_part s part before
read_parts s (part_then part word head) before = then_read (then_read (read_part s part before) (read_keyword s word)) (read_parts s head)

abbrev pub read_head : List ℕ → Opening → Expression → List Lexeme → Left
read_head s tag e before = read_parts s (head_of tag e) before

abbrev pub read_opening : List ℕ → Opening → Expression → List Lexeme → Left
read_opening s tag e before = then_read (then_read (read_begins s (block_word (opened_kind tag)) before) (read_head s tag e)) (read_by EndBlock)

abbrev pub read_context : List ℕ → Option Expression → List Lexeme → Left
read_context s None before = Some before
read_context s (Some e) before = then_read (read_keyword s (codes "with") before) (read_expression s e)

begins_read : (s word : List ℕ) (before rest : List Lexeme) → read_begins s word before ≡ Some rest → BeginsBlock s word before rest
begins_read s word before rest h = let a = both_read (read_by BeginBlock before) (read_keyword s word) rest h in (a.0, by_read BeginBlock before a.0 a.1, keyword_read s word a.0 rest a.2)

pub word_tag_read : (s word : List ℕ) (before rest : List Lexeme) → read_word_tag s word before ≡ Some rest → IsWordTag s word before rest
word_tag_read s word before rest h = let a = both_read (read_begins s word before) (read_by EndBlock) rest h in (a.0, begins_read s word before a.0 a.1, by_read EndBlock a.0 rest a.2)

condition_read : (s : List ℕ) (negated : Bool) (e : Expression) (before rest : List Lexeme) → read_condition s negated e before ≡ Some rest → IsCondition s negated e before rest
condition_read s true e before rest h = let a = both_read (read_keyword s (codes "not") before) (read_expression s e) rest h in (a.0, keyword_read s (codes "not") before a.0 a.1, expression_read s e a.0 rest a.2)
condition_read s false e before rest h = expression_read s e before rest h

else_if_tag_read : (s : List ℕ) (negated : Bool) (e : Expression) (before rest : List Lexeme) → read_else_if_tag s negated e before ≡ Some rest → IsElseIfTag s negated e before rest
else_if_tag_read s negated e before rest h =
    let c = both_read (then_read (then_read (read_begins s (codes "else") before) (read_keyword s (codes "if"))) (read_condition s negated e)) (read_by EndBlock) rest h in
    let b = both_read (then_read (read_begins s (codes "else") before) (read_keyword s (codes "if"))) (read_condition s negated e) c.0 c.1 in
    let a = both_read (read_begins s (codes "else") before) (read_keyword s (codes "if")) b.0 b.1 in
    (a.0, b.0, c.0, begins_read s (codes "else") before a.0 a.1, keyword_read s (codes "if") a.0 b.0 a.2, condition_read s negated e b.0 c.0 b.2, by_read EndBlock c.0 rest c.2)

loop_names_read : (s : List ℕ) (names : LoopVars) (before rest : List Lexeme) → read_loop_names s names before ≡ Some rest → AreLoopVars s names before rest
loop_names_read s (item name) before rest h = name_read s name before rest h
loop_names_read s (key_value key value span) before rest h =
    let c = read_when (same_span span (from_to key.span value.span)) (then_read (then_read (read_name s key before) (read_by Comma)) (read_name s value)) rest h in
    let b = both_read (then_read (read_name s key before) (read_by Comma)) (read_name s value) rest c.1 in
    let a = both_read (read_name s key before) (read_by Comma) b.0 b.1 in
    (a.0, b.0, name_read s key before a.0 a.1, by_read Comma a.0 b.0 a.2, name_read s value b.0 rest b.2, one_span _ _ c.0)

part_read : (s : List ℕ) (part : HeadPart) (before rest : List Lexeme) → read_part s part before ≡ Some rest → IsHeadPart s part before rest
part_read s (value_part negated e) before rest h = condition_read s negated e before rest h
part_read s (names_part names) before rest h = loop_names_read s names before rest h

parts_read : (s : List ℕ) (head : Head) (before rest : List Lexeme) → read_parts s head before ≡ Some rest → AreHeadParts s head before rest
parts_read s (last_part part) before rest h = part_read s part before rest h
parts_read s (part_then part word head) before rest h =
    let b = both_read (then_read (read_part s part before) (read_keyword s word)) (read_parts s head) rest h in
    let a = both_read (read_part s part before) (read_keyword s word) b.0 b.1 in
    (a.0, b.0, part_read s part before a.0 a.1, keyword_read s word a.0 b.0 a.2, parts_read s head b.0 rest b.2)

head_read : (s : List ℕ) (tag : Opening) (e : Expression) (before rest : List Lexeme) → read_head s tag e before ≡ Some rest → IsHead s tag e before rest
head_read s tag e before rest h = head_of_parts s tag e before rest (parts_read s (head_of tag e) before rest h)

opening_read : (s : List ℕ) (tag : Opening) (e : Expression) (before rest : List Lexeme) → read_opening s tag e before ≡ Some rest → IsOpeningTag s tag e before rest
opening_read s tag e before rest h =
    let b = both_read (then_read (read_begins s (block_word (opened_kind tag)) before) (read_head s tag e)) (read_by EndBlock) rest h in
    let a = both_read (read_begins s (block_word (opened_kind tag)) before) (read_head s tag e) b.0 b.1 in
    (a.0, b.0, begins_read s (block_word (opened_kind tag)) before a.0 a.1, head_read s tag e a.0 b.0 a.2, by_read EndBlock b.0 rest b.2)

context_read : (s : List ℕ) (context : Option Expression) (before rest : List Lexeme) → read_context s context before ≡ Some rest → AreGlobals s context before rest
context_read s None before rest h = cc
context_read s (Some e) before rest h = let a = both_read (read_keyword s (codes "with") before) (read_expression s e) rest h in (a.0, keyword_read s (codes "with") before a.0 a.1, expression_read s e a.0 rest a.2)

-- statements
abbrev pub read_end_expr : Span → Span → List Lexeme → Left
read_end_expr span begin after = when (same_span span (from_to begin (first_span after))) (read_by EndExpr after)

abbrev mutual
  pub read_statement : List ℕ → Statement → List Lexeme → Left
  read_statement s (raw span) before = read_at Raw span before
  read_statement s (inline_expr e span) before = then_read (then_read (read_by BeginExpr before) (read_expression s e)) (read_end_expr span (first_span before))
  read_statement s (include name context) before = then_read (then_read (then_read (read_begins s (codes "include") before) (read_text s name)) (read_context s context)) (read_by EndBlock)
  read_statement s (block tag e body other) before = then_read (then_read (read_opening s tag e before) (read_statements s body)) (read_block_end s (opened_kind tag) other)

  pub read_statements : List ℕ → Statements → List Lexeme → Left
  read_statements s no_statements before = Some before
  read_statements s (statement_then t ts) before = then_read (read_statement s t before) (read_statements s ts)

  pub read_block_end : List ℕ → Block → Else → List Lexeme → Left
  read_block_end s kind no_else before = read_word_tag s (end_word kind) before
  read_block_end s kind (otherwise body) before = or_read
      (when (may_have_else kind) (then_read (then_read (read_word_tag s (codes "else") before) (read_statements s body)) (read_word_tag s (end_word kind))))
      (when (may_have_else_if kind) (read_else_if s body before))

  pub read_else_if : List ℕ → Statements → List Lexeme → Left
  read_else_if s no_statements before = None
  read_else_if s (statement_then t no_statements) before = read_if_after_else s t before
  read_else_if s (statement_then t (statement_then u ts)) before = None

  pub read_if_after_else : List ℕ → Statement → List Lexeme → Left
  read_if_after_else s (block (if_tag negated) e body other) before = then_read (then_read (read_else_if_tag s negated e before) (read_statements s body)) (read_block_end s if_block other)
  read_if_after_else s _ before = None

mutual
  statement_read : (s : List ℕ) (t : Statement) (before rest : List Lexeme) → read_statement s t before ≡ Some rest → IsStatement s t before rest
  statement_read s (raw span) before rest h = at_read Raw span before rest h
  statement_read s (inline_expr e span) before rest h =
      let b = both_read (then_read (read_by BeginExpr before) (read_expression s e)) (read_end_expr span (first_span before)) rest h in
      let a = both_read (read_by BeginExpr before) (read_expression s e) b.0 b.1 in
      let c = read_when (same_span span (from_to (first_span before) (first_span b.0))) (read_by EndExpr b.0) rest b.2 in
      (first_span before, first_span b.0, a.0, b.0, goes_read BeginExpr before a.0 a.1, expression_read s e a.0 b.0 a.2, goes_read EndExpr b.0 rest c.1, one_span _ _ c.0)
  statement_read s (include name context) before rest h =
      let c = both_read (then_read (then_read (read_begins s (codes "include") before) (read_text s name)) (read_context s context)) (read_by EndBlock) rest h in
      let b = both_read (then_read (read_begins s (codes "include") before) (read_text s name)) (read_context s context) c.0 c.1 in
      let a = both_read (read_begins s (codes "include") before) (read_text s name) b.0 b.1 in
      (a.0, b.0, c.0, begins_read s (codes "include") before a.0 a.1, text_read s name a.0 b.0 a.2, context_read s context b.0 c.0 b.2, by_read EndBlock c.0 rest c.2)
  statement_read s (block tag e body other) before rest h =
      let b = both_read (then_read (read_opening s tag e before) (read_statements s body)) (read_block_end s (opened_kind tag) other) rest h in
      let a = both_read (read_opening s tag e before) (read_statements s body) b.0 b.1 in
      (a.0, b.0, opening_read s tag e before a.0 a.1, statements_read s body a.0 b.0 a.2, block_end_read s (opened_kind tag) other b.0 rest b.2)

  pub statements_read : (s : List ℕ) (ts : Statements) (before rest : List Lexeme) → read_statements s ts before ≡ Some rest → AreStatements s ts before rest
  statements_read s no_statements before rest h = cc
  statements_read s (statement_then t ts) before rest h = let a = both_read (read_statement s t before) (read_statements s ts) rest h in (a.0, statement_read s t before a.0 a.1, statements_read s ts a.0 rest a.2)

  block_end_read : (s : List ℕ) (kind : Block) (other : Else) (before rest : List Lexeme) → read_block_end s kind other before ≡ Some rest → IsBlockEnd s kind other before rest
  block_end_read s kind no_else before rest h = word_tag_read s (end_word kind) before rest h
  block_end_read s kind (otherwise body) before rest h =
      let tagged : Left = then_read (then_read (read_word_tag s (codes "else") before) (read_statements s body)) (read_word_tag s (end_word kind)) in
      elim (one_read (when (may_have_else kind) tagged) (when (may_have_else_if kind) (read_else_if s body before)) rest h) as (λ o. IsBlockEnd s kind (otherwise body) before rest) [
        | inl k ↦
            let c = read_when (may_have_else kind) tagged rest k in
            let b = both_read (then_read (read_word_tag s (codes "else") before) (read_statements s body)) (read_word_tag s (end_word kind)) rest c.1 in
            let a = both_read (read_word_tag s (codes "else") before) (read_statements s body) b.0 b.1 in
            inl (a.0, b.0, c.0, word_tag_read s (codes "else") before a.0 a.1, statements_read s body a.0 b.0 a.2, word_tag_read s (end_word kind) b.0 rest b.2)
        | inr k ↦ let c = read_when (may_have_else_if kind) (read_else_if s body before) rest k in inr (c.0, else_if_read s body before rest c.1)
      ]

  else_if_read : (s : List ℕ) (ts : Statements) (before rest : List Lexeme) → read_else_if s ts before ≡ Some rest → IsElseIf s ts before rest
  else_if_read s no_statements before rest h = absurd cc
  else_if_read s (statement_then t no_statements) before rest h = if_after_else_read s t before rest h
  else_if_read s (statement_then t (statement_then u ts)) before rest h = absurd cc

  if_after_else_read : (s : List ℕ) (t : Statement) (before rest : List Lexeme) → read_if_after_else s t before ≡ Some rest → IsIfAfterElse s t before rest
  if_after_else_read s (block (if_tag negated) e body other) before rest h =
      let b = both_read (then_read (read_else_if_tag s negated e before) (read_statements s body)) (read_block_end s if_block other) rest h in
      let a = both_read (read_else_if_tag s negated e before) (read_statements s body) b.0 b.1 in
      (a.0, b.0, else_if_tag_read s negated e before a.0 a.1, statements_read s body a.0 b.0 a.2, block_end_read s if_block other b.0 rest b.2)
  if_after_else_read s _ before rest h = absurd cc

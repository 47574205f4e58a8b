-- Statements end with what is left of them, and where a begin is among their tokens, a whole tag is there.
use Rattle.std.proofs.Common.{◌≡◌, inl, inr, ℕ, ◌<◌, ◌≤◌, List, ◌∷◌, ◌++◌, length, true, false, sym, ap, ◌∙◌, arith, length-append}
use Rattle.upon_types.specs.declared.types.token.Token.TheVariants.{Raw}
use Rattle.upon_types.specs.BlockKinds.{Block, if_block, if_tag, opened_kind}
use Rattle.upon_types.specs.Tree.{Statement, raw, inline_expr, include, block, Statements, no_statements, statement_then, Else, no_else, otherwise}
use Rattle.upon_language_spec.specs.Cut.{Lexeme}
use Rattle.upon_language_spec.specs.Grammar.{IsStatement, AreStatements, IsBlockEnd, IsElseIf, IsIfAfterElse}
use Rattle.upon_language_spec.specs.Tags.{IsTag, an_inline, an_include, an_opening, an_else_if, an_else, an_end}
use Rattle.upon_language_spec.proofs.NoTreeWithFault.Tails.{Tail, tail_same, tail_one, tail_then, longer_or_tail, only_one}
use Rattle.upon_language_spec.proofs.NoTreeWithFault.TagShapes.{begins_a_tag, tag_shape}
use Rattle.upon_language_spec.proofs.NoTreeWithFault.TagsWithin.{shape_tail, Found, in_tag_found}

module _ (s : List ℕ) where
  tag_tail : (ts rest : List Lexeme) → IsTag s ts rest → Tail ts rest
  tag_tail ts rest tag = shape_tail s ts rest (tag_shape s ts rest tag)

  mutual
    pub statement_tail : (t : Statement) (ts rest : List Lexeme) → IsStatement s t ts rest → Tail ts rest
    statement_tail (raw span) ts rest g = tail_one ts rest g.lexeme g.is
    statement_tail (inline_expr e span) ts rest g = tag_tail ts rest (an_inline e span g)
    statement_tail (include name context) ts rest g = tag_tail ts rest (an_include name context g)
    statement_tail (block opening e body other) ts rest g = tail_then ts g.0 rest (tag_tail ts g.0 (an_opening opening e g.2)) (tail_then g.0 g.1 rest (statements_tail body g.0 g.1 g.3) (end_tail (opened_kind opening) other g.1 rest g.4))

    pub statements_tail : (tree : Statements) (ts rest : List Lexeme) → AreStatements s tree ts rest → Tail ts rest
    statements_tail no_statements ts rest g = tail_same ts rest g
    statements_tail (statement_then t tree) ts rest g = tail_then ts g.0 rest (statement_tail t ts g.0 g.1) (statements_tail tree g.0 rest g.2)

    end_tail : (kind : Block) (other : Else) (ts rest : List Lexeme) → IsBlockEnd s kind other ts rest → Tail ts rest
    end_tail kind no_else ts rest g = tag_tail ts rest (an_end kind g)
    end_tail kind (otherwise body) ts rest (inl g) = tail_then ts g.0 rest (tag_tail ts g.0 (an_else g.3)) (tail_then g.0 g.1 rest (statements_tail body g.0 g.1 g.4) (tag_tail g.1 rest (an_end kind g.5)))
    end_tail kind (otherwise body) ts rest (inr g) = else_if_tail body ts rest g.1

    else_if_tail : (body : Statements) (ts rest : List Lexeme) → IsElseIf s body ts rest → Tail ts rest
    else_if_tail no_statements ts rest g = absurd g
    else_if_tail (statement_then t no_statements) ts rest g = if_tail t ts rest g
    else_if_tail (statement_then t (statement_then u us)) ts rest g = absurd g

    if_tail : (t : Statement) (ts rest : List Lexeme) → IsIfAfterElse s t ts rest → Tail ts rest
    if_tail (block (if_tag negated) e body other) ts rest g = tail_then ts g.0 rest (tag_tail ts g.0 (an_else_if negated e g.2)) (tail_then g.0 g.1 rest (statements_tail body g.0 g.1 g.3) (end_tail if_block other g.1 rest g.4))
    if_tail t ts rest g = absurd g

module _ (s : List ℕ) (b : Lexeme) (more : List Lexeme) (begins : begins_a_tag b.token ≡ true) where
  -- a whole tag is at the begin, if it is before the rest
  abbrev Finds : List Lexeme → List Lexeme → Type 0
  Finds ts rest = Tail ts (b ∷ more) → length rest < length (b ∷ more) → Found s (b ∷ more) rest

  shorter : (ts rest : List Lexeme) → Tail ts rest → length rest ≤ length ts
  shorter ts rest t = let long : length ts ≡ length (t.0 ++ rest) = ap length t.1 in omega (arith, long, length-append t.0 rest)

  farther : (mid rest : List Lexeme) → Tail mid rest → Found s (b ∷ more) mid → Found s (b ∷ more) rest
  farther mid rest t f = (f.0, f.1, omega (arith, shorter mid rest t, f.2))

  -- in the first part or in the second
  found_then : (ts mid rest : List Lexeme) → Tail ts mid → Tail mid rest → Finds ts mid → Finds mid rest → Finds ts rest
  found_then ts mid rest a c first second t l = elim (longer_or_tail ts (b ∷ more) mid t a) [
    | inl longer ↦ farther mid rest c (first t longer)
    | inr tail ↦ second tail l
  ]

  found_tag : (ts rest : List Lexeme) → IsTag s ts rest → Finds ts rest
  found_tag ts rest tag t l = in_tag_found s ts rest rest tag (omega arith) b more t l begins

  found_nothing : (ts rest : List Lexeme) → ts ≡ rest → Finds ts rest
  found_nothing ts rest e t l = let long : length ts ≡ length rest = ap length e in absurd (omega (arith, l, long, shorter ts (b ∷ more) t))

  raw_begins_nothing : (l : Lexeme) → l.token ≡ Raw → begins_a_tag l.token ≡ true → ⊥
  raw_begins_nothing l e h = let no_begin : begins_a_tag l.token ≡ false = ap begins_a_tag e in cc

  found_raw : (ts rest : List Lexeme) (l : Lexeme) → ts ≡ l ∷ rest → l.token ≡ Raw → Finds ts rest
  found_raw ts rest l e is_raw t h = let same : l ≡ b = only_one b more t.0 rest l (sym e ∙ t.1) h in absurd (raw_begins_nothing l is_raw (ap (λ (x : Lexeme). begins_a_tag x.token) same ∙ begins))

  mutual
    found_statement : (t : Statement) (ts rest : List Lexeme) → IsStatement s t ts rest → Finds ts rest
    found_statement (raw span) ts rest g = found_raw ts rest g.lexeme g.is g.of_token
    found_statement (inline_expr e span) ts rest g = found_tag ts rest (an_inline e span g)
    found_statement (include name context) ts rest g = found_tag ts rest (an_include name context g)
    found_statement (block opening e body other) ts rest g =
        let tag = an_opening opening e g.2 in
        let behind = statements_tail s body g.0 g.1 g.3 in
        let last = end_tail s (opened_kind opening) other g.1 rest g.4 in
        found_then ts g.0 rest (tag_tail s ts g.0 tag) (tail_then g.0 g.1 rest behind last) (found_tag ts g.0 tag) (found_then g.0 g.1 rest behind last (found_statements body g.0 g.1 g.3) (found_end (opened_kind opening) other g.1 rest g.4))

    pub found_statements : (tree : Statements) (ts rest : List Lexeme) → AreStatements s tree ts rest → Finds ts rest
    found_statements no_statements ts rest g = found_nothing ts rest g
    found_statements (statement_then t tree) ts rest g = found_then ts g.0 rest (statement_tail s t ts g.0 g.1) (statements_tail s tree g.0 rest g.2) (found_statement t ts g.0 g.1) (found_statements tree g.0 rest g.2)

    found_end : (kind : Block) (other : Else) (ts rest : List Lexeme) → IsBlockEnd s kind other ts rest → Finds ts rest
    found_end kind no_else ts rest g = found_tag ts rest (an_end kind g)
    found_end kind (otherwise body) ts rest (inl g) =
        let tag = an_else g.3 in
        let behind = statements_tail s body g.0 g.1 g.4 in
        let last = an_end kind g.5 in
        found_then ts g.0 rest (tag_tail s ts g.0 tag) (tail_then g.0 g.1 rest behind (tag_tail s g.1 rest last)) (found_tag ts g.0 tag) (found_then g.0 g.1 rest behind (tag_tail s g.1 rest last) (found_statements body g.0 g.1 g.4) (found_tag g.1 rest last))
    found_end kind (otherwise body) ts rest (inr g) = found_else_if body ts rest g.1

    found_else_if : (body : Statements) (ts rest : List Lexeme) → IsElseIf s body ts rest → Finds ts rest
    found_else_if no_statements ts rest g = absurd g
    found_else_if (statement_then t no_statements) ts rest g = found_if t ts rest g
    found_else_if (statement_then t (statement_then u us)) ts rest g = absurd g

    found_if : (t : Statement) (ts rest : List Lexeme) → IsIfAfterElse s t ts rest → Finds ts rest
    found_if (block (if_tag negated) e body other) ts rest g =
        let tag = an_else_if negated e g.2 in
        let behind = statements_tail s body g.0 g.1 g.3 in
        let last = end_tail s if_block other g.1 rest g.4 in
        found_then ts g.0 rest (tag_tail s ts g.0 tag) (tail_then g.0 g.1 rest behind last) (found_tag ts g.0 tag) (found_then g.0 g.1 rest behind last (found_statements body g.0 g.1 g.3) (found_end if_block other g.1 rest g.4))
    found_if t ts rest g = absurd g

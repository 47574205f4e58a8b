-- No begin of a comment is among the tokens of statements.
use Rattle.std.proofs.Common.{◌≡◌, inl, inr, ℕ, ◌<◌, List, [], ◌∷◌, ◌++◌, length, true, false, Option, None, refl, sym, ap, ◌∙◌, subst, arith, length-append}
use Rattle.upon_types.specs.declared.types.token.Token.{Token}
use Rattle.upon_types.specs.declared.types.token.Token.TheVariants.{Raw, BeginComment}
use Rattle.upon_types.specs.BlockKinds.{Block, if_block, if_tag, opened_kind}
use Rattle.upon_types.specs.Tree.{Statement, raw, inline_expr, include, block, Statements, no_statements, statement_then, Else, no_else, otherwise}
use Rattle.upon_language_spec.specs.Cut.{Lexeme}
use Rattle.upon_language_spec.specs.Reading.{brackets_from}
use Rattle.upon_language_spec.specs.Tokens.{begins_comment}
use Rattle.upon_language_spec.specs.Grammar.{IsStatement, AreStatements, IsBlockEnd, IsElseIf, IsIfAfterElse}
use Rattle.upon_language_spec.specs.Tags.{IsTag, an_inline, an_include, an_opening, an_else_if, an_else, an_end}
use Rattle.upon_language_spec.proofs.NoTreeWithFault.Fine.{TokenFine, Fine}
use Rattle.upon_language_spec.specs.InTags.{last_or, ends_a_tag}
use Rattle.upon_language_spec.proofs.NoTreeWithFault.FineAt.{fine_at}
use Rattle.upon_language_spec.proofs.NoTreeWithFault.Tails.{Tail, longer_or_tail, among_or_behind, rows_rest, only_one}
use Rattle.upon_language_spec.proofs.NoTreeWithFault.TagShapes.{begins_a_tag, TagShape, tag_shape}
use Rattle.upon_language_spec.proofs.NoTreeWithFault.TagsWithin.{shape_tail}
use Rattle.upon_language_spec.proofs.NoTreeWithFault.TagsInStatements.{statement_tail, statements_tail}

comment_not_fine : (s : List ℕ) (stack : List Lexeme) (before : Option Lexeme) (t : Token) (l : Lexeme) → t ≡ BeginComment → TokenFine s stack before t l → ⊥
comment_not_fine s stack before t l e f = let F : Token → Type 0 = λ x. TokenFine s stack before x l in subst F e f

begins_no_tag : (t : Token) → t ≡ BeginComment → begins_a_tag t ≡ true → ⊥
begins_no_tag t e h = let no_begin : begins_a_tag t ≡ false = ap begins_a_tag e in cc

ends_no_tag : (t : Token) → t ≡ BeginComment → ends_a_tag t ≡ true → ⊥
ends_no_tag t e h = let no_end : ends_a_tag t ≡ false = ap ends_a_tag e in cc

is_not_raw : (t : Token) → t ≡ BeginComment → t ≡ Raw → ⊥
is_not_raw t e h = let comment : begins_comment t ≡ true = ap begins_comment e in let none : begins_comment t ≡ false = ap begins_comment h in cc

first_is : {a f : Lexeme} {xs ys : List Lexeme} → (a ∷ xs) ≡ (f ∷ ys) → a ≡ f
first_is e = cc

module _ (s : List ℕ) (b : Lexeme) (more : List Lexeme) (comment : b.token ≡ BeginComment) where
  -- it is not before the rest
  abbrev Lacks : List Lexeme → List Lexeme → Type 0
  Lacks ts rest = Tail ts (b ∷ more) → length rest < length (b ∷ more) → ⊥

  lacks_then : (ts mid rest : List Lexeme) → Tail ts mid → Lacks ts mid → Lacks mid rest → Lacks ts rest
  lacks_then ts mid rest a first second t l = elim (longer_or_tail ts (b ∷ more) mid t a) [
    | inl longer ↦ first t longer
    | inr tail ↦ second tail l
  ]

  -- after a tag's first token, up to its end
  not_inside : (ts rest : List Lexeme) (g : TagShape s ts rest) (fs : List Lexeme) → g.inside ≡ fs ++ (b ∷ more) → length rest < length (b ∷ more) → ⊥
  not_inside ts rest g fs e l =
      let p = g.fine [] in
      let row : (p.0 ++ (g.end ∷ rest)) ≡ (fs ++ (b ∷ more)) = ap (λ x. p.0 ++ x) (sym g.stops) ∙ sym p.1 ∙ e in
      elim (among_or_behind p.0 g.end rest fs b more row l) [
        | inl found ↦
            let fine = p.2 None refl in
            let F : List Lexeme → Type 0 = λ x. Fine s [] None x [] fine.0 in
            comment_not_fine s (brackets_from [] fs) (last_or None fs) b.token b comment (fine_at s [] [] None fine.0 fs b found.0 (subst F found.1 fine.2))
        | inr same ↦ ends_no_tag b.token comment (sym (ap (λ (x : Lexeme). ends_a_tag x.token) same) ∙ g.closes)
      ]

  lacks_shape : (ts rest : List Lexeme) → TagShape s ts rest → Lacks ts rest
  lacks_shape ts rest g (fs, e) l = first_or_inner fs e
    where
      first_or_inner : (fs : List Lexeme) → ts ≡ fs ++ (b ∷ more) → ⊥
      first_or_inner [] e = let rows : (g.begin ∷ g.inside) ≡ (b ∷ more) = sym g.starts ∙ e in begins_no_tag b.token comment (sym (ap (λ (x : Lexeme). begins_a_tag x.token) (first_is rows)) ∙ g.opens)
      first_or_inner (f ∷ fs) e = let rows : (g.begin ∷ g.inside) ≡ (f ∷ (fs ++ (b ∷ more))) = sym g.starts ∙ e in not_inside ts rest g fs (rows_rest rows) l

  lacks_tag : (ts rest : List Lexeme) → IsTag s ts rest → Lacks ts rest
  lacks_tag ts rest tag = lacks_shape ts rest (tag_shape s ts rest tag)

  -- a tag and what follows it
  tag_then : (ts mid rest : List Lexeme) → IsTag s ts mid → Lacks mid rest → Lacks ts rest
  tag_then ts mid rest tag = lacks_then ts mid rest (shape_tail s ts mid (tag_shape s ts mid tag)) (lacks_tag ts mid tag)

  lacks_nothing : (ts rest : List Lexeme) → ts ≡ rest → Lacks ts rest
  lacks_nothing ts rest e t l =
      let long : length ts ≡ length rest = ap length e in
      let whole : length ts ≡ length (t.0 ++ (b ∷ more)) = ap length t.1 in
      omega (arith, l, long, whole, length-append t.0 (b ∷ more))

  lacks_raw : (ts rest : List Lexeme) (l : Lexeme) → ts ≡ l ∷ rest → l.token ≡ Raw → Lacks ts rest
  lacks_raw ts rest l e is_raw t h =
      let same : l ≡ b = only_one b more t.0 rest l (sym e ∙ t.1) h in
      is_not_raw b.token comment (sym (ap (λ (x : Lexeme). x.token) same) ∙ is_raw)

  mutual
    lacks_statement : (t : Statement) (ts rest : List Lexeme) → IsStatement s t ts rest → Lacks ts rest
    lacks_statement (raw span) ts rest g = lacks_raw ts rest g.lexeme g.is g.of_token
    lacks_statement (inline_expr e span) ts rest g = lacks_tag ts rest (an_inline e span g)
    lacks_statement (include name context) ts rest g = lacks_tag ts rest (an_include name context g)
    lacks_statement (block opening e body other) ts rest g = tag_then ts g.0 rest (an_opening opening e g.2) (lacks_then g.0 g.1 rest (statements_tail s body g.0 g.1 g.3) (lacks_statements body g.0 g.1 g.3) (lacks_end (opened_kind opening) other g.1 rest g.4))

    lacks_statements : (tree : Statements) (ts rest : List Lexeme) → AreStatements s tree ts rest → Lacks ts rest
    lacks_statements no_statements ts rest g = lacks_nothing ts rest g
    lacks_statements (statement_then t tree) ts rest g = lacks_then ts g.0 rest (statement_tail s t ts g.0 g.1) (lacks_statement t ts g.0 g.1) (lacks_statements tree g.0 rest g.2)

    lacks_end : (kind : Block) (other : Else) (ts rest : List Lexeme) → IsBlockEnd s kind other ts rest → Lacks ts rest
    lacks_end kind no_else ts rest g = lacks_tag ts rest (an_end kind g)
    lacks_end kind (otherwise body) ts rest (inl g) = tag_then ts g.0 rest (an_else g.3) (lacks_then g.0 g.1 rest (statements_tail s body g.0 g.1 g.4) (lacks_statements body g.0 g.1 g.4) (lacks_tag g.1 rest (an_end kind g.5)))
    lacks_end kind (otherwise body) ts rest (inr g) = lacks_else_if body ts rest g.1

    lacks_else_if : (body : Statements) (ts rest : List Lexeme) → IsElseIf s body ts rest → Lacks ts rest
    lacks_else_if no_statements ts rest g = absurd g
    lacks_else_if (statement_then t no_statements) ts rest g = lacks_if t ts rest g
    lacks_else_if (statement_then t (statement_then u us)) ts rest g = absurd g

    lacks_if : (t : Statement) (ts rest : List Lexeme) → IsIfAfterElse s t ts rest → Lacks ts rest
    lacks_if (block (if_tag negated) e body other) ts rest g = tag_then ts g.0 rest (an_else_if negated e g.2) (lacks_then g.0 g.1 rest (statements_tail s body g.0 g.1 g.3) (lacks_statements body g.0 g.1 g.3) (lacks_end if_block other g.1 rest g.4))
    lacks_if t ts rest g = absurd g

pub no_comment : (s : List ℕ) (b : Lexeme) (more : List Lexeme) → b.token ≡ BeginComment → (tree : Statements) (ts rest : List Lexeme) → AreStatements s tree ts rest → Tail ts (b ∷ more) → length rest < length (b ∷ more) → ⊥
no_comment s b more comment tree ts rest g t l = lacks_statements s b more comment tree ts rest g t l

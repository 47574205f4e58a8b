-- A text with a literal that denotes nothing, or with a comment that ends where it has just begun, has no tree.
use Rattle.std.proofs.Common.{◌≡◌, inr, ℕ, suc, ◌+◌, ◌^◌, ◌<◌, ◌≤◌, nat_lt, List, [], ◌∷◌, ◌++◌, length, Bool, true, false, Option, Some, None, refl, ap, ◌∙◌, subst, arith, if◌then◌else◌}
use Rattle.upon_types.specs.declared.types.Span.{Span}
use Rattle.upon_types.specs.declared.types.token.Token.{Token}
use Rattle.upon_types.specs.declared.types.token.Token.TheVariants.{BeginExpr, BeginBlock, BeginComment, EndComment, Minus, Index, Number, String}
use Rattle.upon_types.specs.Span.{slice}
use Rattle.upon_types.specs.Tree.{Statements}
use Rattle.upon_language_spec.specs.Search.{DelimiterText, HasTexts}
use Rattle.upon_language_spec.specs.Cut.{Lexeme, outside, in_comment, Cut}
use Rattle.upon_language_spec.specs.Shown.{shown_lexemes}
use Rattle.upon_language_spec.specs.Tokens.{significant}
use Rattle.upon_language_spec.specs.Literal.{digits_in}
use Rattle.upon_language_spec.specs.LiteralFaults.{is_float, base_text, number_fault, index_value}
use Rattle.upon_language_spec.specs.Reading.{last_of}
use Rattle.upon_language_spec.specs.Grammar.{AreStatements, HasTree}
use Rattle.upon_language_spec.specs.Faults.{span_of, tag_tokens, lexeme_at}
use Rattle.upon_language_spec.specs.LaterFaults.{Report, minus_before, start_from, number_report_of, number_report, WrongNumber, WrongIndex, WrongEscape, EmptyComment}
use Rattle.upon_language_spec.specs.InTags.{last_or}
use Rattle.upon_language_spec.proofs.NoTreeWithFault.TagShapes.{begins_a_tag}
use Rattle.upon_language_spec.proofs.NoTreeWithFault.NextToken.{Next, next_fine, the_next}
use Rattle.upon_language_spec.proofs.OneCut.Token.{one_step, step_ends}
use Rattle.upon_language_spec.proofs.OneCut.Cut.{cut_on}
use Rattle.upon_language_spec.proofs.NoTreeWithFault.SplitInTag.{InComment, last_is, split_in_comment}
use Rattle.upon_language_spec.proofs.NoTreeWithFault.NoCommentToken.{no_comment}
use Rattle.upon_language_spec.proofs.NoTreeWithFault.LiteralValue.{integer_no_fault, index_no_fault, text_no_fault}

abbrev is_minus : Token → Bool
is_minus Minus = true
is_minus t = false

begin_is_no_minus : (t : Token) → begins_a_tag t ≡ true → is_minus t ≡ false
begin_is_no_minus BeginExpr h = refl
begin_is_no_minus BeginBlock h = refl
begin_is_no_minus _ h = absurd cc

-- a minus is before a literal after the tag's begin
same_minus : (begin : Lexeme) (inner : List Lexeme) → begins_a_tag begin.token ≡ true → minus_before (last_of (begin ∷ inner)) ≡ minus_before (last_or None inner)
same_minus begin [] h = begin_is_no_minus begin.token h
same_minus begin (k ∷ inner) h = ap minus_before (last_is k inner)

if_not : (test : Bool) (x y : Option Report) → test ≡ false → (if test then x else y) ≡ y
if_not true x y e = absurd cc
if_not false x y e = refl

not_told : (text : List ℕ) (before : Option Lexeme) (p n : ℕ) → is_float text ≡ false → number_fault (minus_before before) text ≡ None → number_report text before p n ≡ None
not_told text before p n float none = if_not (is_float text) _ _ float ∙ ap (λ x. number_report_of (base_text text) (start_from before p) p n x) none

pub nothing_is_told : (o : Option Report) (t : Report) → o ≡ None → o ≡ Some t → ⊥
nothing_is_told o t e h = cc

some_length : (back : List Lexeme) → 0 < suc (length back)
some_length back = omega arith

comment_is_not_outside : in_comment ≡ outside → ⊥
comment_is_not_outside e = cc

module _ (delimiters : List DelimiterText) (s : List ℕ) (texts : HasTexts delimiters) (p : ℕ) (place : Span) (reason : List ℕ) (tree : Statements) (has : HasTree delimiters s tree) where
  no_number : (ls : List Lexeme) (to : ℕ) (next : Next s ls (lexeme_at Number false p to)) (t : Report) → number_report (slice s (span_of p to)) (last_of (tag_tokens ls)) p to ≡ Some t → ⊥
  no_number ls to next t told =
      let h = next_fine s ls (lexeme_at Number false p to) next refl in
      let text = slice s (span_of p to) in
      let fine = integer_no_fault (minus_before (last_or None next.inner)) text h.0 h.1 in
      let same : minus_before (last_of (tag_tokens ls)) ≡ minus_before (last_or None next.inner) = ap (λ x. minus_before (last_of x)) next.tag ∙ same_minus next.begin next.inner next.plain_begin in
      let none : number_fault (minus_before (last_of (tag_tokens ls))) text ≡ None = ap (λ x. number_fault x text) same ∙ fine.1 in
      nothing_is_told (number_report text (last_of (tag_tokens ls)) p to) t (not_told text (last_of (tag_tokens ls)) p to fine.0 none) told

  pub no_tree_wrong_number : WrongNumber delimiters s p place reason → ⊥
  no_tree_wrong_number f = no_number f.lexemes f.to (the_next delimiters s texts f.sort f.in_path p f.lexemes f.reads tree has Number false f.to (inr (refl, f.occurs)) refl refl refl) (record { span = place; reason = reason }) f.words

  no_index : (ls : List Lexeme) (to : ℕ) → Next s ls (lexeme_at Index false p to) → nat_lt (index_value (digits_in 10 (slice s (span_of p to)))) (2 ^ 64) ≡ false → ⊥
  no_index ls to next large =
      let h = next_fine s ls (lexeme_at Index false p to) next refl in
      let small = index_no_fault (slice s (span_of p to)) h.0 h.1 in
      cc

  pub no_tree_wrong_index : WrongIndex delimiters s p place reason → ⊥
  no_tree_wrong_index f = no_index f.lexemes f.to (the_next delimiters s texts f.sort f.in_path p f.lexemes f.reads tree has Index false f.to (inr (refl, f.occurs)) refl refl refl) f.large

  pub no_tree_wrong_escape : WrongEscape delimiters s p place reason → ⊥
  no_tree_wrong_escape f =
      let text = next_fine s f.lexemes (lexeme_at String false p f.to) (the_next delimiters s texts f.sort f.in_path p f.lexemes f.reads tree has String false f.to (inr (refl, f.occurs)) refl refl refl) refl in
      let none = text_no_fault s p f.to text.0 f.string text.1 (p + 1) in
      let some = f.escape in
      cc

  begun_empty : (front back : List Lexeme) (begin : Lexeme) (read : List Lexeme) → begin.token ≡ BeginComment → read ≡ front ++ (begin ∷ back) → AreStatements s tree read [] → ⊥
  begun_empty front back begin read t e are = no_comment s begin back t tree read [] are (front, e) (some_length back)

  pub no_tree_empty_comment : EmptyComment delimiters s p place reason → ⊥
  no_tree_empty_comment f =
      let ends : (p < f.to) × (f.to ≤ length s) = step_ends delimiters s in_comment EndComment f.hyphen p f.to texts (inr (refl, f.ends)) in
      let on = cut_on delimiters s texts outside in_comment outside 0 p (length s) f.lexemes has.lexemes (omega (arith, ends.0, ends.1)) f.reads has.cut in
      behind on.0 on.1 on.2
    where
      behind : (rest : List Lexeme) → has.lexemes ≡ f.lexemes ++ rest → Cut delimiters s in_comment p rest outside (length s) → ⊥
      behind [] e cut = comment_is_not_outside cut.0
      behind (x ∷ r) e cut =
          let same = one_step delimiters s in_comment x.token EndComment x.hyphen f.hyphen p x.span.n f.to cut.1 (inr (refl, f.ends)) in
          let F : List Lexeme → Type 0 = λ y. AreStatements s tree (significant (shown_lexemes s false y)) [] in
          let g : InComment (significant (shown_lexemes s false (f.lexemes ++ (x ∷ r)))) = split_in_comment delimiters s p f.lexemes x r f.reads f.opening same.0 in
          begun_empty g.front g.back g.begin (significant (shown_lexemes s false (f.lexemes ++ (x ∷ r)))) g.of_comment g.tokens (subst F e has.reads)

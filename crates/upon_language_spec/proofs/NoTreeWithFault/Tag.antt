-- A text with a token that a tag does not want, or with brackets that do not match, has no tree.
use Rattle.std.proofs.Common.{◌≡◌, ◌⊎◌, inl, inr, ℕ, List, [], ◌∷◌, Bool, true, false, Option, None, refl, ap, ◌∙◌, subst}
use Rattle.upon_types.specs.declared.types.Span.{Span}
use Rattle.upon_types.specs.declared.types.token.Token.{Token}
use Rattle.upon_types.specs.declared.types.token.Token.TheVariants.{Raw, BeginComment, CloseBracket, CloseBrace, CloseParen}
use Rattle.upon_types.specs.Tree.{Statements}
use Rattle.upon_language_spec.specs.Search.{DelimiterText, HasTexts}
use Rattle.upon_language_spec.specs.Delimiters.{Sort, expression, block, comment, end_token}
use Rattle.upon_language_spec.specs.Cut.{Lexeme, in_tag, IsToken}
use Rattle.upon_language_spec.specs.Inside.{Extent}
use Rattle.upon_language_spec.specs.Tokens.{is_space, begins_comment, is_raw}
use Rattle.upon_language_spec.specs.Reading.{open_brackets, brackets_from}
use Rattle.upon_language_spec.specs.Grammar.{HasTree}
use Rattle.upon_language_spec.specs.Faults.{UnclosedBracket, UnexpectedClose, UnexpectedToken, closes_first, is_close, lexeme_at}
use Rattle.upon_language_spec.proofs.NoTreeWithFault.Fine.{TokenFine, Fine}
use Rattle.upon_language_spec.specs.InTags.{last_or, ends_a_tag}
use Rattle.upon_language_spec.proofs.NoTreeWithFault.FineAt.{fine_stack}
use Rattle.upon_language_spec.proofs.NoTreeWithFault.InsideTag.{end_is_no_space, end_is_no_comment}
use Rattle.upon_language_spec.proofs.NoTreeWithFault.NextToken.{Next, next_fine, the_next}

raw_by_extent : (s : List ℕ) (t : Token) (m n : ℕ) → Extent s t m n → is_raw t ≡ false
raw_by_extent s Raw m n h = absurd h
raw_by_extent s t m n h = refl

comment_by_extent : (s : List ℕ) (t : Token) (m n : ℕ) → Extent s t m n → begins_comment t ≡ false
comment_by_extent s BeginComment m n h = absurd h
comment_by_extent s t m n h = refl

pub end_is_no_raw : (sort : Sort) → is_raw (end_token sort) ≡ false
end_is_no_raw expression = refl
end_is_no_raw block = refl
end_is_no_raw comment = refl

end_is_not_fine : (s : List ℕ) (stack : List Lexeme) (before : Option Lexeme) (sort : Sort) (l : Lexeme) → TokenFine s stack before (end_token sort) l → ⊥
end_is_not_fine s stack before expression l h = h
end_is_not_fine s stack before block l h = h
end_is_not_fine s stack before comment l h = h

close_is_no_end : (t : Token) → is_close t ≡ true → ends_a_tag t ≡ false
close_is_no_end CloseBracket h = refl
close_is_no_end CloseBrace h = refl
close_is_no_end CloseParen h = refl
close_is_no_end _ h = absurd cc

close_is_no_space : (t : Token) → is_close t ≡ true → is_space t ≡ false
close_is_no_space CloseBracket h = refl
close_is_no_space CloseBrace h = refl
close_is_no_space CloseParen h = refl
close_is_no_space _ h = absurd cc

close_fits : (s : List ℕ) (stack : List Lexeme) (before : Option Lexeme) (t : Token) (l : Lexeme) → is_close t ≡ true → TokenFine s stack before t l → closes_first stack t ≡ true
close_fits s stack before CloseBracket l h f = f
close_fits s stack before CloseBrace l h f = f
close_fits s stack before CloseParen l h f = f
close_fits s stack before _ l h f = absurd cc

module _ (delimiters : List DelimiterText) (s : List ℕ) (texts : HasTexts delimiters) (p : ℕ) (place : Span) (reason : List ℕ) (tree : Statements) (has : HasTree delimiters s tree) where
  step_is_no_raw : (sort : Sort) (path : Bool) (t : Token) (hyphen : Bool) (to : ℕ) → IsToken delimiters s (in_tag sort path) t hyphen p to → (is_raw t ≡ false) × (begins_comment t ≡ false)
  step_is_no_raw sort path t hyphen to (inl e) = (ap is_raw e.0 ∙ end_is_no_raw sort, ap begins_comment e.0 ∙ end_is_no_comment sort)
  step_is_no_raw sort path t hyphen to (inr x) = (raw_by_extent s t p to x.1.extent, comment_by_extent s t p to x.1.extent)

  pub no_tree_unexpected_token : UnexpectedToken delimiters s p place reason → ⊥
  no_tree_unexpected_token f =
      let kinds = step_is_no_raw f.sort f.in_path f.t f.hyphen f.to f.occurs in
      let next = the_next delimiters s texts f.sort f.in_path p f.lexemes f.reads tree has f.t f.hyphen f.to f.occurs kinds.0 f.counts kinds.1 in
      f.stuck next.begins

  some_brackets : (ls : List Lexeme) (x : Lexeme) (bracket : Lexeme) (others : List Lexeme) (sort : Sort) → x.token ≡ end_token sort → open_brackets ls ≡ bracket ∷ others → Next s ls x → ⊥
  some_brackets ls x bracket others sort e stack next = by_last next.last
    where
      by_last : ((ends_a_tag x.token ≡ true) × ((before' : Option Lexeme) × Fine s [] None next.inner [] before')) ⊎ TokenFine s (brackets_from [] next.inner) (last_or None next.inner) x.token x → ⊥
      by_last (inl h) = let none : brackets_from [] next.inner ≡ [] = fine_stack s [] [] None h.1.0 next.inner h.1.1 in let some = next.brackets in cc
      by_last (inr h) = let F : Token → Type 0 = λ y. TokenFine s (brackets_from [] next.inner) (last_or None next.inner) y x in end_is_not_fine s (brackets_from [] next.inner) (last_or None next.inner) sort x (subst F e h)

  pub no_tree_unclosed_bracket : UnclosedBracket delimiters s p place reason → ⊥
  no_tree_unclosed_bracket f =
      let t = end_token f.sort in
      let next = the_next delimiters s texts f.sort f.in_path p f.lexemes f.reads tree has t f.hyphen f.to (inl (refl, f.ends)) (end_is_no_raw f.sort) (end_is_no_space f.sort) (end_is_no_comment f.sort) in
      some_brackets f.lexemes (lexeme_at t f.hyphen p f.to) f.bracket f.others f.sort refl f.brackets next

  unmatched : (ls : List Lexeme) (x : Lexeme) → is_close x.token ≡ true → closes_first (open_brackets ls) x.token ≡ false → Next s ls x → ⊥
  unmatched ls x close none next =
      let fine = next_fine s ls x next (close_is_no_end x.token close) in
      let matched = close_fits s (brackets_from [] next.inner) (last_or None next.inner) x.token x close fine in
      let same : closes_first (open_brackets ls) x.token ≡ closes_first (brackets_from [] next.inner) x.token = ap (λ y. closes_first y x.token) next.brackets in
      cc

  pub no_tree_unexpected_close : UnexpectedClose delimiters s p place reason → ⊥
  no_tree_unexpected_close f =
      let kinds = step_is_no_raw f.sort f.in_path f.t false f.to (inr (refl, f.occurs)) in
      let next = the_next delimiters s texts f.sort f.in_path p f.lexemes f.reads tree has f.t false f.to (inr (refl, f.occurs)) kinds.0 (close_is_no_space f.t f.close) kinds.1 in
      unmatched f.lexemes (lexeme_at f.t false p f.to) f.close f.unmatched next

-- The tokens of a UTF-8 text lie in it, on character boundaries, and their texts joined are the text.
use Rattle.std.proofs.Common.{◌≡◌, ℕ, ◌+◌, ◌-◌, List, [], ◌∷◌, ◌++◌, length, drop, arith, sym, ap, ◌∙◌, subst, append_assoc}
use Rattle.std.specs.List.{concat}
use Rattle.std.specs.Str.{IsUtf8, IsCharBoundary}
use Rattle.std.proofs.lemmas.List.{take-append-drop, drop-drop, drop_all, append-nil}
use Rattle.std.proofs.lemmas.Str.{IsCharBoundary-start}
use Rattle.upon_types.specs.Span.{LiesIn, slice}
use Rattle.upon_language_spec.specs.Search.{DelimiterText, HasTexts}
use Rattle.upon_language_spec.specs.Cut.{Lexeme, Mode, outside, mode_after, Cut}
use Rattle.upon_language_spec.specs.LiesIn.{HasUtf8, LexemesLieIn, parts}
use Rattle.upon_language_spec.proofs.OneCut.Token.{step_ends}
use Rattle.upon_language_spec.proofs.SpansLieIn.Token.{step_lies_in}

module _ (delimiters : List DelimiterText) (s : List ℕ) (texts : HasTexts delimiters) where
  pub cut_lies_from : (mode mode' : Mode) (m n : ℕ) (ls : List Lexeme) → HasUtf8 delimiters → IsUtf8 s → IsCharBoundary s m → Cut delimiters s mode m ls mode' n → LexemesLieIn s ls × IsCharBoundary s n
  cut_lies_from mode mode' m n [] utf8 text start h = (tt, subst (IsCharBoundary s) h.1 start)
  cut_lies_from mode mode' m n (l ∷ ls) utf8 text start h =
      let lies = step_lies_in delimiters s texts utf8 text mode l.token l.hyphen m l.span.n start h.1 in
      let others = cut_lies_from (mode_after mode l.token) mode' l.span.n n ls utf8 text lies.end h.2 in
      let F : ℕ → Type 0 = λ x. LiesIn s (record { m = x; n = l.span.n }) in
      ((subst F (sym h.0) lies, others.0), others.1)

  parts_from : (mode mode' : Mode) (m n : ℕ) (ls : List Lexeme) → Cut delimiters s mode m ls mode' n → drop m s ≡ concat (parts s ls) ++ drop n s
  parts_from mode mode' m n [] h = ap (λ k. drop k s) h.1
  parts_from mode mode' m n (l ∷ ls) h =
      let step = step_ends delimiters s mode l.token l.hyphen m l.span.n texts h.1 in
      let behind : m + (l.span.n - m) ≡ l.span.n = omega (arith, step.0) in
      let first = slice s (record { m = m; n = l.span.n }) in
      let same : first ≡ slice s l.span = ap (λ k. slice s (record { m = k; n = l.span.n })) (sym h.0) in
      sym (take-append-drop (l.span.n - m) (drop m s))
      ∙ ap (λ x. first ++ x) (drop-drop (l.span.n - m) m s ∙ ap (λ k. drop k s) behind ∙ parts_from (mode_after mode l.token) mode' l.span.n n ls h.2)
      ∙ ap (λ x. x ++ (concat (parts s ls) ++ drop n s)) same
      ∙ sym (append_assoc (slice s l.span) (concat (parts s ls)) (drop n s))

pub cut_lies_in : (delimiters : List DelimiterText) (s : List ℕ) (ls : List Lexeme) → HasTexts delimiters → HasUtf8 delimiters → IsUtf8 s → Cut delimiters s outside 0 ls outside (length s) → LexemesLieIn s ls
cut_lies_in delimiters s ls texts utf8 text h = (cut_lies_from delimiters s texts outside outside 0 (length s) ls utf8 text (IsCharBoundary-start s text) h).0

-- nothing of the text is lost
pub joined_parts : (delimiters : List DelimiterText) (s : List ℕ) (ls : List Lexeme) → HasTexts delimiters → Cut delimiters s outside 0 ls outside (length s) → concat (parts s ls) ≡ s
joined_parts delimiters s ls texts h =
    sym (parts_from delimiters s texts outside outside 0 (length s) ls h ∙ ap (λ x. concat (parts s ls) ++ x) (drop_all (length s) s (omega arith)) ∙ append-nil (concat (parts s ls)))

-- nor of what was read, with the rest after it
pub joined_so_far : (delimiters : List DelimiterText) (s : List ℕ) (ls : List Lexeme) (mode : Mode) (p : ℕ) → HasTexts delimiters → Cut delimiters s outside 0 ls mode p → concat (parts s ls) ++ drop p s ≡ s
joined_so_far delimiters s ls mode p texts h = sym (parts_from delimiters s texts outside mode 0 p ls h)

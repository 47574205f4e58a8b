-- A walk through a text, token by token, on which all is clear.
use Rattle.std.proofs.Common.{◌≡◌, inr, ℕ, ◌<◌, ◌≤◌, List, [], ◌∷◌, ◌++◌, length, Bool, true, false, refl, sym, ap, ◌∙◌, subst, arith}
use Rattle.upon_types.specs.declared.types.Span.{Span}
use Rattle.upon_types.specs.declared.types.token.Token.{Token}
use Rattle.upon_types.specs.declared.types.token.Token.TheVariants.{EndComment}
use Rattle.upon_language_spec.specs.Search.{DelimiterText, HasTexts}
use Rattle.upon_language_spec.specs.Delimiters.{block, comment}
use Rattle.upon_language_spec.specs.Cut.{Lexeme, Mode, outside, in_tag, in_comment, IsToken, Ends, mode_after}
use Rattle.upon_language_spec.specs.Reading.{ReadsTo, last_of}
use Rattle.upon_language_spec.specs.Faults.{lexeme_at}
use Rattle.upon_language_spec.specs.FirstFault.{SyntaxFault, unexpected_end, unclosed_tag, unclosed_bracket, unexpected_close, unexpected_character, undelimited_string, unexpected_token, unexpected_eof, empty_comment, comment_eof, wrong_number, wrong_index, wrong_escape, unexpected_block, unclosed_block, fault_rank, Holds, IsFirstFault}
use Rattle.upon_language_spec.specs.CutFaults.{ends_cutting, ClearTo}
use Rattle.upon_language_spec.specs.LaterFaults.{is_comment_begin}
use Rattle.upon_language_spec.proofs.OneCut.Cut.{one_cut_to, cut_more}
use Rattle.upon_language_spec.proofs.OneCut.Token.{step_ends}
use Rattle.upon_language_spec.specs.LexStep.{BracketsFit}
use Rattle.upon_language_spec.specs.Lexing.{brackets_in}
use Rattle.upon_language_spec.proofs.Offsets.Clear as lexer
use Rattle.upon_language_spec.proofs.Offsets.Clear.{fault_within}
use Rattle.upon_language_spec.specs.Stages.{Stage}
use Rattle.upon_language_spec.proofs.Totality.FittingClears.{NoLaterFault, clear_behind}
use Rattle.upon_language_spec.proofs.Totality.First.{left_at, has_read, first_at}

module _ (delimiters : List DelimiterText) (s : List ℕ) where
  pub start : Stage delimiters s [] outside 0
  start = record { reads = (refl, refl); before = λ row q place reason below h. absurd (omega (arith, below)) }

module _ (delimiters : List DelimiterText) (s : List ℕ) (texts : HasTexts delimiters) (ls : List Lexeme) (mode : Mode) (p : ℕ) (stage : Stage delimiters s ls mode p) where
  pub clear_so_far : ClearTo delimiters s p
  clear_so_far q below row place reason e f = stage.before row q place reason below f

  alike : (ks : List Lexeme) (other : Mode) → ReadsTo delimiters s ks other p → (ks ≡ ls) × (other ≡ mode)
  alike ks other h = one_cut_to delimiters s other mode p ks ls texts h stage.reads

  -- one token further
  module _ (t : Token) (hyphen : Bool) (to : ℕ) (step : IsToken delimiters s mode t hyphen p to) where
    pub clear_to : BracketsFit (brackets_in mode ls) t → ClearTo delimiters s to
    clear_to fits = lexer.clear_behind delimiters s texts (left_at ls mode p) ls (has_read delimiters s texts ls mode p stage.reads clear_so_far) (lexeme_at t hyphen p to) (record { from = refl; step = step; fits = fits })

    pub on : BracketsFit (brackets_in mode ls) t → NoLaterFault delimiters s p → Stage delimiters s (ls ++ lexeme_at t hyphen p to ∷ []) (mode_after mode t) to
    on fits none = record {
      reads = cut_more delimiters s outside mode 0 p ls (lexeme_at t hyphen p to) stage.reads refl step;
      before = clear_behind delimiters s texts mode p to ls t hyphen stage.reads step (clear_to fits) none stage.before;
    }

  -- outside tags only the text's end with a block open is a later fault
  outside_only : mode ≡ outside → (row : SyntaxFault) (place : Span) (reason : List ℕ) → ends_cutting row ≡ false → Holds delimiters s row p place reason → row ≡ unclosed_block
  outside_only e unexpected_end place reason c h = absurd cc
  outside_only e unclosed_tag place reason c h = absurd cc
  outside_only e unclosed_bracket place reason c h = absurd cc
  outside_only e unexpected_close place reason c h = absurd cc
  outside_only e unexpected_character place reason c h = absurd cc
  outside_only e undelimited_string place reason c h = absurd cc
  outside_only e unexpected_token place reason c h = let m = (alike h.lexemes (in_tag h.sort h.in_path) h.reads).1 ∙ e in absurd cc
  outside_only e unexpected_eof place reason c h = let m = (alike h.lexemes (in_tag h.sort h.in_path) h.reads).1 ∙ e in absurd cc
  outside_only e empty_comment place reason c h = let m = (alike h.lexemes (in_comment) h.reads).1 ∙ e in absurd cc
  outside_only e comment_eof place reason c h = let m = (alike h.lexemes (in_comment) h.reads).1 ∙ e in absurd cc
  outside_only e wrong_number place reason c h = let m = (alike h.lexemes (in_tag h.sort h.in_path) h.reads).1 ∙ e in absurd cc
  outside_only e wrong_index place reason c h = let m = (alike h.lexemes (in_tag h.sort h.in_path) h.reads).1 ∙ e in absurd cc
  outside_only e wrong_escape place reason c h = let m = (alike h.lexemes (in_tag h.sort h.in_path) h.reads).1 ∙ e in absurd cc
  outside_only e unexpected_block place reason c h = let m = (alike h.lexemes (in_tag block h.in_path) h.reads).1 ∙ e in absurd cc
  outside_only e unclosed_block place reason c h = refl

  pub outside_is_clear : mode ≡ outside → p < length s → NoLaterFault delimiters s p
  outside_is_clear e l row place reason c h = let F : SyntaxFault → Type 0 = λ r. Holds delimiters s r p place reason in at_end (subst F (outside_only e row place reason c h) h)
    where
      at_end : Holds delimiters s unclosed_block p place reason → ⊥
      at_end f = omega (arith, l, f.eof)

  -- the text's end with a block open is the first fault, where all is clear
  pub unclosed_is_first : mode ≡ outside → p ≡ length s → (place : Span) (reason : List ℕ) → Holds delimiters s unclosed_block p place reason → IsFirstFault delimiters s place reason
  unclosed_is_first e end place reason h = first_at delimiters s p place reason stage.before unclosed_block h by_row
    where
      by_row : (other : SyntaxFault) (its_place : Span) (its_reason : List ℕ) → Holds delimiters s other p its_place its_reason → 14 ≤ fault_rank other
      by_row other its_place its_reason f = by_kind (ends_cutting other) refl
        where
          by_kind : (b : Bool) → ends_cutting other ≡ b → 14 ≤ fault_rank other
          by_kind true c = absurd (omega (arith, end, fault_within delimiters s texts other p its_place its_reason c f))
          by_kind false c = let F : SyntaxFault → Type 0 = λ r. 14 ≤ fault_rank r in subst F (sym (outside_only e other its_place its_reason c f)) (omega arith)

  -- in a comment
  pub comment_is_clear : mode ≡ in_comment → p < length s → (is_comment_begin (last_of ls) ≡ true → (hyphen : Bool) (to : ℕ) → Ends delimiters s comment hyphen p to → ⊥) → NoLaterFault delimiters s p
  comment_is_clear e l begun unexpected_end place reason c h = absurd cc
  comment_is_clear e l begun unclosed_tag place reason c h = absurd cc
  comment_is_clear e l begun unclosed_bracket place reason c h = absurd cc
  comment_is_clear e l begun unexpected_close place reason c h = absurd cc
  comment_is_clear e l begun unexpected_character place reason c h = absurd cc
  comment_is_clear e l begun undelimited_string place reason c h = absurd cc
  comment_is_clear e l begun unexpected_token place reason c h = let m = (alike h.lexemes (in_tag h.sort h.in_path) h.reads).1 ∙ e in absurd cc
  comment_is_clear e l begun unexpected_eof place reason c h = let m = (alike h.lexemes (in_tag h.sort h.in_path) h.reads).1 ∙ e in absurd cc
  comment_is_clear e l begun empty_comment place reason c h = begun (ap (λ x. is_comment_begin (last_of x)) (sym (alike h.lexemes in_comment h.reads).0) ∙ h.opening) h.hyphen h.to h.ends
  comment_is_clear e l begun comment_eof place reason c h = omega (arith, l, h.eof)
  comment_is_clear e l begun wrong_number place reason c h = let m = (alike h.lexemes (in_tag h.sort h.in_path) h.reads).1 ∙ e in absurd cc
  comment_is_clear e l begun wrong_index place reason c h = let m = (alike h.lexemes (in_tag h.sort h.in_path) h.reads).1 ∙ e in absurd cc
  comment_is_clear e l begun wrong_escape place reason c h = let m = (alike h.lexemes (in_tag h.sort h.in_path) h.reads).1 ∙ e in absurd cc
  comment_is_clear e l begun unexpected_block place reason c h = let m = (alike h.lexemes (in_tag block h.in_path) h.reads).1 ∙ e in absurd cc
  comment_is_clear e l begun unclosed_block place reason c h = let m = (alike h.lexemes (outside) h.reads).1 ∙ e in absurd cc

  comment_least : mode ≡ in_comment → ((row : SyntaxFault) (place : Span) (reason : List ℕ) → ends_cutting row ≡ true → Holds delimiters s row p place reason → ⊥) → (other : SyntaxFault) (place : Span) (reason : List ℕ) → Holds delimiters s other p place reason → 8 ≤ fault_rank other
  comment_least e none unexpected_end place reason h = absurd (none unexpected_end place reason refl h)
  comment_least e none unclosed_tag place reason h = absurd (none unclosed_tag place reason refl h)
  comment_least e none unclosed_bracket place reason h = absurd (none unclosed_bracket place reason refl h)
  comment_least e none unexpected_close place reason h = absurd (none unexpected_close place reason refl h)
  comment_least e none unexpected_character place reason h = absurd (none unexpected_character place reason refl h)
  comment_least e none undelimited_string place reason h = absurd (none undelimited_string place reason refl h)
  comment_least e none unexpected_token place reason h = let m = (alike h.lexemes (in_tag h.sort h.in_path) h.reads).1 ∙ e in absurd cc
  comment_least e none unexpected_eof place reason h = let m = (alike h.lexemes (in_tag h.sort h.in_path) h.reads).1 ∙ e in absurd cc
  comment_least e none empty_comment place reason h = omega arith
  comment_least e none comment_eof place reason h = omega arith
  comment_least e none wrong_number place reason h = omega arith
  comment_least e none wrong_index place reason h = omega arith
  comment_least e none wrong_escape place reason h = omega arith
  comment_least e none unexpected_block place reason h = omega arith
  comment_least e none unclosed_block place reason h = omega arith

  -- an empty comment
  pub empty_is_first : mode ≡ in_comment → (place : Span) (reason : List ℕ) → Holds delimiters s empty_comment p place reason → IsFirstFault delimiters s place reason
  empty_is_first e place reason h = first_at delimiters s p place reason stage.before empty_comment h (comment_least e none)
    where
      none : (row : SyntaxFault) (its_place : Span) (its_reason : List ℕ) → ends_cutting row ≡ true → Holds delimiters s row p its_place its_reason → ⊥
      none row its_place its_reason c f =
          let same : Ends delimiters s comment h.hyphen p h.to = h.ends in
          clear_to EndComment h.hyphen h.to (let F : Mode → Type 0 = λ m. IsToken delimiters s m EndComment h.hyphen p h.to in subst F (sym e) (inr (refl, same))) (let F : Mode → Type 0 = λ m. brackets_in m ls ≡ [] in subst F (sym e) refl) p (let ends = step_ends delimiters s in_comment EndComment h.hyphen p h.to texts (inr (refl, same)) in ends.0) row its_place its_reason c f

  -- the text ends in a comment
  pub comment_eof_is_first : mode ≡ in_comment → p ≡ length s → (place : Span) (reason : List ℕ) → Holds delimiters s comment_eof p place reason → IsFirstFault delimiters s place reason
  comment_eof_is_first e end place reason h = first_at delimiters s p place reason stage.before comment_eof h by_row
    where
      by_row : (other : SyntaxFault) (its_place : Span) (its_reason : List ℕ) → Holds delimiters s other p its_place its_reason → 9 ≤ fault_rank other
      by_row unexpected_end its_place its_reason f = absurd (omega (arith, end, fault_within delimiters s texts unexpected_end p its_place its_reason refl f))
      by_row unclosed_tag its_place its_reason f = absurd (omega (arith, end, fault_within delimiters s texts unclosed_tag p its_place its_reason refl f))
      by_row unclosed_bracket its_place its_reason f = absurd (omega (arith, end, fault_within delimiters s texts unclosed_bracket p its_place its_reason refl f))
      by_row unexpected_close its_place its_reason f = absurd (omega (arith, end, fault_within delimiters s texts unexpected_close p its_place its_reason refl f))
      by_row unexpected_character its_place its_reason f = absurd (omega (arith, end, fault_within delimiters s texts unexpected_character p its_place its_reason refl f))
      by_row undelimited_string its_place its_reason f = absurd (omega (arith, end, fault_within delimiters s texts undelimited_string p its_place its_reason refl f))
      by_row unexpected_token its_place its_reason f = let m = (alike f.lexemes (in_tag f.sort f.in_path) f.reads).1 ∙ e in absurd cc
      by_row unexpected_eof its_place its_reason f = let m = (alike f.lexemes (in_tag f.sort f.in_path) f.reads).1 ∙ e in absurd cc
      by_row empty_comment its_place its_reason f = let ends = step_ends delimiters s in_comment EndComment f.hyphen p f.to texts (inr (refl, f.ends)) in absurd (omega (arith, end, ends.0, ends.1))
      by_row comment_eof its_place its_reason f = omega arith
      by_row wrong_number its_place its_reason f = omega arith
      by_row wrong_index its_place its_reason f = omega arith
      by_row wrong_escape its_place its_reason f = omega arith
      by_row unexpected_block its_place its_reason f = omega arith
      by_row unclosed_block its_place its_reason f = omega arith

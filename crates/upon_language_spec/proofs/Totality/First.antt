-- The first fault where all before a point is clear: no row of a lesser rank holds there.
use Rattle.std.proofs.Common.{◌≡◌, inl, inr, ℕ, ◌<◌, ◌≤◌, List, length, Bool, true, false, refl, sym, subst, arith}
use Rattle.std.proofs.lemmas.Bool.{cases_order}
use Rattle.upon_types.specs.declared.types.Span.{Span}
use Rattle.upon_types.specs.declared.types.token.Token.{Token}
use Rattle.upon_language_spec.specs.Search.{DelimiterText, HasTexts}
use Rattle.upon_language_spec.specs.Cut.{Lexeme, Mode, in_tag, IsToken}
use Rattle.upon_language_spec.specs.Reading.{ReadsTo, last_of}
use Rattle.upon_language_spec.specs.FirstFault.{SyntaxFault, unexpected_end, unclosed_tag, unclosed_bracket, unexpected_close, unexpected_character, undelimited_string, unexpected_token, unexpected_eof, empty_comment, comment_eof, wrong_number, wrong_index, wrong_escape, unexpected_block, unclosed_block, fault_rank, Holds, NotAfter, IsFirstFault}
use Rattle.upon_language_spec.specs.CutFaults.{ends_cutting, ClearTo, IsFirstCutFault}
use Rattle.upon_language_spec.proofs.OneCut.Token.{step_ends}
use Rattle.upon_language_spec.specs.Lexing.{LexerState, HasRead, begin_in, brackets_in, is_trimming_end}
use Rattle.upon_language_spec.proofs.Offsets.Clear.{fault_within}
use Rattle.upon_language_spec.proofs.OneFirstFault.CutFault.{first_cut}
use Rattle.upon_language_spec.specs.Stages.{AllClear}
use Rattle.upon_language_spec.proofs.Totality.FittingClears.{late}

early : (row : SyntaxFault) → ends_cutting row ≡ true → fault_rank row < 6
early unexpected_end e = omega arith
early unclosed_tag e = omega arith
early unclosed_bracket e = omega arith
early unexpected_close e = omega arith
early unexpected_character e = omega arith
early undelimited_string e = omega arith
early row e = absurd cc

module _ (delimiters : List DelimiterText) (s : List ℕ) (p : ℕ) (place : Span) (reason : List ℕ) (before : AllClear delimiters s p) where
  -- a fault is the first where all before it is clear, and each other one at its point is of no lesser rank
  pub first_at : (row : SyntaxFault) → Holds delimiters s row p place reason → ((other : SyntaxFault) (its_place : Span) (its_reason : List ℕ) → Holds delimiters s other p its_place its_reason → fault_rank row ≤ fault_rank other) → IsFirstFault delimiters s place reason
  first_at row holds least = record {
    fault = row;
    point = p;
    holds = holds;
    first = λ other q its_place its_reason h. elim (cases_order p q) [
      | inl same ↦ let F : ℕ → Type 0 = λ x. Holds delimiters s other x its_place its_reason in inr (same, least other its_place its_reason (subst F (sym same) h))
      | inr apart ↦ elim apart [ inl less ↦ inl less | inr more ↦ absurd (before other q its_place its_reason more h) ]
    ];
  }

  least_of : (row : SyntaxFault) (other : SyntaxFault) (b : Bool) (q : ℕ) → ends_cutting row ≡ true → ends_cutting other ≡ b → (b ≡ true → NotAfter row q other q) → fault_rank row ≤ fault_rank other
  least_of row other true q ends e f = elim (f refl) [
    | inl less ↦ absurd (omega (arith, less))
    | inr same ↦ same.1
  ]
  least_of row other false q ends e f = omega (arith, early row ends, late other e)

  -- the first fault that ends the cutting is the first of all, where all before it is clear
  pub cut_is_first : IsFirstCutFault delimiters s p place reason → IsFirstFault delimiters s place reason
  cut_is_first f = first_at f.fault f.holds (λ other its_place its_reason h. least_of f.fault other (ends_cutting other) p f.ends refl (λ e. f.first other p its_place its_reason e h))

-- what a lexer would know that has read these tokens
abbrev pub left_at : List Lexeme → Mode → ℕ → LexerState
left_at ls mode p = record { offset = p; mode = mode; begin = begin_in mode ls; brackets = brackets_in mode ls; trims = is_trimming_end (last_of ls); over = false }

module _ (delimiters : List DelimiterText) (s : List ℕ) (texts : HasTexts delimiters) where
  pub has_read : (ls : List Lexeme) (mode : Mode) (p : ℕ) → ReadsTo delimiters s ls mode p → ClearTo delimiters s p → HasRead delimiters s (left_at ls mode p) ls
  has_read ls mode p reads clear = record { reads = reads; clear = clear; begin = refl; brackets = refl; trims = refl; not_over = refl }

  clear_cut : (p : ℕ) → AllClear delimiters s p → ClearTo delimiters s p
  clear_cut p before q below row place reason e f = before row q place reason below f

  -- any fault that ends the cutting, after what is all clear, is the first of all
  pub cut_fault_is_first : (ls : List Lexeme) (mode : Mode) (p : ℕ) (row : SyntaxFault) (place : Span) (reason : List ℕ) → ReadsTo delimiters s ls mode p → AllClear delimiters s p → ends_cutting row ≡ true → Holds delimiters s row p place reason → IsFirstFault delimiters s place reason
  cut_fault_is_first ls mode p row place reason reads before ends holds = cut_is_first delimiters s p place reason before (first_cut delimiters s texts (left_at ls mode p) ls (has_read ls mode p reads (clear_cut p before)) row place reason ends holds)

  nothing_at_end : (mode : Mode) (p to : ℕ) (t : Token) (hyphen : Bool) → p ≡ length s → IsToken delimiters s mode t hyphen p to → ⊥
  nothing_at_end mode p to t hyphen e step = let ends = step_ends delimiters s mode t hyphen p to texts step in omega (arith, e, ends.0, ends.1)

  -- at the text's end no fault is of a lesser rank than that of the end itself
  pub end_least : (p : ℕ) → p ≡ length s → (other : SyntaxFault) (place : Span) (reason : List ℕ) → Holds delimiters s other p place reason → 7 ≤ fault_rank other
  end_least p e unexpected_end place reason h = absurd (omega (arith, e, fault_within delimiters s texts unexpected_end p place reason refl h))
  end_least p e unclosed_tag place reason h = absurd (omega (arith, e, fault_within delimiters s texts unclosed_tag p place reason refl h))
  end_least p e unclosed_bracket place reason h = absurd (omega (arith, e, fault_within delimiters s texts unclosed_bracket p place reason refl h))
  end_least p e unexpected_close place reason h = absurd (omega (arith, e, fault_within delimiters s texts unexpected_close p place reason refl h))
  end_least p e unexpected_character place reason h = absurd (omega (arith, e, fault_within delimiters s texts unexpected_character p place reason refl h))
  end_least p e undelimited_string place reason h = absurd (omega (arith, e, fault_within delimiters s texts undelimited_string p place reason refl h))
  end_least p e unexpected_token place reason h = absurd (nothing_at_end (in_tag h.sort h.in_path) p h.to h.t h.hyphen e h.occurs)
  end_least p e unexpected_eof place reason h = omega arith
  end_least p e empty_comment place reason h = omega arith
  end_least p e comment_eof place reason h = omega arith
  end_least p e wrong_number place reason h = omega arith
  end_least p e wrong_index place reason h = omega arith
  end_least p e wrong_escape place reason h = omega arith
  end_least p e unexpected_block place reason h = omega arith
  end_least p e unclosed_block place reason h = omega arith

  -- the text ends in a tag
  pub end_is_first : (p : ℕ) (place : Span) (reason : List ℕ) → p ≡ length s → AllClear delimiters s p → Holds delimiters s unexpected_eof p place reason → IsFirstFault delimiters s place reason
  end_is_first p place reason e before h = first_at delimiters s p place reason before unexpected_eof h (end_least p e)

-- Of the faults that end the cutting one row at most holds at a point, so the fault where a lexer is the first.
use Rattle.std.proofs.Common.{◌≡◌, ℕ, ◌≤◌, List, Bool, true, false, Some, None, inl, inr, refl, sym, ap, ◌∙◌, subst, arith, encode_utf8, lit<}
use Rattle.std.proofs.lemmas.Bool.{cases_order}
use Rattle.std.proofs.lemmas.Str.{encode_ascii}
use Rattle.upon_types.specs.declared.types.Span.{Span}
use Rattle.upon_language_spec.specs.Search.{DelimiterText, HasTexts, Occurs}
use Rattle.upon_language_spec.specs.Delimiters.{Sort}
use Rattle.upon_language_spec.specs.Cut.{Lexeme, Mode, in_tag}
use Rattle.upon_language_spec.specs.Inside.{token_kind}
use Rattle.upon_language_spec.proofs.OneCut.Delimiter.{not_bare}
use Rattle.upon_language_spec.proofs.OneCut.Run.{one_char}
use Rattle.upon_language_spec.proofs.OneCut.Cut.{one_cut_to}
use Rattle.upon_language_spec.specs.Reading.{ReadsTo}
use Rattle.upon_language_spec.specs.Faults.{UnexpectedEnd, UnclosedTag, UnclosedBracket, UnexpectedClose, UnexpectedCharacter, UndelimitedString, awaited_sort}
use Rattle.upon_language_spec.specs.FirstFault.{SyntaxFault, unexpected_end, unclosed_tag, unclosed_bracket, unexpected_close, unexpected_character, undelimited_string, fault_rank, Holds, NotAfter}
use Rattle.upon_language_spec.proofs.OneFirstFault.FirstFault.{one_fault, same_stand}
use Rattle.upon_language_spec.specs.CutFaults.{ends_cutting, IsFirstCutFault}
use Rattle.upon_language_spec.proofs.NoTreeWithFault.Cut.{one_sort, begin_is_no_end, no_step_at_character, no_step_at_quote}
use Rattle.upon_language_spec.specs.Lexing.{LexerState, HasRead}

module _ (delimiters : List DelimiterText) (s : List ℕ) (texts : HasTexts delimiters) (p : ℕ) (place other : Span) (reason words : List ℕ) where
  same_mode : (ls ks : List Lexeme) (mode mode' : Mode) → ReadsTo delimiters s ls mode p → ReadsTo delimiters s ks mode' p → mode ≡ mode'
  same_mode ls ks mode mode' a b = (one_cut_to delimiters s mode mode' p ls ks texts a b).1

  same_path : (sort sort' : Sort) (path path' : Bool) → in_tag sort path ≡ in_tag sort' path' → path ≡ path'
  same_path sort sort' path path' e = cc

  tag_then_end : UnclosedTag delimiters s p place reason → UnexpectedEnd delimiters s p other words → ⊥
  tag_then_end a b = begin_is_no_end delimiters s texts b.sort b.hyphen a.opening a.hyphen p b.to a.to b.ends a.begins

  bracket_then_end : UnclosedBracket delimiters s p place reason → UnexpectedEnd delimiters s p other words → ⊥
  bracket_then_end a b =
      let sorts = one_sort delimiters s texts a.sort b.sort a.hyphen b.hyphen p a.to b.to a.ends b.ends in
      let modes = same_mode b.lexemes a.lexemes b.mode (in_tag a.sort a.in_path) b.reads a.reads in
      b.unexpected (ap awaited_sort modes ∙ ap Some sorts)

  bracket_then_tag : UnclosedBracket delimiters s p place reason → UnclosedTag delimiters s p other words → ⊥
  bracket_then_tag a b = begin_is_no_end delimiters s texts a.sort a.hyphen b.opening b.hyphen p a.to b.to a.ends b.begins

  character_then_close : UnexpectedCharacter delimiters s p place reason → UnexpectedClose delimiters s p other words → ⊥
  character_then_close a b =
      let paths = same_path b.sort a.sort b.in_path a.in_path (same_mode b.lexemes a.lexemes (in_tag b.sort b.in_path) (in_tag a.sort a.in_path) b.reads a.reads) in
      no_step_at_character delimiters s texts b.sort a.in_path a.c p a.to a.bare a.occurs a.nothing b.t false b.to (inr (refl, rw paths at b.occurs))

  string_then_close : UndelimitedString delimiters s p place reason → UnexpectedClose delimiters s p other words → ⊥
  string_then_close a b = no_step_at_quote delimiters s texts b.sort b.in_path p a.bare a.quote a.no_string b.t false b.to (inr (refl, b.occurs))

  string_then_character : UndelimitedString delimiters s p place reason → UnexpectedCharacter delimiters s p other words → ⊥
  string_then_character a b =
      let quote : Occurs s p (encode_utf8 34) = subst (Occurs s p) (sym (encode_ascii 34 (lit< tt))) a.quote in
      let is : b.c ≡ 34 = one_char s p b.c 34 b.occurs quote in
      elim b.nothing [
        | inl none ↦ let nothing : token_kind b.in_path 34 ≡ None = subst (λ c. token_kind b.in_path c ≡ None) is none.0 in cc
        | inr question ↦ let same = sym is ∙ question.0 in omega (arith, same)
      ]

  -- a row that holds at the point is no later among the rows than any other that holds there
  in_order : (row later : SyntaxFault) → ends_cutting row ≡ true → ends_cutting later ≡ true → Holds delimiters s row p place reason → Holds delimiters s later p other words → fault_rank row ≤ fault_rank later
  in_order unexpected_end unexpected_end e g a b = omega arith
  in_order unexpected_end unclosed_tag e g a b = omega arith
  in_order unexpected_end unclosed_bracket e g a b = omega arith
  in_order unexpected_end unexpected_close e g a b = omega arith
  in_order unexpected_end unexpected_character e g a b = omega arith
  in_order unexpected_end undelimited_string e g a b = omega arith
  in_order unclosed_tag unexpected_end e g a b = absurd (tag_then_end a b)
  in_order unclosed_tag unclosed_tag e g a b = omega arith
  in_order unclosed_tag unclosed_bracket e g a b = omega arith
  in_order unclosed_tag unexpected_close e g a b = omega arith
  in_order unclosed_tag unexpected_character e g a b = omega arith
  in_order unclosed_tag undelimited_string e g a b = omega arith
  in_order unclosed_bracket unexpected_end e g a b = absurd (bracket_then_end a b)
  in_order unclosed_bracket unclosed_tag e g a b = absurd (bracket_then_tag a b)
  in_order unclosed_bracket unclosed_bracket e g a b = omega arith
  in_order unclosed_bracket unexpected_close e g a b = omega arith
  in_order unclosed_bracket unexpected_character e g a b = omega arith
  in_order unclosed_bracket undelimited_string e g a b = omega arith
  in_order unexpected_close unexpected_end e g a b = absurd (not_bare delimiters s b.ends.kind p b.to b.ends.occurs a.occurs.bare)
  in_order unexpected_close unclosed_tag e g a b = absurd (not_bare delimiters s b.begins.kind p b.to b.begins.occurs a.occurs.bare)
  in_order unexpected_close unclosed_bracket e g a b = absurd (not_bare delimiters s b.ends.kind p b.to b.ends.occurs a.occurs.bare)
  in_order unexpected_close unexpected_close e g a b = omega arith
  in_order unexpected_close unexpected_character e g a b = omega arith
  in_order unexpected_close undelimited_string e g a b = omega arith
  in_order unexpected_character unexpected_end e g a b = absurd (not_bare delimiters s b.ends.kind p b.to b.ends.occurs a.bare)
  in_order unexpected_character unclosed_tag e g a b = absurd (not_bare delimiters s b.begins.kind p b.to b.begins.occurs a.bare)
  in_order unexpected_character unclosed_bracket e g a b = absurd (not_bare delimiters s b.ends.kind p b.to b.ends.occurs a.bare)
  in_order unexpected_character unexpected_close e g a b = absurd (character_then_close a b)
  in_order unexpected_character unexpected_character e g a b = omega arith
  in_order unexpected_character undelimited_string e g a b = omega arith
  in_order undelimited_string unexpected_end e g a b = absurd (not_bare delimiters s b.ends.kind p b.to b.ends.occurs a.bare)
  in_order undelimited_string unclosed_tag e g a b = absurd (not_bare delimiters s b.begins.kind p b.to b.begins.occurs a.bare)
  in_order undelimited_string unclosed_bracket e g a b = absurd (not_bare delimiters s b.ends.kind p b.to b.ends.occurs a.bare)
  in_order undelimited_string unexpected_close e g a b = absurd (string_then_close a b)
  in_order undelimited_string unexpected_character e g a b = absurd (string_then_character a b)
  in_order undelimited_string undelimited_string e g a b = omega arith
  in_order row later e g a b = absurd (cc)

module _ (delimiters : List DelimiterText) (s : List ℕ) (texts : HasTexts delimiters) (left : LexerState) (ls : List Lexeme) (r : HasRead delimiters s left ls) where
  pub first_cut : (row : SyntaxFault) (place : Span) (reason : List ℕ) → ends_cutting row ≡ true → Holds delimiters s row left.offset place reason → IsFirstCutFault delimiters s left.offset place reason
  first_cut row place reason ends holds = record {
    fault = row;
    ends = ends;
    holds = holds;
    first = first;
  }
    where
      first : (other : SyntaxFault) (q : ℕ) (its_place : Span) (its_reason : List ℕ) → ends_cutting other ≡ true → Holds delimiters s other q its_place its_reason → NotAfter row left.offset other q
      first other q its_place its_reason e f = elim (cases_order left.offset q) [
        | inl here ↦ let F : ℕ → Type 0 = λ x. Holds delimiters s other x its_place its_reason in
            inr (here, in_order delimiters s texts left.offset place its_place reason its_reason row other ends e holds (subst F (sym here) f))
        | inr rest ↦ elim rest [
          | inl before ↦ inl before
          | inr behind ↦ absurd (r.clear q behind other its_place its_reason e f)
        ]
      ]

pub one_first_cut_fault : (delimiters : List DelimiterText) (s : List ℕ) (p q : ℕ) (place other : Span) (reason words : List ℕ) → HasTexts delimiters → IsFirstCutFault delimiters s p place reason → IsFirstCutFault delimiters s q other words → (p ≡ q) × (place ≡ other) × (reason ≡ words)
one_first_cut_fault delimiters s p q place other reason words texts a b =
    let e = same_stand a.fault b.fault p q (a.first b.fault q other words b.ends b.holds) (b.first a.fault p place reason a.ends a.holds) in
    let F : SyntaxFault → Type 0 = λ r. Holds delimiters s r p place reason in
    let G : ℕ → Type 0 = λ x. Holds delimiters s b.fault x place reason in
    let same = one_fault delimiters s texts b.fault q place other reason words (subst G e.1 (subst F e.0 a.holds)) b.holds in
    (e.1, same.0, same.1)

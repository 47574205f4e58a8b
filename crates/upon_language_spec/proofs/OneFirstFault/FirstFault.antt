-- A text has one first fault: one span and one reason.
use Rattle.std.proofs.Common.{◌≡◌, inl, inr, ℕ, ◌==◌, List, refl, sym, ap, ◌∙◌, subst, arith, if◌then◌else◌}
use Rattle.upon_types.specs.declared.types.Span.{Span}
use Rattle.upon_language_spec.specs.Search.{DelimiterText, HasTexts}
use Rattle.upon_language_spec.specs.FirstFault.{SyntaxFault, unexpected_end, unclosed_tag, unclosed_bracket, unexpected_close, unexpected_character, undelimited_string, unexpected_token, unexpected_eof, empty_comment, comment_eof, wrong_number, wrong_index, wrong_escape, unexpected_block, unclosed_block, fault_rank, Holds, NotAfter, IsFirstFault}
use Rattle.upon_language_spec.proofs.OneFirstFault.Fault.{Same, one_unexpected_end, one_unclosed_tag, one_unclosed_bracket, one_unexpected_close, one_unexpected_character, one_undelimited_string}
use Rattle.upon_language_spec.proofs.OneFirstFault.LaterFault.{one_unexpected_token, one_unexpected_eof, one_empty_comment, one_comment_eof, one_wrong_number, one_wrong_index, one_wrong_escape, one_unexpected_block, one_unclosed_block}

-- a row at a point says one thing
pub one_fault : (delimiters : List DelimiterText) (s : List ℕ) (texts : HasTexts delimiters) (row : SyntaxFault) (p : ℕ) (place other : Span) (reason words : List ℕ) → Holds delimiters s row p place reason → Holds delimiters s row p other words → Same place other reason words
one_fault delimiters s texts unexpected_end p place other reason words a b = one_unexpected_end delimiters s texts p place other reason words a b
one_fault delimiters s texts unclosed_tag p place other reason words a b = one_unclosed_tag delimiters s texts p place other reason words a b
one_fault delimiters s texts unclosed_bracket p place other reason words a b = one_unclosed_bracket delimiters s texts p place other reason words a b
one_fault delimiters s texts unexpected_close p place other reason words a b = one_unexpected_close delimiters s texts p place other reason words a b
one_fault delimiters s texts unexpected_character p place other reason words a b = one_unexpected_character delimiters s texts p place other reason words a b
one_fault delimiters s texts undelimited_string p place other reason words a b = one_undelimited_string delimiters s texts p place other reason words a b
one_fault delimiters s texts unexpected_token p place other reason words a b = one_unexpected_token delimiters s texts p place other reason words a b
one_fault delimiters s texts unexpected_eof p place other reason words a b = one_unexpected_eof delimiters s texts p place other reason words a b
one_fault delimiters s texts empty_comment p place other reason words a b = one_empty_comment delimiters s texts p place other reason words a b
one_fault delimiters s texts comment_eof p place other reason words a b = one_comment_eof delimiters s texts p place other reason words a b
one_fault delimiters s texts wrong_number p place other reason words a b = one_wrong_number delimiters s texts p place other reason words a b
one_fault delimiters s texts wrong_index p place other reason words a b = one_wrong_index delimiters s texts p place other reason words a b
one_fault delimiters s texts wrong_escape p place other reason words a b = one_wrong_escape delimiters s texts p place other reason words a b
one_fault delimiters s texts unexpected_block p place other reason words a b = one_unexpected_block delimiters s texts p place other reason words a b
one_fault delimiters s texts unclosed_block p place other reason words a b = one_unclosed_block delimiters s texts p place other reason words a b

by_rank : ℕ → SyntaxFault
by_rank n = if n == 0 then unexpected_end else (if n == 1 then unclosed_tag else (if n == 2 then unclosed_bracket else (if n == 3 then unexpected_close
    else (if n == 4 then unexpected_character else (if n == 5 then undelimited_string else (if n == 6 then unexpected_token else (if n == 7 then unexpected_eof
    else (if n == 8 then empty_comment else (if n == 9 then comment_eof else (if n == 10 then wrong_number else (if n == 11 then wrong_index
    else (if n == 12 then wrong_escape else (if n == 13 then unexpected_block else unclosed_block)))))))))))))

by_rank-row_rank : (r : SyntaxFault) → by_rank (fault_rank r) ≡ r
unfolding by_rank
by_rank-row_rank unexpected_end = refl
by_rank-row_rank unclosed_tag = refl
by_rank-row_rank unclosed_bracket = refl
by_rank-row_rank unexpected_close = refl
by_rank-row_rank unexpected_character = refl
by_rank-row_rank undelimited_string = refl
by_rank-row_rank unexpected_token = refl
by_rank-row_rank unexpected_eof = refl
by_rank-row_rank empty_comment = refl
by_rank-row_rank comment_eof = refl
by_rank-row_rank wrong_number = refl
by_rank-row_rank wrong_index = refl
by_rank-row_rank wrong_escape = refl
by_rank-row_rank unexpected_block = refl
by_rank-row_rank unclosed_block = refl

same_row : (a b : SyntaxFault) → fault_rank a ≡ fault_rank b → a ≡ b
same_row a b e = sym (by_rank-row_rank a) ∙ ap by_rank e ∙ by_rank-row_rank b

-- two that do not are one after the other are at one point, in one row
pub same_stand : (row other : SyntaxFault) (p q : ℕ) → NotAfter row p other q → NotAfter other q row p → (row ≡ other) × (p ≡ q)
same_stand row other p q (inl l) (inl k) = absurd (omega arith)
same_stand row other p q (inl l) (inr k) = absurd (omega (arith, k.0))
same_stand row other p q (inr l) (inl k) = absurd (omega (arith, l.0))
same_stand row other p q (inr l) (inr k) = (same_row row other (omega (arith, l.1, k.1)), l.0)

pub one_first_fault : (delimiters : List DelimiterText) (s : List ℕ) (place other : Span) (reason words : List ℕ) → HasTexts delimiters → IsFirstFault delimiters s place reason → IsFirstFault delimiters s other words → Same place other reason words
one_first_fault delimiters s place other reason words texts a b =
    let e = same_stand a.fault b.fault a.point b.point (a.first b.fault b.point other words b.holds) (b.first a.fault a.point place reason a.holds) in
    let F : SyntaxFault → Type 0 = λ r. Holds delimiters s r a.point place reason in
    let G : ℕ → Type 0 = λ p. Holds delimiters s b.fault p place reason in
    one_fault delimiters s texts b.fault b.point place other reason words (subst G e.1 (subst F e.0 a.holds)) b.holds

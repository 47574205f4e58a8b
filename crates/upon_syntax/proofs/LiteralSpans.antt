-- Literals that denote something are fine, and what is reported of the others lies in the text.
use Rattle.std.proofs.Common.{◌≡◌, inl, inr, ℕ, ◌+◌, ◌-◌, ◌<◌, ◌≤◌, List, ◌∷◌, length, take, drop, Bool, true, false, Option, Some, None, ℤ, encode_utf8_all, length-drop, length-take, refl, sym, ap, ◌∙◌, subst, arith, codes, if◌then◌else◌}
use Rattle.std.proofs.lemmas.Bool.{cases_lt}
use Rattle.std.specs.Str.{IsCharBoundary}
use Rattle.std.specs.Char.{is_ascii_digit}
use Rattle.upon_types.specs.declared.types.Span.{Span}
use Rattle.upon_types.specs.declared.types.token.Token.{Token}
use Rattle.upon_types.specs.declared.types.token.Token.TheVariants.{Minus, Plus}
use Rattle.upon_types.specs.Span.{LiesIn, slice}
use Rattle.upon_language_spec.specs.Cut.{Lexeme}
use Rattle.upon_language_spec.specs.Words.{IsRun}
use Rattle.upon_language_spec.specs.Inside.{continues_number}
use Rattle.upon_language_spec.specs.Tokens.{is_raw}
use Rattle.upon_language_spec.specs.Literal.{IsInteger, digits_in}
use Rattle.upon_language_spec.specs.LiteralFaults.{NumberFault, bad_digit, too_large, number_fault, is_float, base_text}
use Rattle.upon_language_spec.specs.Faults.{span_of}
use Rattle.upon_language_spec.specs.LaterFaults.{Report, minus_before, start_from, number_report_of, number_report}
use Rattle.upon_language_spec.proofs.NoTreeWithFault.LiteralValue.{integer_no_fault}
use Rattle.upon_language_spec.proofs.Totality.LiteralValues.{ascii_digits}
use Rattle.upon_language_spec.proofs.Spans.Literals.{number_between, digit_in_number}
use Rattle.upon_language_spec.proofs.Spans.FirstFault.{told_place}
use Rattle.upon_syntax.specs.TagEnds.{SignLies}

-- a number that denotes an integer has no report
pub number_fine : (text : List ℕ) (before : Option Lexeme) (p n : ℕ) (z : ℤ) → IsInteger (minus_before before) text z → number_report text before p n ≡ None
number_fine text before p n z h = by_float (is_float text) none.0
  where
    none : (is_float text ≡ false) × (number_fault (minus_before before) text ≡ None)
    none = integer_no_fault (minus_before before) text z h

    by_float : (b : Bool) → b ≡ false → (if b then Some (record { span = span_of (start_from before p) n; reason = codes "invalid float literal" }) else number_report_of (base_text text) (start_from before p) p n (number_fault (minus_before before) text)) ≡ None
    by_float true e = absurd cc
    by_float false e = ap (number_report_of (base_text text) (start_from before p) p n) none.1

-- the digits of an index
pub index_digits : (s : List ℕ) (m n : ℕ) → IsRun is_ascii_digit s m n → (digits : List ℕ) × (digits_in 10 (slice s (span_of m n)) ≡ Some digits)
index_digits s m n run =
    let digits = ascii_digits (run.first ∷ run.others) run.each in
    let is : slice s (span_of m n) ≡ encode_utf8_all (run.first ∷ run.others) = ap (λ k. take k (drop m s)) (omega (arith, run.to)) ∙ sym run.occurs in
    (digits.0, ap (digits_in 10) is ∙ digits.1)

-- a literal's start, with its sign, is on a character boundary
start_lies : (s : List ℕ) (p : ℕ) (before : Option Lexeme) → SignLies s before p → IsCharBoundary s p → (start_from before p ≤ p) × IsCharBoundary s (start_from before p)
start_lies s p None h b = (omega arith, b)
start_lies s p (Some l) h b = by_token l.token h
  where
    by_token : (t : Token) → (is_raw t ≡ false → LiesIn s l.span × (l.span.n ≤ p)) → ((elim t as (λ _. ℕ) [ Minus ↦ l.span.m | Plus ↦ l.span.m | _ ↦ p ]) ≤ p) × IsCharBoundary s (elim t as (λ _. ℕ) [ Minus ↦ l.span.m | Plus ↦ l.span.m | _ ↦ p ])
    by_token Minus h = let x = h refl in (omega (arith, x.0.ordered, x.1), x.0.start)
    by_token Plus h = let x = h refl in (omega (arith, x.0.ordered, x.1), x.0.start)
    by_token t h = (omega arith, b)

-- what is reported of a number lies in the text
pub number_lies : (s : List ℕ) (before : Option Lexeme) (at : Span) (report : Report) → LiesIn s at → IsRun continues_number s at.m at.n → SignLies s before at.m → number_report (slice s at) before at.m at.n ≡ Some report → LiesIn s report.span
number_lies s before at report lies run sign e = by_float (is_float (slice s at)) e
  where
    p : ℕ
    p = at.m

    to : ℕ
    to = at.n

    start : (start_from before p ≤ p) × IsCharBoundary s (start_from before p)
    start = start_lies s p before sign lies.start

    whole : LiesIn s (span_of (start_from before p) to)
    whole = record { ordered = omega (arith, start.0, lies.ordered); start = start.1; end = lies.end }

    placed : (found : Report) → LiesIn s found.span → Some found ≡ Some report → LiesIn s report.span
    placed found h k = subst (LiesIn s) (told_place found report k) h

    digit : (i : ℕ) → i < length (slice s at) → LiesIn s (span_of (p + i) (p + i + 1))
    digit i l =
        let size : length (slice s at) ≡ to - p = omega (arith, lies.ordered, lies.end.0, length-take (to - p) (drop p s), length-drop p s) in
        let a = number_between s p to (p + i) lies.end.0 run (omega arith) (omega (arith, l, size)) in
        record { ordered = omega arith; start = a; end = next i l size }
      where
        next : (i : ℕ) → i < length (slice s at) → length (slice s at) ≡ to - p → IsCharBoundary s (p + i + 1)
        next i l size = elim (cases_lt (p + i + 1) to) [
          | inl below ↦ number_between s p to (p + i + 1) lies.end.0 run (omega arith) below
          | inr above ↦ let end : to ≡ p + i + 1 = omega (arith, above, l, size, lies.ordered) in subst (IsCharBoundary s) end lies.end
        ]

    by_fault : (o : Option NumberFault) → number_fault (minus_before before) (slice s at) ≡ o → number_report_of (base_text (slice s at)) (start_from before p) p to o ≡ Some report → LiesIn s report.span
    by_fault None f k = absurd cc
    by_fault (Some (bad_digit i)) f k = placed _ (digit i (digit_in_number (minus_before before) (slice s at) i f)) k
    by_fault (Some too_large) f k = placed _ whole k

    by_float : (b : Bool) → (if b then Some (record { span = span_of (start_from before p) to; reason = codes "invalid float literal" }) else number_report_of (base_text (slice s at)) (start_from before p) p to (number_fault (minus_before before) (slice s at))) ≡ Some report → LiesIn s report.span
    by_float true k = placed _ whole k
    by_float false k = by_fault (number_fault (minus_before before) (slice s at)) refl k

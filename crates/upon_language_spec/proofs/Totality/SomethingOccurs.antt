-- What is at an offset of a UTF-8 text: a delimiter or none, a character, a run, a string or none, and in a tag a token or none.
use Rattle.std.proofs.Common.{◌≡◌, ◌⊎◌, inl, inr, ℕ, zero, suc, ◌+◌, ◌-◌, ◌<◌, ◌≤◌, ◌==◌, nat_lt, List, [], ◌∷◌, length, drop, length-drop, Bool, true, false, Option, Some, None, refl, sym, ap, ◌∙◌, subst, arith, codes, encode_utf8, encode_utf8_all}
use Rattle.std.specs.Prelude.{slice_index}
use Rattle.std.specs.Char.{is_ascii_digit}
use Rattle.std.proofs.lemmas.Bool.Decides.{nat_tests}
use Rattle.std.proofs.lemmas.Str.{encode_same, encode_ascii}
use Rattle.unicode_ident.specs.Ident.{is_xid_continue}
use Rattle.upon_types.specs.declared.types.Span.{Span}
use Rattle.upon_types.specs.declared.types.token.Token.{Token}
use Rattle.upon_types.specs.declared.types.token.Token.TheVariants.{Raw, BeginExpr, EndExpr, BeginBlock, EndBlock, BeginComment, EndComment, OpenBracket, CloseBracket, OpenBrace, CloseBrace, OpenParen, CloseParen, Dot, QuestionDot, Pipe, Comma, Colon, Plus, Minus, Whitespace, Keyword, Ident, Index, Number, String}
use Rattle.upon_types.specs.Span.{slice}
use Rattle.upon_language_spec.specs.Search.{DelimiterText, text_at, kind_at, Occurs, NoneBelow, NoneAt, IsBestBelow, IsBestDelimiter}
use Rattle.upon_types.specs.declared.types.Delimiter.{Delimiter}
use Rattle.upon_language_spec.specs.Words.{IsRun, is_tag_space, is_keyword}
use Rattle.upon_language_spec.specs.Inside.{token_kind, continues_number, ends_line, plain, escape, is_piece, IsQuoted}
use Rattle.upon_language_spec.specs.InsideStart.{BeginsInside, NoInside}
use Rattle.upon_language_spec.specs.Faults.{span_of, LineEnds}
use Rattle.upon_language_spec.proofs.SpansLieIn.Offsets.{drop-Occurs, Occurs-from_drop, occurs_within}
use Rattle.upon_language_spec.proofs.OneCut.Run.{one_char, char_has_bytes}
use Rattle.upon_language_spec.proofs.OneFirstFault.Fault.{nothing_at_end}
use Rattle.upon_language_spec.proofs.Computation.Tests.{same_number, occurs_test, occurs_tested, occurs_tests}
use Rattle.upon_language_spec.proofs.Offsets.Listed.{passed_over, not_longer, first_found, longer_found}
use Rattle.upon_language_spec.proofs.Offsets.Runs.{Passes, passes_none, passes_more, stops_at_char, stops_at_end, run_or_none, some_run}
use Rattle.upon_language_spec.proofs.Offsets.Strings.{PiecesRead, none_read, read_more, closed, no_string, stuck_at_end, stuck_at_line_end, stuck_at_backslash}
use Rattle.upon_language_spec.proofs.Offsets.Bytes.{char_as_byte, joined}
use Rattle.upon_language_spec.proofs.Offsets.Names.{begins_continues}
use Rattle.upon_language_spec.proofs.Offsets.KindsBy.{proper_kind}
use Rattle.upon_language_spec.proofs.Offsets.Unexpected.{no_token, no_question}

-- ---- delimiters
-- a decimal digit goes on with a number
pub digit_continues : (c : ℕ) → is_ascii_digit c ≡ true → continues_number c ≡ true
digit_continues c h = grind (arith, nat_tests)

module _ (delimiters : List DelimiterText) (s : List ℕ) (p : ℕ) where
  abbrev Best : ℕ → Type 0
  Best n = NoneBelow n delimiters s p ⊎ ((i : ℕ) × IsBestBelow n delimiters s p i)

  one_more : (n : ℕ) → Best n → Best (n + 1)
  one_more n best = elim (occurs_test s p (text_at delimiters n)) as (λ b. occurs_test s p (text_at delimiters n) ≡ b → Best (n + 1)) [
    | false ↦ λ e. by_absence best (λ o. let h = occurs_tests s p (text_at delimiters n) o in cc)
    | true ↦ λ e. by_presence best (occurs_tested s p (text_at delimiters n) e)
  ] refl
    where
      by_absence : Best n → (Occurs s p (text_at delimiters n) → ⊥) → Best (n + 1)
      by_absence (inl none) differs = inl (passed_over delimiters s p n None none differs)
      by_absence (inr (i, h)) differs = inr (i, passed_over delimiters s p n (Some i) h differs)

      by_presence : Best n → Occurs s p (text_at delimiters n) → Best (n + 1)
      by_presence (inl none) o = inr (n, first_found delimiters s p n none o)
      by_presence (inr (i, h)) o = elim (nat_lt (length (text_at delimiters i)) (length (text_at delimiters n))) as (λ b. nat_lt (length (text_at delimiters i)) (length (text_at delimiters n)) ≡ b → Best (n + 1)) [
        | true ↦ λ e. inr (n, longer_found delimiters s p n i h (grind (arith, e)) o)
        | false ↦ λ e. inr (i, not_longer delimiters s p n i h (grind (arith, e)))
      ] refl

  best_below : (n : ℕ) → Best n
  best_below zero = inl (λ i l o. omega (arith, l))
  best_below (suc n) = subst Best (omega arith) (one_more n (best_below n))

  -- a delimiter is at the span, or none
  pub delimiter_at : NoneAt delimiters s p ⊎ ((kind : Delimiter) × (to : ℕ) × IsBestDelimiter delimiters s kind p to)
  delimiter_at = elim (best_below (length delimiters)) [
    | inl none ↦ inl none
    | inr h ↦ inr (kind_at delimiters h.0, p + length (text_at delimiters h.0), record { index = h.0; best = h.1; of_kind = refl; to = refl })
  ]

not_both : (d : ℕ) → d ≡ 46 → (d == 46) ≡ false → ⊥
not_both d e h = let F : ℕ → Type 0 = λ x. (x == 46) ≡ false in let wrong : (46 == 46) ≡ false = subst F e h in cc

-- ---- characters
module _ (s : List ℕ) where
  abbrev pub Spelled : ℕ → List ℕ → Type 0
  Spelled n cs = drop n s ≡ encode_utf8_all cs

  first_char : (n c : ℕ) (cs : List ℕ) → Spelled n (c ∷ cs) → Occurs s n (encode_utf8 c)
  first_char n c cs e = Occurs-from_drop s n (encode_utf8 c) (encode_utf8_all cs) e

  other_chars : (n c : ℕ) (cs : List ℕ) → Spelled n (c ∷ cs) → Spelled (n + length (encode_utf8 c)) cs
  other_chars n c cs e = (encode_same c c (drop (n + length (encode_utf8 c)) s) (encode_utf8_all cs) (sym (drop-Occurs s n (encode_utf8 c) (first_char n c cs e)) ∙ e)).1

  within : (n c : ℕ) (cs : List ℕ) → Spelled n (c ∷ cs) → n + length (encode_utf8 c) ≤ length s
  within n c cs e = occurs_within s n (encode_utf8 c) (char_has_bytes c) (first_char n c cs e)

  at_end : (n : ℕ) → n ≤ length s → Spelled n [] → n ≡ length s
  at_end n l e = omega (arith, l, ap length e, length-drop n s)

  -- runs
  module _ (test : ℕ → Bool) (m : ℕ) where
    abbrev RunTo : Type 0
    RunTo = (k : ℕ) × ((k ≡ m) ⊎ IsRun test s m k) × ((c : ℕ) → Occurs s k (encode_utf8 c) → test c ≡ false)

    run_from : (cs : List ℕ) (n : ℕ) → n ≤ length s → Spelled n cs → Passes test s m n → RunTo
    run_from [] n l e read = let stops = stops_at_end test s m n (at_end n l e) in (n, run_or_none test s m n read stops, stops)
    run_from (c ∷ cs) n l e read = by_test (test c) refl (λ h. run_from cs (n + length (encode_utf8 c)) (within n c cs e) (other_chars n c cs e) (passes_more test s m n c (n + length (encode_utf8 c)) read (first_char n c cs e) h refl))
      where
        by_test : (b : Bool) → test c ≡ b → (test c ≡ true → RunTo) → RunTo
        by_test true h others = others h
        by_test false h others = let stops = stops_at_char test s m n c (first_char n c cs e) h in (n, run_or_none test s m n read stops, stops)

    pub run_at : (c : ℕ) (cs : List ℕ) → Spelled m (c ∷ cs) → test c ≡ true → (k : ℕ) × IsRun test s m k
    run_at c cs e h =
        let (k, read, stops) = run_from (c ∷ cs) m (omega (arith, within m c cs e)) e (passes_none test s m) in
        (k, some_run test s m k read stops c (first_char m c cs e) h)

  -- strings
  module _ (at : ℕ) where
    abbrev StringOr : Type 0
    StringOr = ((n : ℕ) × IsQuoted s at n) ⊎ ((n : ℕ) → IsQuoted s at n → ⊥)

    equal : (c d : ℕ) → (c == d) ≡ true → c ≡ d
    equal c d h = grind (arith, h)

    plain_piece : (c : ℕ) → (c == 34) ≡ false → (c == 92) ≡ false → ends_line c ≡ false → is_piece (plain c) ≡ true
    plain_piece c h k l = grind (arith, nat_tests)

    escaped_piece : (c : ℕ) → ends_line c ≡ false → is_piece (escape c) ≡ true
    escaped_piece c l = grind (arith, nat_tests)

    no_escape : (c : ℕ) → ends_line c ≡ true → is_piece (escape c) ≡ false
    no_escape c l = grind (arith, nat_tests)

    abbrev After : List ℕ → Type 0
    After cs = (n : ℕ) → n ≤ length s → Spelled n cs → PiecesRead s at n → StringOr

    abbrev AfterNext : List ℕ → Type 0
    AfterNext [] = Unit {0}
    AfterNext (d ∷ ds) = After ds

    module _ (end : ℕ) (read : PiecesRead s at end) where
      behind_backslash : (ds : List ℕ) → Occurs s end (92 ∷ []) → Spelled (end + 1) ds → end + 1 ≤ length s → AfterNext ds → StringOr
      behind_backslash [] o spelled bound others = inr (no_string s end (stuck_at_backslash s end o (λ d q. absurd (omega (arith, at_end (end + 1) bound spelled, occurs_within s (end + 1) (encode_utf8 d) (char_has_bytes d) q, char_has_bytes d)))) at read)
      behind_backslash (d ∷ ds) o spelled bound others = by_line (ends_line d) refl
        where
          there : Occurs s (end + 1) (encode_utf8 d)
          there = first_char (end + 1) d ds spelled

          by_line : (b : Bool) → ends_line d ≡ b → StringOr
          by_line true h = inr (no_string s end (stuck_at_backslash s end o (λ x q. ap (λ y. is_piece (escape y)) (one_char s (end + 1) x d q there) ∙ no_escape d h)) at read)
          by_line false h = others (end + 1 + length (encode_utf8 d)) (within (end + 1) d ds spelled) (other_chars (end + 1) d ds spelled) (read_more s at end (end + 1 + length (encode_utf8 d)) (escape d) read (escaped_piece d h) (joined s end 92 (encode_utf8 d) o there) (omega arith))

      one_piece : (c : ℕ) (cs : List ℕ) → Spelled end (c ∷ cs) → After cs → AfterNext cs → StringOr
      one_piece c cs e others behind = by_quote (c == 34) refl
        where
          here : Occurs s end (encode_utf8 c)
          here = first_char end c cs e

          by_line : (b : Bool) → ends_line c ≡ b → (c == 34) ≡ false → (c == 92) ≡ false → StringOr
          by_line true h k j = inr (no_string s end (stuck_at_line_end s end c here h) at read)
          by_line false h k j = others (end + length (encode_utf8 c)) (within end c cs e) (other_chars end c cs e) (read_more s at end (end + length (encode_utf8 c)) (plain c) read (plain_piece c k j h) here refl)

          by_backslash : (b : Bool) → (c == 92) ≡ b → (c == 34) ≡ false → StringOr
          by_backslash true h k =
              let byte = char_as_byte s end 92 c (omega arith) (equal c 92 h) here in
              let one : length (encode_utf8 c) ≡ 1 = ap (λ x. length (encode_utf8 x)) (equal c 92 h) ∙ ap length (encode_ascii 92 (omega arith)) in
              let spelled : Spelled (end + 1) cs = subst (λ n. Spelled (end + n) cs) one (other_chars end c cs e) in
              behind_backslash cs byte spelled (omega (arith, one, within end c cs e)) behind
          by_backslash false h k = by_line (ends_line c) refl k h

          by_quote : (b : Bool) → (c == 34) ≡ b → StringOr
          by_quote true h = inl (end + 1, closed s at end read (char_as_byte s end 34 c (omega arith) (equal c 34 h) here))
          by_quote false h = by_backslash (c == 92) refl h

    read_string : (cs : List ℕ) → After cs
    read_string [] end l e read = inr (no_string s end (stuck_at_end s end (at_end end l e)) at read)
    read_string (c ∷ []) end l e read = one_piece end read c [] e (read_string []) tt
    read_string (c ∷ d ∷ ds) end l e read = one_piece end read c (d ∷ ds) e (read_string (d ∷ ds)) (read_string ds)

    -- the line's end
    line_from : (k q : ℕ) → q + k ≡ length s → at ≤ q → ((x : ℕ) → at ≤ x → x < q → ends_line (slice_index s x) ≡ false) → (to : ℕ) × LineEnds s at to
    line_from zero q e l none = (q, record { start = l; within = omega (arith, e); none = none; ends = inl (omega (arith, e)) })
    line_from (suc k) q e l none = by_line (ends_line (slice_index s q)) refl (λ h. line_from k (q + 1) (omega (arith, e)) (omega (arith, l)) (more h))
      where
        more : ends_line (slice_index s q) ≡ false → (x : ℕ) → at ≤ x → x < q + 1 → ends_line (slice_index s x) ≡ false
        more h x a b = elim (nat_lt x q) as (λ t. nat_lt x q ≡ t → ends_line (slice_index s x) ≡ false) [
          | true ↦ λ t. none x a (grind (arith, t))
          | false ↦ λ t. let same : q ≡ x = grind (arith, t) in subst (λ y. ends_line (slice_index s y) ≡ false) same h
        ] refl

        by_line : (b : Bool) → ends_line (slice_index s q) ≡ b → (ends_line (slice_index s q) ≡ false → (to : ℕ) × LineEnds s at to) → (to : ℕ) × LineEnds s at to
        by_line true h others = (q, record { start = l; within = omega (arith, e); none = none; ends = inr (omega (arith, e), h) })
        by_line false h others = others h

  -- ---- tokens in a tag, delimiters aside
  module _ (in_path : Bool) (m c : ℕ) (cs : List ℕ) (spelled : Spelled m (c ∷ cs)) where
    abbrev pub InnerOr : Type 0
    InnerOr = ((t : Token) × (n : ℕ) × BeginsInside s in_path t m n) ⊎ ((place : Span) × (reason : List ℕ) × NoInside s in_path m place reason)

    stands : Occurs s m (encode_utf8 c)
    stands = first_char m c cs spelled

    nothing_begins : token_kind in_path c ≡ None → InnerOr
    nothing_begins e = inr (span_of m (m + length (encode_utf8 c)), codes "unexpected character", no_token s in_path m (m + length (encode_utf8 c)) (span_of m (m + length (encode_utf8 c))) (codes "unexpected character") c refl refl refl stands (inl (e, refl)))

    word : (k : ℕ) → token_kind in_path c ≡ Some Ident → IsRun is_xid_continue s m k → (b : Bool) → is_keyword (slice s (record { m = m; n = k })) ≡ b → InnerOr
    word k e run true h = inl (Keyword, k, record { first = c; occurs = stands; of_kind = e; extent = (run, h) })
    word k e run false h = inl (Ident, k, record { first = c; occurs = stands; of_kind = e; extent = (run, h) })

    string : token_kind in_path c ≡ Some String → Occurs s m (34 ∷ []) → StringOr m → InnerOr
    string e o (inl q) = inl (String, q.0, record { first = c; occurs = stands; of_kind = e; extent = q.1 })
    string e o (inr none) =
        let bound = within m c cs spelled in
        let (to, line) = line_from m (length s - m) m (omega (arith, bound)) (omega arith) (λ x a b. absurd (omega (arith, a, b))) in
        inr (span_of m to, codes "undelimited string", inr (record { quote = o; no_string = none; to = to; line = line; at = refl; words = refl }))

    question : token_kind in_path c ≡ Some QuestionDot → Occurs s m (63 ∷ []) → (ds : List ℕ) → Spelled (m + 1) ds → m + 1 ≤ length s → InnerOr
    question e o [] there l = inr (span_of m (m + 1), codes "unexpected character", no_question s in_path m (m + 1) (span_of m (m + 1)) (codes "unexpected character") refl refl refl o (λ q. nothing_at_end s (m + 1) 46 (sym (at_end (m + 1) l there)) q) (inl (at_end (m + 1) l there, refl)))
    question e o (d ∷ ds) there l = by_dot (d == 46) refl
      where
        by_dot : (b : Bool) → (d == 46) ≡ b → InnerOr
        by_dot true h = inl (QuestionDot, m + 2, record { first = c; occurs = stands; of_kind = e; extent = (joined s m 63 (46 ∷ []) o (char_as_byte s (m + 1) 46 d (omega arith) (same_number d 46 h) (first_char (m + 1) d ds there)), refl) })
        by_dot false h =
            let to = m + 1 + length (encode_utf8 d) in
            inr (
              span_of m to,
              codes "unexpected character",
              no_question s in_path m to (span_of m to) (codes "unexpected character") refl refl refl o
                  (λ q. not_both d (one_char s (m + 1) d 46 (first_char (m + 1) d ds there) q) h) (inr (d, first_char (m + 1) d ds there, refl)),
            )

    by_kind : (o : Option Token) → token_kind in_path c ≡ o → InnerOr
    by_kind None e = nothing_begins e
    by_kind (Some Whitespace) e = let run = run_at is_tag_space m c cs spelled (proper_kind c in_path Whitespace e) in inl (Whitespace, run.0, record { first = c; occurs = stands; of_kind = e; extent = run.1 })
    by_kind (Some Index) e = let run = run_at is_ascii_digit m c cs spelled (proper_kind c in_path Index e) in inl (Index, run.0, record { first = c; occurs = stands; of_kind = e; extent = run.1 })
    by_kind (Some Number) e = let run = run_at continues_number m c cs spelled (digit_continues c (proper_kind c in_path Number e)) in inl (Number, run.0, record { first = c; occurs = stands; of_kind = e; extent = run.1 })
    by_kind (Some Ident) e = let run = run_at is_xid_continue m c cs spelled (begins_continues c (proper_kind c in_path Ident e)) in word run.0 e run.1 (is_keyword (slice s (record { m = m; n = run.0 }))) refl
    by_kind (Some String) e =
        let byte = char_as_byte s m 34 c (omega arith) (proper_kind c in_path String e) stands in
        let one : length (encode_utf8 c) ≡ 1 = ap (λ x. length (encode_utf8 x)) (proper_kind c in_path String e) ∙ ap length (encode_ascii 34 (omega arith)) in
        let there : Spelled (m + 1) cs = subst (λ n. Spelled (m + n) cs) one (other_chars m c cs spelled) in
        string e byte (read_string m cs (m + 1) (omega (arith, one, within m c cs spelled)) there (none_read s m byte))
    by_kind (Some QuestionDot) e =
        let byte = char_as_byte s m 63 c (omega arith) (proper_kind c in_path QuestionDot e) stands in
        let one : length (encode_utf8 c) ≡ 1 = ap (λ x. length (encode_utf8 x)) (proper_kind c in_path QuestionDot e) ∙ ap length (encode_ascii 63 (omega arith)) in
        let there : Spelled (m + 1) cs = subst (λ n. Spelled (m + n) cs) one (other_chars m c cs spelled) in
        question e byte cs there (omega (arith, one, within m c cs spelled))
    by_kind (Some OpenBracket) e = inl (OpenBracket, m + 1, record { first = c; occurs = stands; of_kind = e; extent = refl })
    by_kind (Some CloseBracket) e = inl (CloseBracket, m + 1, record { first = c; occurs = stands; of_kind = e; extent = refl })
    by_kind (Some OpenBrace) e = inl (OpenBrace, m + 1, record { first = c; occurs = stands; of_kind = e; extent = refl })
    by_kind (Some CloseBrace) e = inl (CloseBrace, m + 1, record { first = c; occurs = stands; of_kind = e; extent = refl })
    by_kind (Some OpenParen) e = inl (OpenParen, m + 1, record { first = c; occurs = stands; of_kind = e; extent = refl })
    by_kind (Some CloseParen) e = inl (CloseParen, m + 1, record { first = c; occurs = stands; of_kind = e; extent = refl })
    by_kind (Some Dot) e = inl (Dot, m + 1, record { first = c; occurs = stands; of_kind = e; extent = refl })
    by_kind (Some Pipe) e = inl (Pipe, m + 1, record { first = c; occurs = stands; of_kind = e; extent = refl })
    by_kind (Some Comma) e = inl (Comma, m + 1, record { first = c; occurs = stands; of_kind = e; extent = refl })
    by_kind (Some Colon) e = inl (Colon, m + 1, record { first = c; occurs = stands; of_kind = e; extent = refl })
    by_kind (Some Plus) e = inl (Plus, m + 1, record { first = c; occurs = stands; of_kind = e; extent = refl })
    by_kind (Some Minus) e = inl (Minus, m + 1, record { first = c; occurs = stands; of_kind = e; extent = refl })
    by_kind (Some Raw) e = absurd (proper_kind c in_path Raw e)
    by_kind (Some BeginExpr) e = absurd (proper_kind c in_path BeginExpr e)
    by_kind (Some EndExpr) e = absurd (proper_kind c in_path EndExpr e)
    by_kind (Some BeginBlock) e = absurd (proper_kind c in_path BeginBlock e)
    by_kind (Some EndBlock) e = absurd (proper_kind c in_path EndBlock e)
    by_kind (Some BeginComment) e = absurd (proper_kind c in_path BeginComment e)
    by_kind (Some EndComment) e = absurd (proper_kind c in_path EndComment e)
    by_kind (Some Keyword) e = absurd (proper_kind c in_path Keyword e)

    pub inner_at : InnerOr
    inner_at = by_kind (token_kind in_path c) refl

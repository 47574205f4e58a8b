-- Whether a token is inside a tag, as a test that computes.
use Rattle.std.proofs.Common.{◌≡◌, ℕ, ◌+◌, ◌-◌, ◌==◌, ◌&&◌, not, nat_le, List, [], ◌∷◌, length, take, drop, length-take, length-drop, ◌<◌, ◌≤◌, Bool, true, false, Some, ap, subst, arith, codes, encode_utf8, encode_utf8_all, if◌then◌else◌}
use Rattle.std.proofs.lemmas.Bool.{not-true}
use Rattle.std.specs.Str.{chars}
use Rattle.std.specs.Char.{is_ascii_digit}
use Rattle.std.specs.List.{list_all}
use Rattle.unicode_ident.specs.Ident.{is_xid_continue}
use Rattle.upon_types.specs.declared.types.token.Token.{Token}
use Rattle.upon_types.specs.declared.types.token.Token.TheVariants.{Raw, BeginExpr, EndExpr, BeginBlock, EndBlock, BeginComment, EndComment, OpenBracket, CloseBracket, OpenBrace, CloseBrace, OpenParen, CloseParen, Dot, QuestionDot, Pipe, Comma, Colon, Plus, Minus, Whitespace, Keyword, Ident, Index, Number, String}
use Rattle.upon_types.specs.Span.{slice}
use Rattle.upon_language_spec.specs.Search.{DelimiterText, Occurs}
use Rattle.upon_language_spec.specs.Words.{EachPasses, IsRun, is_tag_space, is_keyword}
use Rattle.upon_language_spec.specs.Inside.{token_kind, continues_number, Piece, plain, escape, is_piece, EachIsPiece, string_text, IsQuoted, Extent, start_kind, IsInside}
use Rattle.upon_language_spec.proofs.OneCut.Run.{one_char, char_has_bytes}
use Rattle.upon_language_spec.proofs.Computation.Tests.{left_true, right_true, occurs_test, occurs_tested, none_test, none_tested}
use Rattle.upon_language_spec.proofs.Computation.TokenTests.{is_token, is_token_tested}
use Rattle.upon_language_spec.proofs.Computation.Tests.{same_number}

-- whether characters are from m to n, each passes, and the next, if there is one, does not
abbrev pub stand_test : List ℕ → ℕ → ℕ → List ℕ → Bool
stand_test s m n text = occurs_test s m text && (n == m + length text)

abbrev pub next_fails : (ℕ → Bool) → List ℕ → ℕ → List ℕ → Bool
next_fails test s n [] = nat_le (length s) n
next_fails test s n (c ∷ cs) = occurs_test s n (encode_utf8 c) && not (test c)

abbrev pub run_by : (ℕ → Bool) → List ℕ → ℕ → ℕ → List ℕ → Bool
run_by test s m n [] = false
run_by test s m n (c ∷ cs) = list_all test (c ∷ cs) && (stand_test s m n (encode_utf8_all (c ∷ cs)) && next_fails test s n (chars (drop n s)))

abbrev pub run_test : (ℕ → Bool) → List ℕ → ℕ → ℕ → Bool
run_test test s m n = run_by test s m n (chars (take (n - m) (drop m s)))

each_passes : (test : ℕ → Bool) (cs : List ℕ) → list_all test cs ≡ true → EachPasses test cs
each_passes test [] h = tt
each_passes test (c ∷ cs) h = (left_true _ _ h, each_passes test cs (right_true _ _ h))

nothing_at_end : (s : List ℕ) (n : ℕ) (d : List ℕ) → length s ≤ n → 0 < length d → Occurs s n d → ⊥
nothing_at_end s n d e some o =
    let short : length d ≡ length (take (length d) (drop n s)) = ap length o in
    omega (arith, short, length-take {A = ℕ}, length-drop {A = ℕ})

next_failed : (test : ℕ → Bool) (s : List ℕ) (n : ℕ) (rest : List ℕ) → next_fails test s n rest ≡ true → (c : ℕ) → Occurs s n (encode_utf8 c) → test c ≡ false
next_failed test s n [] h c o = let past : length s ≤ n = grind (arith, h) in absurd (nothing_at_end s n (encode_utf8 c) past (char_has_bytes c) o)
next_failed test s n (d ∷ ds) h c o =
    let same : d ≡ c = one_char s n d c (occurs_tested s n _ (left_true _ _ h)) o in
    subst (λ x. test x ≡ false) same (not-true _ (right_true _ _ h))

run_from : (test : ℕ → Bool) (s : List ℕ) (m n : ℕ) (cs : List ℕ) → run_by test s m n cs ≡ true → IsRun test s m n
run_from test s m n [] h = absurd cc
run_from test s m n (c ∷ cs) h =
    let rest = right_true _ _ h in
    let stands = left_true _ _ rest in
    record { first = c; others = cs; each = each_passes test (c ∷ cs) (left_true _ _ h); occurs = occurs_tested s m _ (left_true _ _ stands); to = same_number _ _ (right_true _ _ stands); longest = next_failed test s n (chars (drop n s)) (right_true _ _ rest) }

pub run_tested : (test : ℕ → Bool) (s : List ℕ) (m n : ℕ) → run_test test s m n ≡ true → IsRun test s m n
run_tested test s m n h = run_from test s m n (chars (take (n - m) (drop m s))) h

-- strings
abbrev pub pieces_of : List ℕ → List Piece
pieces_of [] = []
pieces_of (c ∷ []) = plain c ∷ []
pieces_of (c ∷ d ∷ cs) = if c == 92 then (escape d ∷ pieces_of cs) else (plain c ∷ pieces_of (d ∷ cs))

abbrev pub each_is_piece : List Piece → Bool
each_is_piece [] = true
each_is_piece (p ∷ ps) = is_piece p && each_is_piece ps

pub each_piece : (ps : List Piece) → each_is_piece ps ≡ true → EachIsPiece ps
each_piece [] h = tt
each_piece (p ∷ ps) h = (left_true _ _ h, each_piece ps (right_true _ _ h))

abbrev pub quoted_by : List ℕ → ℕ → ℕ → List Piece → Bool
quoted_by s m n pieces = each_is_piece pieces && stand_test s m n (string_text pieces)

abbrev pub pieces_between : List ℕ → ℕ → ℕ → List Piece
pieces_between s m n = pieces_of (chars (take (n - m - 2) (drop (m + 1) s)))

pub quoted_tested : (s : List ℕ) (m n : ℕ) → quoted_by s m n (pieces_between s m n) ≡ true → IsQuoted s m n
quoted_tested s m n h = let stands = right_true _ _ h in record { pieces = pieces_between s m n; each = each_piece _ (left_true _ _ h); occurs = occurs_tested s m _ (left_true _ _ stands); to = same_number _ _ (right_true _ _ stands) }

-- how far a token goes
abbrev pub extent_test : List ℕ → Token → ℕ → ℕ → Bool
extent_test s Whitespace m n = run_test is_tag_space s m n
extent_test s Ident m n = run_test is_xid_continue s m n && not (is_keyword (slice s (record { m = m; n = n })))
extent_test s Keyword m n = run_test is_xid_continue s m n && is_keyword (slice s (record { m = m; n = n }))
extent_test s Number m n = run_test continues_number s m n
extent_test s Index m n = run_test is_ascii_digit s m n
extent_test s String m n = quoted_by s m n (pieces_between s m n)
extent_test s QuestionDot m n = occurs_test s m (codes "?.") && (n == m + 2)
extent_test s Raw m n = false
extent_test s BeginExpr m n = false
extent_test s EndExpr m n = false
extent_test s BeginBlock m n = false
extent_test s EndBlock m n = false
extent_test s BeginComment m n = false
extent_test s EndComment m n = false
extent_test s t m n = n == m + 1

extent_tested : (s : List ℕ) (t : Token) (m n : ℕ) → extent_test s t m n ≡ true → Extent s t m n
extent_tested s Whitespace m n h = run_tested is_tag_space s m n h
extent_tested s Ident m n h = (run_tested is_xid_continue s m n (left_true _ _ h), not-true _ (right_true _ _ h))
extent_tested s Keyword m n h = (run_tested is_xid_continue s m n (left_true _ _ h), right_true _ _ h)
extent_tested s Number m n h = run_tested continues_number s m n h
extent_tested s Index m n h = run_tested is_ascii_digit s m n h
extent_tested s String m n h = quoted_tested s m n h
extent_tested s QuestionDot m n h = (occurs_tested s m _ (left_true _ _ h), same_number _ _ (right_true _ _ h))
extent_tested s OpenBracket m n h = same_number _ _ h
extent_tested s CloseBracket m n h = same_number _ _ h
extent_tested s OpenBrace m n h = same_number _ _ h
extent_tested s CloseBrace m n h = same_number _ _ h
extent_tested s OpenParen m n h = same_number _ _ h
extent_tested s CloseParen m n h = same_number _ _ h
extent_tested s Dot m n h = same_number _ _ h
extent_tested s Pipe m n h = same_number _ _ h
extent_tested s Comma m n h = same_number _ _ h
extent_tested s Colon m n h = same_number _ _ h
extent_tested s Plus m n h = same_number _ _ h
extent_tested s Minus m n h = same_number _ _ h
extent_tested s _ m n h = absurd cc

abbrev pub first_by : Bool → List ℕ → Token → ℕ → List ℕ → Bool
first_by in_path s t m [] = false
first_by in_path s t m (c ∷ cs) = occurs_test s m (encode_utf8 c) && is_token (start_kind t) (token_kind in_path c)

abbrev pub inner_test : List DelimiterText → List ℕ → Bool → Token → ℕ → ℕ → Bool
inner_test delimiters s in_path t m n = none_test delimiters s m && (first_by in_path s t m (chars (drop m s)) && extent_test s t m n)

first_of : (in_path : Bool) (s : List ℕ) (t : Token) (m : ℕ) (cs : List ℕ) → first_by in_path s t m cs ≡ true → (c : ℕ) × Occurs s m (encode_utf8 c) × (token_kind in_path c ≡ Some (start_kind t))
first_of in_path s t m [] h = absurd cc
first_of in_path s t m (c ∷ cs) h = (c, occurs_tested s m _ (left_true _ _ h), is_token_tested _ _ (right_true _ _ h))

pub inner_tested : (delimiters : List DelimiterText) (s : List ℕ) (in_path : Bool) (t : Token) (m n : ℕ) → inner_test delimiters s in_path t m n ≡ true → IsInside delimiters s in_path t m n
inner_tested delimiters s in_path t m n h =
    let rest = right_true _ _ h in
    let begins = first_of in_path s t m (chars (drop m s)) (left_true _ _ rest) in
    record { bare = none_tested delimiters s m (left_true _ _ h); first = begins.0; occurs = begins.1; of_kind = begins.2; extent = extent_tested s t m n (right_true _ _ rest) }

-- In a UTF-8 text a token that begins between two characters also ends between two.
use Rattle.std.proofs.Common.{◌≡◌, ℕ, ◌+◌, ◌<◌, ◌≤◌, inl, inr, Bool, true, false, List, [], ◌∷◌, ◌++◌, length, drop, Some, None, codes, rules, encode_utf8, encode_utf8_all, if◌then◌else◌, arith, refl, sym, ap, ◌∙◌, subst, append_assoc}
use Rattle.std.specs.Str.{IsUtf8, IsCharBoundary}
use Rattle.std.specs.Char.{is_ascii_digit, len_utf8}
use Rattle.std.proofs.lemmas.Bool.{cases_lt}
use Rattle.std.proofs.lemmas.Bool.Decides.{nat_tests}
use Rattle.std.proofs.lemmas.Str.{IsUtf8-drop, IsUtf8-past_char, IsCharBoundary-from_drop, IsCharBoundary-past_char, IsCharBoundary-end, encode_ascii, len_utf8_ascii}
use Rattle.unicode_ident.specs.Ident.{is_xid_continue}
use Rattle.upon_types.specs.declared.types.Delimiter.{Delimiter}
use Rattle.upon_types.specs.declared.types.token.Token.{Token}
use Rattle.upon_types.specs.declared.types.token.Token.TheVariants.{Raw, BeginExpr, EndExpr, BeginBlock, EndBlock, BeginComment, EndComment, QuestionDot, Whitespace, Keyword, Ident, Index, Number, String}
use Rattle.upon_types.specs.Span.{LiesIn}
use Rattle.upon_language_spec.specs.Search.{DelimiterText, text_at, HasTexts, Occurs, IsBestDelimiter}
use Rattle.upon_language_spec.specs.Raw.{IsRaw}
use Rattle.upon_language_spec.specs.Words.{is_tag_space, begins_name, IsRun}
use Rattle.upon_language_spec.specs.Inside.{Piece, plain, escape, pieces_text, string_text, IsQuoted, token_kind, continues_number, Extent, start_kind}
use Rattle.upon_language_spec.specs.Cut.{Mode, outside, in_tag, in_comment, IsToken}
use Rattle.upon_language_spec.proofs.SpansLieIn.Offsets.{drop-Occurs, occurs_lies_in}
use Rattle.upon_language_spec.specs.LiesIn.{HasUtf8}
use Rattle.upon_language_spec.proofs.SpansLieIn.Characters.{past_chars}
use Rattle.upon_language_spec.proofs.OneCut.Run.{run_ends}
use Rattle.upon_language_spec.proofs.OneCut.Quoted.{quoted_ends}
use Rattle.upon_language_spec.proofs.OneCut.Token.{step_ends}

-- of the characters that are not ASCII only those of names begin a token
high_begins_name : (in_path : Bool) (c : ℕ) → 128 ≤ c → token_kind in_path c ≡ (if begins_name c then Some Ident else None)
high_begins_name in_path c l = grind (arith, nat_tests)

is_ident : Token → Bool
is_ident Ident = true
is_ident t = false

only_ident : (t : Token) (b : Bool) → (if b then Some Ident else None) ≡ Some t → is_ident t ≡ false → ⊥
unfolding is_ident
only_ident t true e h = let same : Ident ≡ t = cc in let is : true ≡ is_ident t = ap is_ident same in cc
only_ident t false e h = cc

-- a token that is no name begins with an ASCII character
begins_low : (in_path : Bool) (c : ℕ) (t : Token) → token_kind in_path c ≡ Some t → is_ident t ≡ false → c < 128
begins_low in_path c t e h = elim (cases_lt c 128) [
  | inl l ↦ l
  | inr l ↦ absurd (only_ident t (begins_name c) (sym (high_begins_name in_path c l) ∙ e) h)
]

past_byte : (b : ℕ) (rest bs : List ℕ) → b < 128 → IsUtf8 bs → bs ≡ b ∷ rest → IsUtf8 rest
past_byte b rest bs low text e = IsUtf8-past_char bs rest b text (e ∙ ap (λ x. x ++ rest) (sym (encode_ascii b low)))

past_pieces : (ps : List Piece) (rest bs : List ℕ) → IsUtf8 bs → bs ≡ pieces_text ps ++ rest → IsUtf8 rest
past_pieces [] rest bs text e = subst IsUtf8 e text
past_pieces (plain c ∷ ps) rest bs text e =
    past_pieces ps rest (pieces_text ps ++ rest)
    (IsUtf8-past_char bs (pieces_text ps ++ rest) c text (e ∙ append_assoc (encode_utf8 c) (pieces_text ps) rest))
    refl
past_pieces (escape c ∷ ps) rest bs text e =
    past_pieces ps rest (pieces_text ps ++ rest)
    (IsUtf8-past_char ((encode_utf8 c ++ pieces_text ps) ++ rest) (pieces_text ps ++ rest) c (past_byte 92 ((encode_utf8 c ++ pieces_text ps) ++ rest) bs (omega arith) text e) (append_assoc (encode_utf8 c) (pieces_text ps) rest))
    refl

question_dot : IsUtf8 (codes "?.")
question_dot = search rules

module _ (s : List ℕ) (text : IsUtf8 s) (m : ℕ) (start : IsCharBoundary s m) where
  run_between : (test : ℕ → Bool) (n : ℕ) → IsRun test s m n → IsCharBoundary s n
  run_between test n run =
      let bytes = encode_utf8_all (run.first ∷ run.others) in
      let reads = drop-Occurs s m bytes run.occurs ∙ ap (λ k. bytes ++ drop k s) (sym run.to) in
      IsCharBoundary-from_drop s n (run_ends test s m n run).1 (past_chars (run.first ∷ run.others) (drop n s) (drop m s) (IsUtf8-drop s m text start) reads)

  quoted_between : (n : ℕ) → IsQuoted s m n → IsCharBoundary s n
  quoted_between n a =
      let rest = drop n s in
      let behind = pieces_text a.pieces ++ (34 ∷ rest) in
      let reads : drop m s ≡ 34 ∷ behind = drop-Occurs s m (string_text a.pieces) a.occurs ∙ ap (λ k. string_text a.pieces ++ drop k s) (sym a.to) ∙ ap (λ x. 34 ∷ x) (append_assoc (pieces_text a.pieces) (34 ∷ []) rest) in
      let inside = past_byte 34 behind (drop m s) (omega arith) (IsUtf8-drop s m text start) reads in
      let closing = past_pieces a.pieces (34 ∷ rest) behind inside refl in
      IsCharBoundary-from_drop s n (quoted_ends s m n a).1 (past_byte 34 rest (34 ∷ rest) (omega arith) closing refl)

  pub char_between : (c : ℕ) → Occurs s m (encode_utf8 c) → IsCharBoundary s (m + len_utf8 c)
  char_between c o = IsCharBoundary-past_char s (drop (m + length (encode_utf8 c)) s) m c start.0 (IsUtf8-drop s m text start) (drop-Occurs s m (encode_utf8 c) o)

  pub low_between : (c n : ℕ) → c < 128 → Occurs s m (encode_utf8 c) → n ≡ m + 1 → IsCharBoundary s n
  low_between c n low o e = subst (IsCharBoundary s) (ap (λ k. m + k) (len_utf8_ascii c low) ∙ sym e) (char_between c o)

  inner_between : (in_path : Bool) (t : Token) (c n : ℕ) → Occurs s m (encode_utf8 c) → token_kind in_path c ≡ Some (start_kind t) → Extent s t m n → IsCharBoundary s n
  unfolding is_ident
  inner_between in_path Whitespace c n o e a = run_between is_tag_space n a
  inner_between in_path Ident c n o e a = run_between is_xid_continue n a.0
  inner_between in_path Keyword c n o e a = run_between is_xid_continue n a.0
  inner_between in_path Number c n o e a = run_between continues_number n a
  inner_between in_path Index c n o e a = run_between is_ascii_digit n a
  inner_between in_path String c n o e a = quoted_between n a
  inner_between in_path QuestionDot c n o e a = subst (IsCharBoundary s) (sym a.1) (occurs_lies_in s m (codes "?.") (omega arith) a.0 text question_dot).end
  inner_between in_path Raw c n o e a = absurd a
  inner_between in_path BeginExpr c n o e a = absurd a
  inner_between in_path EndExpr c n o e a = absurd a
  inner_between in_path BeginBlock c n o e a = absurd a
  inner_between in_path EndBlock c n o e a = absurd a
  inner_between in_path BeginComment c n o e a = absurd a
  inner_between in_path EndComment c n o e a = absurd a
  inner_between in_path t c n o e a = low_between c n (begins_low in_path c (start_kind t) e refl) o a

module _ (delimiters : List DelimiterText) (s : List ℕ) (texts : HasTexts delimiters) (utf8 : HasUtf8 delimiters) (text : IsUtf8 s) where
  pub stands_between : (kind : Delimiter) (m n : ℕ) → IsBestDelimiter delimiters s kind m n → IsCharBoundary s m × IsCharBoundary s n
  stands_between kind m n h =
      let lies = occurs_lies_in s m (text_at delimiters h.index) (texts h.index h.best.in_range) h.best.occurs text (utf8 h.index h.best.in_range) in
      (lies.start, subst (IsCharBoundary s) (sym h.to) lies.end)

  raw_between : (m n : ℕ) → IsRaw delimiters s m n → IsCharBoundary s n
  raw_between m n h = elim h.ends [
    | inl e ↦ subst (IsCharBoundary s) (sym e) (IsCharBoundary-end s)
    | inr d ↦ (stands_between d.0 n d.1 d.2).0
  ]

  step_between : (mode : Mode) (t : Token) (hyphen : Bool) (m n : ℕ) → IsCharBoundary s m → IsToken delimiters s mode t hyphen m n → IsCharBoundary s n
  step_between outside t hyphen m n start (inl a) = raw_between m n a.2
  step_between outside t hyphen m n start (inr a) = (stands_between a.2.kind m n a.2.occurs).1
  step_between (in_tag sort in_path) t hyphen m n start (inl a) = (stands_between a.1.kind m n a.1.occurs).1
  step_between (in_tag sort in_path) t hyphen m n start (inr a) = inner_between s text m start in_path t a.1.first n a.1.occurs a.1.of_kind a.1.extent
  step_between in_comment t hyphen m n start (inl a) = raw_between m n a.2
  step_between in_comment t hyphen m n start (inr a) = (stands_between a.1.kind m n a.1.occurs).1

  -- a token lies in the text, on character boundaries
  pub step_lies_in : (mode : Mode) (t : Token) (hyphen : Bool) (m n : ℕ) → IsCharBoundary s m → IsToken delimiters s mode t hyphen m n → LiesIn s (record { m = m; n = n })
  step_lies_in mode t hyphen m n start step = record {
    ordered = omega (arith, (step_ends delimiters s mode t hyphen m n texts step).0);
    start = start;
    end = step_between mode t hyphen m n start step;
  }

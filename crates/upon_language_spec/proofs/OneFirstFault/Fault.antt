-- A fault of one row at one point has one span and one reason.
use Rattle.std.proofs.Common.{◌≡◌, inl, inr, ℕ, ◌+◌, ◌<◌, List, ◌∷◌, ◌++◌, length, Bool, Some, None, sym, ap, ◌∙◌, subst, arith, codes, encode_utf8, take, drop, length-take, length-drop}
use Rattle.std.proofs.lemmas.Bool.{cases_order}
use Rattle.upon_types.specs.declared.types.Span.{Span}
use Rattle.upon_types.specs.Token.{token_word}
use Rattle.upon_language_spec.specs.Search.{DelimiterText, HasTexts, Occurs}
use Rattle.upon_language_spec.specs.Delimiters.{Sort, end_sort, begin_token, end_token}
use Rattle.upon_language_spec.specs.Cut.{Lexeme, in_tag, Ends}
use Rattle.upon_language_spec.specs.Inside.{token_kind, IsInside}
use Rattle.upon_language_spec.proofs.OneCut.Delimiter.{one_stands}
use Rattle.upon_language_spec.proofs.OneCut.Run.{one_char, char_has_bytes}
use Rattle.upon_language_spec.proofs.OneCut.Inside.{one_inner}
use Rattle.upon_language_spec.proofs.OneCut.Cut.{one_cut_to}
use Rattle.upon_language_spec.specs.Reading.{ReadsTo, open_tag, first_span, open_brackets}
use Rattle.upon_language_spec.specs.Faults.{UnexpectedEnd, UnclosedTag, UnclosedBracket, UnexpectedClose, UnexpectedCharacter, UndelimitedString, awaited_sort, span_of, LineEnds, EndsQuestion, BeginsNoToken}

-- the span and the reason are the same
abbrev pub Same : Span → Span → List ℕ → List ℕ → Type 0
Same place other reason words = (place ≡ other) × (reason ≡ words)

-- no character is at the end of the text
pub nothing_at_end : (s : List ℕ) (n c : ℕ) → length s ≡ n → Occurs s n (encode_utf8 c) → ⊥
nothing_at_end s n c e o =
    let short : length (encode_utf8 c) ≡ length (take (length (encode_utf8 c)) (drop n s)) = ap length o in
    omega (arith, short, e, char_has_bytes c, length-take {A = ℕ}, length-drop {A = ℕ})

module _ (delimiters : List DelimiterText) (s : List ℕ) (texts : HasTexts delimiters) (p : ℕ) (place other : Span) (reason words : List ℕ) where
  pub one_ends : (a b : Sort) (h k : Bool) (m n : ℕ) → Ends delimiters s a h p m → Ends delimiters s b k p n → (a ≡ b) × (m ≡ n)
  one_ends a b h k m n x y =
      let e = one_stands delimiters s x.kind y.kind p m n x.occurs y.occurs in
      let kinds : x.kind ≡ y.kind = e.0 in
      let sorts : Some a ≡ Some b = sym x.of_sort ∙ ap end_sort kinds ∙ y.of_sort in
      (cc, e.1)

  pub one_unexpected_end : UnexpectedEnd delimiters s p place reason → UnexpectedEnd delimiters s p other words → Same place other reason words
  one_unexpected_end a b =
      let e = one_ends a.sort b.sort a.hyphen b.hyphen a.to b.to a.ends b.ends in
      let sorts : a.sort ≡ b.sort = e.0 in
      (a.at ∙ ap (span_of p) e.1 ∙ sym b.at, a.words ∙ ap (λ x. codes "unexpected " ++ token_word (end_token x)) sorts ∙ sym b.words)

  pub one_unclosed_tag : UnclosedTag delimiters s p place reason → UnclosedTag delimiters s p other words → Same place other reason words
  one_unclosed_tag a b =
      let e = one_cut_to delimiters s a.mode b.mode p a.lexemes b.lexemes texts a.reads b.reads in
      let places : Some place ≡ Some other = sym a.at ∙ ap (λ x. first_span (open_tag x)) e.0 ∙ b.at in
      let sorts : Some a.sort ≡ Some b.sort = sym a.awaits ∙ ap awaited_sort e.1 ∙ b.awaits in
      let same : a.sort ≡ b.sort = cc in
      (cc, a.words ∙ ap (λ x. codes "unclosed " ++ token_word (begin_token x)) same ∙ sym b.words)

  pub one_unclosed_bracket : UnclosedBracket delimiters s p place reason → UnclosedBracket delimiters s p other words → Same place other reason words
  one_unclosed_bracket a b =
      let e = one_cut_to delimiters s (in_tag a.sort a.in_path) (in_tag b.sort b.in_path) p a.lexemes b.lexemes texts a.reads b.reads in
      let brackets : (a.bracket ∷ a.others) ≡ (b.bracket ∷ b.others) = sym a.brackets ∙ ap open_brackets e.0 ∙ b.brackets in
      let same : a.bracket ≡ b.bracket = cc in
      (a.at ∙ ap (λ (x : Lexeme). x.span) same ∙ sym b.at, a.words ∙ ap (λ (x : Lexeme). codes "unclosed " ++ token_word x.token) same ∙ sym b.words)

  pub same_path : (sort sort' : Sort) (path path' : Bool) (ls ks : List Lexeme) → ReadsTo delimiters s ls (in_tag sort path) p → ReadsTo delimiters s ks (in_tag sort' path') p → (ls ≡ ks) × (sort ≡ sort') × (path ≡ path')
  same_path sort sort' path path' ls ks x y =
      let e = one_cut_to delimiters s (in_tag sort path) (in_tag sort' path') p ls ks texts x y in
      let modes : in_tag sort path ≡ in_tag sort' path' = e.1 in
      (e.0, cc, cc)

  pub one_unexpected_close : UnexpectedClose delimiters s p place reason → UnexpectedClose delimiters s p other words → Same place other reason words
  one_unexpected_close a b =
      let e = same_path a.sort b.sort a.in_path b.in_path a.lexemes b.lexemes a.reads b.reads in
      let F : Bool → Type 0 = λ x. IsInside delimiters s x a.t p a.to in
      let inner = one_inner delimiters s b.in_path a.t b.t p a.to b.to (subst F e.2 a.occurs) b.occurs in
      (a.at ∙ ap (span_of p) inner.1 ∙ sym b.at, a.words ∙ ap (λ x. codes "unexpected " ++ token_word x) inner.0 ∙ sym b.words)

  one_question : (m n : ℕ) → EndsQuestion s p m → EndsQuestion s p n → m ≡ n
  one_question m n (inl a) (inl b) = a.1 ∙ sym b.1
  one_question m n (inl a) (inr b) = absurd (nothing_at_end s (p + 1) b.0 (sym a.0) b.1)
  one_question m n (inr a) (inl b) = absurd (nothing_at_end s (p + 1) a.0 (sym b.0) a.1)
  one_question m n (inr a) (inr b) = let e = one_char s (p + 1) a.0 b.0 a.1 b.1 in a.2 ∙ ap (λ c. p + 1 + length (encode_utf8 c)) e ∙ sym b.2

  no_question : (path : Bool) → token_kind path 63 ≡ None → ⊥
  no_question path h = absurd cc

  one_beginless : (path : Bool) (c : ℕ) (m n : ℕ) → BeginsNoToken s path c p m → BeginsNoToken s path c p n → m ≡ n
  one_beginless path c m n (inl a) (inl b) = a.1 ∙ sym b.1
  one_beginless path c m n (inl a) (inr b) = absurd (no_question path (subst (λ x. token_kind path x ≡ None) b.0 a.0))
  one_beginless path c m n (inr a) (inl b) = absurd (no_question path (subst (λ x. token_kind path x ≡ None) a.0 b.0))
  one_beginless path c m n (inr a) (inr b) = one_question m n a.2 b.2

  pub one_unexpected_character : UnexpectedCharacter delimiters s p place reason → UnexpectedCharacter delimiters s p other words → Same place other reason words
  one_unexpected_character a b =
      let e = same_path a.sort b.sort a.in_path b.in_path a.lexemes b.lexemes a.reads b.reads in
      let c = one_char s p a.c b.c a.occurs b.occurs in
      let F : Bool → Type 0 = λ x. BeginsNoToken s x a.c p a.to in
      let G : ℕ → Type 0 = λ x. BeginsNoToken s b.in_path x p a.to in
      let ends = one_beginless b.in_path b.c a.to b.to (subst G c (subst F e.2 a.nothing)) b.nothing in
      (a.at ∙ ap (span_of p) ends ∙ sym b.at, a.words ∙ sym b.words)

  not_before : (m n : ℕ) → LineEnds s p m → LineEnds s p n → m < n → ⊥
  not_before m n a b l = elim a.ends [ inl e ↦ omega (arith, e, b.within) | inr h ↦ let x = b.none m a.start l in let y = h.1 in cc ]

  one_line : (m n : ℕ) → LineEnds s p m → LineEnds s p n → m ≡ n
  one_line m n a b = elim (cases_order m n) [ inl e ↦ e | inr d ↦ elim d [ inl l ↦ absurd (not_before m n a b l) | inr l ↦ absurd (not_before n m b a l) ] ]

  pub one_undelimited_string : UndelimitedString delimiters s p place reason → UndelimitedString delimiters s p other words → Same place other reason words
  one_undelimited_string a b = (a.at ∙ ap (span_of p) (one_line a.to b.to a.line b.line) ∙ sym b.at, a.words ∙ sym b.words)

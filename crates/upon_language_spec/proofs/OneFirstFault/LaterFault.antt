-- A fault of a later row at one point has one span and one reason: tokens, comments, literals and blocks.
use Rattle.std.proofs.Common.{◌≡◌, inl, inr, ℕ, ◌+◌, List, [], ◌∷◌, ◌++◌, Bool, Some, refl, sym, ap, ◌∙◌, subst, codes, ◌==◌, if◌then◌else◌}
use Rattle.std.proofs.lemmas.Bool.{cases_order}
use Rattle.upon_types.specs.declared.types.Span.{Span}
use Rattle.upon_types.specs.declared.types.token.Token.{Token}
use Rattle.upon_types.specs.declared.types.token.Token.TheVariants.{EndBlock, Index, Number}
use Rattle.upon_types.specs.Span.{slice}
use Rattle.upon_language_spec.specs.Search.{DelimiterText, HasTexts}
use Rattle.upon_language_spec.specs.Delimiters.{Sort, block, comment, has_hyphen}
use Rattle.upon_language_spec.specs.Cut.{Lexeme, Mode, outside, in_tag, in_comment, IsToken}
use Rattle.upon_language_spec.specs.Inside.{IsInside}
use Rattle.upon_language_spec.specs.LiteralFaults.{escape_fault}
use Rattle.upon_language_spec.proofs.OneCut.Delimiter.{one_stands}
use Rattle.upon_language_spec.proofs.OneCut.Inside.{one_inner}
use Rattle.upon_language_spec.proofs.OneCut.Quoted.{one_quoted}
use Rattle.upon_language_spec.proofs.OneCut.Token.{one_step}
use Rattle.upon_language_spec.proofs.OneCut.Cut.{one_cut_to}
use Rattle.upon_language_spec.specs.Reading.{ReadsTo, open_tag, first_span, last_of}
use Rattle.upon_types.specs.BlockKinds.{block_word}
use Rattle.upon_language_spec.specs.Blocks.{OpenBlock, closer_of, open_blocks, outermost, closer_words}
use Rattle.upon_language_spec.specs.Tokens.{significant}
use Rattle.upon_language_spec.specs.Tags.{Symbol, word_of}
use Rattle.upon_language_spec.specs.Wanted.{Wanted, an_expression, a_string, a_name_or_index, an_end_expression, an_end_block, a_close_paren, a_close_bracket, a_close_brace, an_in, an_as, a_block_word, a_name, a_number, a_colon, rank, IsWanted, reason_for, wanted_at_end, expected_found, in_quotes}
use Rattle.upon_language_spec.specs.Faults.{UnexpectedToken, UnexpectedEof, span_of, tag_tokens, tag_row, lexeme_at}
use Rattle.upon_language_spec.specs.LaterFaults.{EmptyComment, CommentEof, Report, number_report, WrongNumber, WrongIndex, WrongEscape, UnexpectedBlock, UnclosedBlock, is_comment_begin, comment_wants}
use Rattle.upon_language_spec.proofs.OneFirstFault.Fault.{Same, same_path, one_ends}

one_some : {A : Type 0} (x y : A) → Some x ≡ Some y → x ≡ y
one_some x y e = cc

by_rank : ℕ → Wanted
by_rank n = if n == 0 then an_expression else (if n == 1 then a_string else (if n == 2 then a_name_or_index else (if n == 3 then an_end_expression
    else (if n == 4 then an_end_block else (if n == 5 then a_close_paren else (if n == 6 then a_close_bracket else (if n == 7 then a_close_brace
    else (if n == 8 then an_in else (if n == 9 then an_as else (if n == 10 then a_block_word else (if n == 11 then a_name else (if n == 12 then a_number else a_colon))))))))))))

by_rank-rank : (w : Wanted) → by_rank (rank w) ≡ w
unfolding by_rank
by_rank-rank an_expression = refl
by_rank-rank a_string = refl
by_rank-rank a_name_or_index = refl
by_rank-rank an_end_expression = refl
by_rank-rank an_end_block = refl
by_rank-rank a_close_paren = refl
by_rank-rank a_close_bracket = refl
by_rank-rank a_close_brace = refl
by_rank-rank an_in = refl
by_rank-rank an_as = refl
by_rank-rank a_block_word = refl
by_rank-rank a_name = refl
by_rank-rank a_number = refl
by_rank-rank a_colon = refl

same_rank : (v w : Wanted) → rank v ≡ rank w → v ≡ w
same_rank v w e = sym (by_rank-rank v) ∙ ap by_rank e ∙ by_rank-rank w

-- a row wants one word
pub one_wanted : (row : List Symbol) (v w : Wanted) → IsWanted row v → IsWanted row w → v ≡ w
one_wanted row v w a b = elim (cases_order (rank v) (rank w)) [
  | inl e ↦ same_rank v w e
  | inr d ↦ elim d [ inl l ↦ absurd (b.least v l a.may_follow) | inr l ↦ absurd (a.least w l b.may_follow) ]
]

module _ (delimiters : List DelimiterText) (s : List ℕ) (texts : HasTexts delimiters) (p : ℕ) (place other : Span) (reason words : List ℕ) where
  wanted_alike : (ls ks : List Lexeme) (v w : Wanted) → ls ≡ ks → IsWanted (tag_row s ls) v → IsWanted (tag_row s ks) w → v ≡ w
  wanted_alike ls ks v w e a b = let F : List Lexeme → Type 0 = λ x. IsWanted (tag_row s x) v in one_wanted (tag_row s ks) v w (subst F e a) b

  pub one_unexpected_token : UnexpectedToken delimiters s p place reason → UnexpectedToken delimiters s p other words → Same place other reason words
  one_unexpected_token a b =
      let e = one_cut_to delimiters s (in_tag a.sort a.in_path) (in_tag b.sort b.in_path) p a.lexemes b.lexemes texts a.reads b.reads in
      let F : Mode → Type 0 = λ x. IsToken delimiters s x a.t a.hyphen p a.to in
      let step = one_step delimiters s (in_tag b.sort b.in_path) a.t b.t a.hyphen b.hyphen p a.to b.to (subst F e.1 a.occurs) b.occurs in
      let tokens : a.t ≡ b.t = step.0 in
      let ends : a.to ≡ b.to = step.2 in
      let wanted : a.wanted ≡ b.wanted = wanted_alike a.lexemes b.lexemes a.wanted b.wanted e.0 a.wants b.wants in
      (a.at ∙ ap (span_of p) ends ∙ sym b.at, a.words ∙ (λ i. reason_for (wanted i) (tokens i) (word_of s (tokens i) (span_of p (ends i)))) ∙ sym b.words)

  pub one_unexpected_eof : UnexpectedEof delimiters s p place reason → UnexpectedEof delimiters s p other words → Same place other reason words
  one_unexpected_eof a b =
      let e = one_cut_to delimiters s (in_tag a.sort a.in_path) (in_tag b.sort b.in_path) p a.lexemes b.lexemes texts a.reads b.reads in
      let wanted = wanted_alike a.lexemes b.lexemes a.wanted b.wanted e.0 a.wants b.wants in
      (a.at ∙ sym b.at, a.words ∙ ap (λ w. expected_found (wanted_at_end w) (codes "EOF")) wanted ∙ sym b.words)

  pub one_empty_comment : EmptyComment delimiters s p place reason → EmptyComment delimiters s p other words → Same place other reason words
  one_empty_comment a b =
      let e = one_ends delimiters s texts p place other reason words comment comment a.hyphen b.hyphen a.to b.to a.ends b.ends in
      (a.at ∙ ap (span_of p) e.1 ∙ sym b.at, a.words ∙ sym b.words)

  pub one_comment_eof : CommentEof delimiters s p place reason → CommentEof delimiters s p other words → Same place other reason words
  one_comment_eof a b =
      let e = one_cut_to delimiters s in_comment in_comment p a.lexemes b.lexemes texts a.reads b.reads in
      (a.at ∙ sym b.at, a.words ∙ ap (λ x. expected_found (comment_wants (is_comment_begin (last_of x))) (codes "EOF")) e.0 ∙ sym b.words)

  one_end : (t : Token) (sort sort' : Sort) (path path' : Bool) (ls ks : List Lexeme) (m n : ℕ) → ReadsTo delimiters s ls (in_tag sort path) p → ReadsTo delimiters s ks (in_tag sort' path') p → IsInside delimiters s path t p m → IsInside delimiters s path' t p n → (ls ≡ ks) × (m ≡ n)
  one_end t sort sort' path path' ls ks m n x y a b =
      let e = same_path delimiters s texts p place other reason words sort sort' path path' ls ks x y in
      let F : Bool → Type 0 = λ z. IsInside delimiters s z t p m in
      (e.0, (one_inner delimiters s path' t t p m n (subst F e.2 a) b).1)

  pub one_wrong_number : WrongNumber delimiters s p place reason → WrongNumber delimiters s p other words → Same place other reason words
  one_wrong_number a b =
      let e = one_end Number a.sort b.sort a.in_path b.in_path a.lexemes b.lexemes a.to b.to a.reads b.reads a.occurs b.occurs in
      let lexemes : a.lexemes ≡ b.lexemes = e.0 in
      let ends : a.to ≡ b.to = e.1 in
      let tolds : Some (record { span = place; reason = reason }) ≡ Some (record { span = other; reason = words }) =
      sym a.words ∙ (λ i. number_report (slice s (span_of p (ends i))) (last_of (tag_tokens (lexemes i))) p (ends i)) ∙ b.words in
      let same : record { span = place; reason = reason } ≡ record { span = other; reason = words } = one_some _ _ tolds in
      (ap (λ (x : Report). x.span) same, ap (λ (x : Report). x.reason) same)

  pub one_wrong_index : WrongIndex delimiters s p place reason → WrongIndex delimiters s p other words → Same place other reason words
  one_wrong_index a b =
      let e = one_end Index a.sort b.sort a.in_path b.in_path a.lexemes b.lexemes a.to b.to a.reads b.reads a.occurs b.occurs in
      (a.at ∙ ap (span_of p) e.1 ∙ sym b.at, a.words ∙ sym b.words)

  pub one_wrong_escape : WrongEscape delimiters s p place reason → WrongEscape delimiters s p other words → Same place other reason words
  one_wrong_escape a b =
      let e = one_quoted s p a.to b.to a.string b.string in
      let found : Some (a.from, a.long) ≡ Some (b.from, b.long) = sym a.escape ∙ ap (escape_fault (p + 1)) e.0 ∙ b.escape in
      let same : (a.from, a.long) ≡ (b.from, b.long) = one_some _ _ found in
      (a.at ∙ ap (λ (x : ℕ × ℕ). span_of x.0 (x.0 + x.1)) same ∙ sym b.at, a.words ∙ sym b.words)

  pub one_unexpected_block : UnexpectedBlock delimiters s p place reason → UnexpectedBlock delimiters s p other words → Same place other reason words
  one_unexpected_block a b =
      let e = one_cut_to delimiters s (in_tag block a.in_path) (in_tag block b.in_path) p a.lexemes b.lexemes texts a.reads b.reads in
      let stand = one_stands delimiters s a.ends.kind b.ends.kind p a.to b.to a.ends.occurs b.ends.occurs in
      let kinds : a.ends.kind ≡ b.ends.kind = stand.0 in
      let ends : a.to ≡ b.to = stand.1 in
      let hyphens : a.hyphen ≡ b.hyphen = sym a.ends.of_hyphen ∙ ap has_hyphen kinds ∙ b.ends.of_hyphen in
      let lexemes : a.lexemes ≡ b.lexemes = e.0 in
      let begins : Some a.begin ≡ Some b.begin = sym a.begins ∙ ap (λ x. first_span (open_tag x)) lexemes ∙ b.begins in
      let starts : a.begin ≡ b.begin = one_some _ _ begins in
      let closings : Some a.closer ≡ Some b.closer = sym a.closing ∙ (λ i. closer_of s (tag_tokens (lexemes i) ++ lexeme_at EndBlock (hyphens i) p (ends i) ∷ [])) ∙ b.closing in
      let closers : a.closer ≡ b.closer = one_some _ _ closings in
      (a.at ∙ (λ i. let begin : Span = starts i in span_of begin.m (ends i)) ∙ sym b.at, a.words ∙ ap (λ c. codes "unexpected " ++ (in_quotes (closer_words c) ++ codes " block")) closers ∙ sym b.words)

  pub one_unclosed_block : UnclosedBlock delimiters s p place reason → UnclosedBlock delimiters s p other words → Same place other reason words
  one_unclosed_block a b =
      let e = one_cut_to delimiters s outside outside p a.lexemes b.lexemes texts a.reads b.reads in
      let outer : Some a.opening ≡ Some b.opening = sym a.outer ∙ ap (λ x. outermost (open_blocks s (significant x))) e.0 ∙ b.outer in
      let same : a.opening ≡ b.opening = one_some _ _ outer in
      (a.at ∙ ap (λ (o : OpenBlock). o.span) same ∙ sym b.at, a.words ∙ ap (λ (o : OpenBlock). codes "unclosed " ++ (in_quotes (block_word o.kind) ++ codes " block")) same ∙ sym b.words)

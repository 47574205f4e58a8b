-- Which fault a text has where a tag's tokens are stuck, and that no other one is before it.
use Rattle.std.proofs.Common.{codes, ◌^◌, ◌≡◌, inl, inr, ℕ, ◌<◌, ◌≤◌, ◌+◌, List, [], ◌∷◌, ◌++◌, length, Bool, true, false, Some, None, nat_lt, refl, sym, ap, ◌∙◌, subst, arith}
use Rattle.std.proofs.lemmas.Bool.{cases_order}
use Rattle.upon_types.specs.declared.types.Span.{Span}
use Rattle.upon_types.specs.declared.types.token.Token.{Token}
use Rattle.upon_types.specs.declared.types.token.Token.TheVariants.{EndBlock, Keyword, Number, Index, String}
use Rattle.upon_types.specs.Span.{slice}
use Rattle.upon_language_spec.specs.Search.{DelimiterText, HasTexts}
use Rattle.upon_language_spec.specs.Delimiters.{Sort, block}
use Rattle.upon_language_spec.specs.Cut.{Lexeme, Mode, outside, in_tag, in_comment, IsToken}
use Rattle.upon_language_spec.specs.Inside.{IsInside, IsQuoted}
use Rattle.upon_language_spec.specs.Tokens.{is_space}
use Rattle.upon_language_spec.specs.Reading.{ReadsTo, last_of}
use Rattle.upon_language_spec.specs.Literal.{digits_in}
use Rattle.upon_language_spec.specs.LiteralFaults.{index_value, escape_fault}
use Rattle.upon_language_spec.specs.Tags.{Symbol, symbol_of, symbols_of, word_of, BeginsTag}
use Rattle.upon_language_spec.specs.Wanted.{Wanted, reason_for, expected_found, wanted_at_end}
use Rattle.upon_language_spec.specs.Faults.{span_of, tag_tokens, tag_row, lexeme_at, UnexpectedToken, UnexpectedEof}
use Rattle.upon_language_spec.specs.LaterFaults.{number_report, WrongIndex, UnexpectedBlock}
use Rattle.upon_language_spec.specs.FirstFault.{SyntaxFault, unexpected_end, unclosed_tag, unclosed_bracket, unexpected_close, unexpected_character, undelimited_string, unexpected_token, unexpected_eof, empty_comment, comment_eof, wrong_number, wrong_index, wrong_escape, unexpected_block, unclosed_block, fault_rank, Holds, NotAfter, IsFirstFault}
use Rattle.upon_language_spec.specs.CutFaults.{ends_cutting, ClearTo}
use Rattle.upon_language_spec.proofs.OneCut.Cut.{one_cut_to}
use Rattle.upon_language_spec.proofs.OneCut.Token.{one_step, step_ends}
use Rattle.upon_language_spec.specs.Parts.{Part, after_symbol, wanted_at}
use Rattle.upon_language_spec.specs.OpenParts.{StandsAt}
use Rattle.upon_language_spec.specs.Stages.{AllClear}
use Rattle.upon_language_spec.proofs.Wanted.LeadingBegins.{IsPlain, ArePlain}
use Rattle.upon_language_spec.proofs.Wanted.WantedAt.{may_follow, may_not_follow, wants}
use Rattle.upon_language_spec.proofs.Offsets.Clear.{no_read_inside}
use Rattle.upon_language_spec.proofs.NoTreeWithFault.Literal.{nothing_is_told}

-- symbols of a text are plain
pub word_plain : (s : List ℕ) (t : Token) (at : Span) → IsPlain (record { token = t; word = word_of s t at })
word_plain s Keyword at = refl
word_plain s t at = refl

pub symbols_plain : (s : List ℕ) (ls : List Lexeme) → ArePlain (symbols_of s ls)
symbols_plain s [] = tt
symbols_plain s (l ∷ ls) = (word_plain s l.token l.span, symbols_plain s ls)

module _ (delimiters : List DelimiterText) (s : List ℕ) (p : ℕ) (ls : List Lexeme) (sort : Sort) (in_path : Bool) (reads : ReadsTo delimiters s ls (in_tag sort in_path) p) (ps : List Part) (stands : StandsAt s ls ps) where
  -- a token that may not be there is reported, with the word that is wanted
  pub stuck_token : (t : Token) (hyphen : Bool) (to : ℕ) (w : Wanted) → IsToken delimiters s (in_tag sort in_path) t hyphen p to → is_space t ≡ false → after_symbol ps (symbol_of s (lexeme_at t hyphen p to)) ≡ None → wanted_at ps ≡ Some w → UnexpectedToken delimiters s p (span_of p to) (reason_for w t (word_of s t (span_of p to)))
  stuck_token t hyphen to w step counts refused wanted = record {
    lexemes = ls;
    sort = sort;
    in_path = in_path;
    reads = reads;
    t = t;
    hyphen = hyphen;
    to = to;
    occurs = step;
    counts = counts;
    wanted = w;
    wants = wants (tag_row s ls) ps w (symbols_plain s (tag_tokens ls)) stands wanted;
    stuck = may_not_follow (tag_row s ls) ps (symbol_of s (lexeme_at t hyphen p to)) stands refused;
    at = refl;
    words = refl;
  }

  pub stuck_end : (w : Wanted) → p ≡ length s → wanted_at ps ≡ Some w → UnexpectedEof delimiters s p (span_of p p) (expected_found (wanted_at_end w) (codes "EOF"))
  stuck_end w at_end wanted = record {
    lexemes = ls;
    sort = sort;
    in_path = in_path;
    reads = reads;
    eof = at_end;
    wanted = w;
    wants = wants (tag_row s ls) ps w (symbols_plain s (tag_tokens ls)) stands wanted;
    at = refl;
    words = refl;
  }

  pub large_index : (next : List Part) (to : ℕ) → IsInside delimiters s in_path Index p to → after_symbol ps (record { token = Index; word = [] }) ≡ Some next → nat_lt (index_value (digits_in 10 (slice s (span_of p to)))) (2 ^ 64) ≡ false → WrongIndex delimiters s p (span_of p to) (codes "base 10 literal out of range for unsigned 64-bit integer")
  large_index next to inner fits large = record {
    lexemes = ls;
    sort = sort;
    in_path = in_path;
    reads = reads;
    to = to;
    occurs = inner;
    fits = may_follow (tag_row s ls) ps next (record { token = Index; word = [] }) (symbols_plain s (tag_tokens ls)) refl stands fits;
    large = large;
    at = refl;
    words = refl;
  }

-- no fault of the later kinds holds there
abbrev pub NoLaterFault : List DelimiterText → List ℕ → ℕ → Type 0
NoLaterFault delimiters s p = (row : SyntaxFault) (place : Span) (reason : List ℕ) → ends_cutting row ≡ false → Holds delimiters s row p place reason → ⊥

reads_of : (delimiters : List DelimiterText) (s : List ℕ) (row : SyntaxFault) (p : ℕ) (place : Span) (reason : List ℕ) → Holds delimiters s row p place reason → (ls : List Lexeme) × (mode : Mode) × ReadsTo delimiters s ls mode p
reads_of delimiters s unexpected_end p place reason f = (f.lexemes, f.mode, f.reads)
reads_of delimiters s unclosed_tag p place reason f = (f.lexemes, f.mode, f.reads)
reads_of delimiters s unclosed_bracket p place reason f = (f.lexemes, in_tag f.sort f.in_path, f.reads)
reads_of delimiters s unexpected_close p place reason f = (f.lexemes, in_tag f.sort f.in_path, f.reads)
reads_of delimiters s unexpected_character p place reason f = (f.lexemes, in_tag f.sort f.in_path, f.reads)
reads_of delimiters s undelimited_string p place reason f = (f.lexemes, in_tag f.sort f.in_path, f.reads)
reads_of delimiters s unexpected_token p place reason f = (f.lexemes, in_tag f.sort f.in_path, f.reads)
reads_of delimiters s unexpected_eof p place reason f = (f.lexemes, in_tag f.sort f.in_path, f.reads)
reads_of delimiters s empty_comment p place reason f = (f.lexemes, in_comment, f.reads)
reads_of delimiters s comment_eof p place reason f = (f.lexemes, in_comment, f.reads)
reads_of delimiters s wrong_number p place reason f = (f.lexemes, in_tag f.sort f.in_path, f.reads)
reads_of delimiters s wrong_index p place reason f = (f.lexemes, in_tag f.sort f.in_path, f.reads)
reads_of delimiters s wrong_escape p place reason f = (f.lexemes, in_tag f.sort f.in_path, f.reads)
reads_of delimiters s unexpected_block p place reason f = (f.lexemes, in_tag block f.in_path, f.reads)
reads_of delimiters s unclosed_block p place reason f = (f.lexemes, outside, f.reads)

-- the other rows come after those that end the cutting
pub late : (row : SyntaxFault) → ends_cutting row ≡ false → 6 ≤ fault_rank row
late unexpected_end e = absurd cc
late unclosed_tag e = absurd cc
late unclosed_bracket e = absurd cc
late unexpected_close e = absurd cc
late unexpected_character e = absurd cc
late undelimited_string e = absurd cc
late unexpected_token e = omega arith
late unexpected_eof e = omega arith
late empty_comment e = omega arith
late comment_eof e = omega arith
late wrong_number e = omega arith
late wrong_index e = omega arith
late wrong_escape e = omega arith
late unexpected_block e = omega arith
late unclosed_block e = omega arith

module _ (delimiters : List DelimiterText) (s : List ℕ) (texts : HasTexts delimiters) where
  by_kind : (p q : ℕ) (row : SyntaxFault) (place : Span) (reason : List ℕ) (b : Bool) → ends_cutting row ≡ b → q ≡ p → p < q + 1 → ClearTo delimiters s (p + 1) → NoLaterFault delimiters s p → Holds delimiters s row q place reason → ⊥
  by_kind p q row place reason true e same l clear none f = clear q (omega (arith, same)) row place reason e f
  by_kind p q row place reason false e same l clear none f = let F : ℕ → Type 0 = λ x. Holds delimiters s row x place reason in none row place reason e (subst F same f)

  clear_less : (m n : ℕ) → m ≤ n → ClearTo delimiters s n → ClearTo delimiters s m
  clear_less m n l clear q below = clear q (omega (arith, below, l))

  -- after a token at which no fault of a later kind holds, all is clear to its end
  pub clear_behind : (mode : Mode) (p to : ℕ) (ls : List Lexeme) (t : Token) (hyphen : Bool) → ReadsTo delimiters s ls mode p → IsToken delimiters s mode t hyphen p to → ClearTo delimiters s to → NoLaterFault delimiters s p → AllClear delimiters s p → AllClear delimiters s to
  clear_behind mode p to ls t hyphen reads step clear none before row q place reason below f = elim (cases_order q p) [
    | inl here ↦ let ends = step_ends delimiters s mode t hyphen p to texts step in by_kind p q row place reason (ends_cutting row) refl here (omega (arith, here)) (clear_less (p + 1) to (omega (arith, ends.0)) clear) none f
    | inr other ↦ elim other [
      | inl less ↦ before row q place reason less f
      | inr more ↦
          let there = reads_of delimiters s row q place reason f in
          let past = no_read_inside delimiters s texts mode there.1 p to q ls there.0 t hyphen reads step there.2 more in
          omega (arith, past, below)
    ]
  ]

  -- a token in a tag that may be there and is fine
  pub record Fits (ls : List Lexeme) (in_path : Bool) (p : ℕ) (t : Token) (hyphen : Bool) (to : ℕ) : Type 0 where
    pub ps : List Part
    pub occurs : StandsAt s ls ps
    pub next : List Part
    pub fits : is_space t ≡ false → after_symbol ps (symbol_of s (lexeme_at t hyphen p to)) ≡ Some next
    pub number : t ≡ Number → number_report (slice s (span_of p to)) (last_of (tag_tokens ls)) p to ≡ None
    pub index : t ≡ Index → nat_lt (index_value (digits_in 10 (slice s (span_of p to)))) (2 ^ 64) ≡ true
    pub string : t ≡ String → (q : IsQuoted s p to) → escape_fault (p + 1) q.pieces ≡ None
    pub taken : t ≡ EndBlock → (place : Span) (reason : List ℕ) → UnexpectedBlock delimiters s p place reason → ⊥

  module _ (sort : Sort) (in_path : Bool) (p to : ℕ) (ls : List Lexeme) (t : Token) (hyphen : Bool) (reads : ReadsTo delimiters s ls (in_tag sort in_path) p) (step : IsToken delimiters s (in_tag sort in_path) t hyphen p to) where
    pub alike : (ks : List Lexeme) (mode : Mode) → ReadsTo delimiters s ks mode p → (ks ≡ ls) × (mode ≡ in_tag sort in_path)
    alike ks mode h = one_cut_to delimiters s mode (in_tag sort in_path) p ks ls texts h reads

    pub in_mode : (mode : Mode) (u : Token) (other : Bool) (k : ℕ) → mode ≡ in_tag sort in_path → IsToken delimiters s mode u other p k → (u ≡ t) × (other ≡ hyphen) × (k ≡ to)
    in_mode mode u other k e x = let F : Mode → Type 0 = λ m. IsToken delimiters s m u other p k in one_step delimiters s (in_tag sort in_path) u t other hyphen p k to (subst F e x) step

    pub not_comment : in_comment ≡ in_tag sort in_path → ⊥
    not_comment e = cc

    not_outside : outside ≡ in_tag sort in_path → ⊥
    not_outside e = cc

    pub not_at_end : p ≡ length s → ⊥
    not_at_end e = let ends = step_ends delimiters s (in_tag sort in_path) t hyphen p to texts step in omega (arith, e, ends.0, ends.1)

    pub fitting_is_not_stuck : (f : Fits ls in_path p t hyphen to) (row : List Symbol) (x : Symbol) → row ≡ tag_row s ls → x ≡ symbol_of s (lexeme_at t hyphen p to) → is_space t ≡ false → (BeginsTag (row ++ x ∷ []) → ⊥) → ⊥
    fitting_is_not_stuck f row x e same counts stuck =
        let begins = may_follow (tag_row s ls) f.ps f.next (symbol_of s (lexeme_at t hyphen p to)) (symbols_plain s (tag_tokens ls)) (word_plain s t (span_of p to)) f.occurs (f.fits counts) in
        stuck (let F : List Symbol → Type 0 = λ y. BeginsTag y in subst F (sym (ap (λ (y : List Symbol). y ++ x ∷ []) e ∙ ap (λ (y : Symbol). tag_row s ls ++ y ∷ []) same)) begins)

    -- no fault of a later kind holds where it is
    pub fitting_clears : Fits ls in_path p t hyphen to → NoLaterFault delimiters s p
    fitting_clears x unexpected_token place reason e f =
        let a = alike f.lexemes (in_tag f.sort f.in_path) f.reads in
        let b = in_mode (in_tag f.sort f.in_path) f.t f.hyphen f.to a.1 f.occurs in
        fitting_is_not_stuck x (tag_row s f.lexemes) (symbol_of s (lexeme_at f.t f.hyphen p f.to)) (ap (tag_row s) a.0) (λ i. symbol_of s (lexeme_at (b.0 i) (b.1 i) p (b.2 i))) (sym (ap is_space b.0) ∙ f.counts) f.stuck
    fitting_clears x unexpected_eof place reason e f = not_at_end f.eof
    fitting_clears x empty_comment place reason e f = not_comment (alike f.lexemes in_comment f.reads).1
    fitting_clears x comment_eof place reason e f = not_at_end f.eof
    fitting_clears x wrong_number place reason e f =
        let a = alike f.lexemes (in_tag f.sort f.in_path) f.reads in
        let b = in_mode (in_tag f.sort f.in_path) Number false f.to a.1 (inr (refl, f.occurs)) in
        let same : number_report (slice s (span_of p f.to)) (last_of (tag_tokens f.lexemes)) p f.to ≡ number_report (slice s (span_of p to)) (last_of (tag_tokens ls)) p to = λ i. number_report (slice s (span_of p (b.2 i))) (last_of (tag_tokens (a.0 i))) p (b.2 i) in
        nothing_is_told (number_report (slice s (span_of p f.to)) (last_of (tag_tokens f.lexemes)) p f.to) (record { span = place; reason = reason }) (same ∙ x.number (sym b.0)) f.words
    fitting_clears x wrong_index place reason e f =
        let a = alike f.lexemes (in_tag f.sort f.in_path) f.reads in
        let b = in_mode (in_tag f.sort f.in_path) Index false f.to a.1 (inr (refl, f.occurs)) in
        let small = x.index (sym b.0) in
        let large : nat_lt (index_value (digits_in 10 (slice s (span_of p to)))) (2 ^ 64) ≡ false = sym (ap (λ n. nat_lt (index_value (digits_in 10 (slice s (span_of p n)))) (2 ^ 64)) b.2) ∙ f.large in
        cc
    fitting_clears x wrong_escape place reason e f =
        let a = alike f.lexemes (in_tag f.sort f.in_path) f.reads in
        let b = in_mode (in_tag f.sort f.in_path) String false f.to a.1 (inr (refl, f.occurs)) in
        let F : ℕ → Type 0 = λ k. (q : IsQuoted s p k) → escape_fault (p + 1) q.pieces ≡ None in
        let none = subst F (sym b.2) (x.string (sym b.0)) f.string in
        let some = f.escape in
        cc
    fitting_clears x unexpected_block place reason e f =
        let a = alike f.lexemes (in_tag block f.in_path) f.reads in
        let b = in_mode (in_tag block f.in_path) EndBlock f.hyphen f.to a.1 (inl (refl, f.ends)) in
        x.taken (sym b.0) place reason f
    fitting_clears x unclosed_block place reason e f = not_at_end f.eof
    fitting_clears x row place reason e f = absurd cc

  -- what is stuck where all before it is clear, is the first fault
  pub first_stuck : (p to : ℕ) (place : Span) (reason : List ℕ) → p < to → AllClear delimiters s p → ClearTo delimiters s to → UnexpectedToken delimiters s p place reason → IsFirstFault delimiters s place reason
  first_stuck p to place reason below before clear f = record { fault = unexpected_token; point = p; holds = f; first = not_after }
    where
      at_point : (other : SyntaxFault) (q : ℕ) (its_place : Span) (its_reason : List ℕ) (b : Bool) → ends_cutting other ≡ b → p ≡ q → Holds delimiters s other q its_place its_reason → NotAfter unexpected_token p other q
      at_point other q its_place its_reason true e same h = absurd (clear q (omega (arith, below, same)) other its_place its_reason e h)
      at_point other q its_place its_reason false e same h = inr (same, late other e)

      not_after : (other : SyntaxFault) (q : ℕ) (its_place : Span) (its_reason : List ℕ) → Holds delimiters s other q its_place its_reason → NotAfter unexpected_token p other q
      not_after other q its_place its_reason h = elim (cases_order p q) [
        | inl same ↦ at_point other q its_place its_reason (ends_cutting other) refl same h
        | inr apart ↦ elim apart [ inl less ↦ inl less | inr more ↦ absurd (before other q its_place its_reason more h) ]
      ]

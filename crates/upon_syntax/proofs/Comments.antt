-- Comments: how a reader goes over one, and the faults that it can meet there.
use Rattle.std.proofs.Common.{◌≡◌, inl, inr, ℕ, List, [], ◌∷◌, ◌++◌, length, Bool, true, Some, refl, sym, ap, ◌∙◌, subst, codes}
use Rattle.upon_types.specs.declared.types.Span.{Span}
use Rattle.upon_types.specs.declared.types.token.Token.{Token}
use Rattle.upon_types.specs.declared.types.token.Token.TheVariants.{Raw, BeginComment, EndComment}
use Rattle.upon_language_spec.specs.Search.{DelimiterText, HasTexts}
use Rattle.upon_language_spec.specs.Raw.{IsRaw}
use Rattle.upon_language_spec.specs.Cut.{Lexeme, Mode, outside, in_comment, IsToken, mode_after}
use Rattle.upon_language_spec.specs.Blocks.{OpenBlock}
use Rattle.upon_language_spec.specs.Faults.{span_of}
use Rattle.upon_language_spec.specs.FirstFault.{IsFirstFault}
use Rattle.upon_language_spec.specs.LaterFaults.{is_comment_begin, comment_wants}
use Rattle.upon_language_spec.specs.Lexing.{LexerState, HasRead, IsGiven}
use Rattle.upon_language_spec.specs.Reading.{last_of}
use Rattle.upon_language_spec.specs.Wanted.{expected_found}
use Rattle.upon_language_spec.proofs.NoTreeWithFault.InsideTag.{raw_then_raw}
use Rattle.upon_language_spec.proofs.OneCut.Token.{raw_is_no_end}
use Rattle.upon_language_spec.proofs.Totality.InsideClear.{last_more}
use Rattle.upon_language_spec.proofs.Totality.Stage.{outside_is_clear, comment_is_clear, empty_is_first, comment_eof_is_first}
use Rattle.upon_syntax.specs.PieceReading.{ReadTo, TokenGiven, token_lexeme, AfterCommentBegin, AfterCommentRaw, PassesEnd}
use Rattle.upon_syntax.proofs.NextTokens.{reads_in, stage_of, Step, step_of, read_on, below_end}

module _ (delimiters : List DelimiterText) (s : List ℕ) (texts : HasTexts delimiters) where
  -- its begin
  pub comment_begins : (before after : LexerState) (stack : List OpenBlock) (ls : List Lexeme) (span : Span) (x : TokenGiven delimiters s before after stack ls BeginComment span) → AfterCommentBegin delimiters s after (ls ++ token_lexeme BeginComment x.hyphen x.at ∷ [])
  comment_begins before after stack ls span x =
      let l = token_lexeme BeginComment x.hyphen x.at in
      let r = x.between.read_to in
      let below = below_end delimiters s texts before after outside ls l r x.read in
      record {
        read_to = read_on delimiters s texts before after outside ls l r x.read (outside_is_clear delimiters s texts ls outside before.offset (stage_of delimiters s before outside ls r) refl below.1);
        begin = ap is_comment_begin (last_more ls l);
      }

  module _ (before after : LexerState) (ls : List Lexeme) (l : Lexeme) (h : HasRead delimiters s after (ls ++ l ∷ [])) where
    -- the raw part after the begin
    pub comment_raw : AfterCommentBegin delimiters s before ls → (l.token ≡ EndComment → ⊥) → (l.token ≡ Raw) × AfterCommentRaw delimiters s after (ls ++ l ∷ [])
    comment_raw b other = by_step x.step
      where
        x : Step delimiters s before after in_comment l
        x = step_of delimiters s before after in_comment ls l b.read_to h

        by_step : IsToken delimiters s in_comment l.token l.hyphen before.offset l.span.n → (l.token ≡ Raw) × AfterCommentRaw delimiters s after (ls ++ l ∷ [])
        by_step (inr end) = absurd (other end.0)
        by_step (inl raw) =
            let below = below_end delimiters s texts before after in_comment ls l b.read_to h in
            let none = comment_is_clear delimiters s texts ls in_comment before.offset (stage_of delimiters s before in_comment ls b.read_to) refl below.1 (λ e hyphen to ends. raw_is_no_end delimiters s before.offset l.span.n to hyphen raw.2 ends) in
            let F : Mode → Type 0 = λ m. ReadTo delimiters s after m (ls ++ l ∷ []) in
            let G : ℕ → Type 0 = λ n. IsRaw delimiters s before.offset n in (
              raw.0,
              record {
                read_to = subst F (ap (mode_after in_comment) raw.0) (read_on delimiters s texts before after in_comment ls l b.read_to h none);
                from = before.offset;
                raw = subst G x.to raw.2;
                no_begin = ap is_comment_begin (last_more ls l) ∙ ap (λ (t : Token). is_comment_begin (Some (token_lexeme t l.hyphen l.span))) raw.0;
              },
            )

    -- the end after the raw part
    pub comment_end : AfterCommentRaw delimiters s before ls → PassesEnd delimiters s after ls
    comment_end b = by_step x.step
      where
        x : Step delimiters s before after in_comment l
        x = step_of delimiters s before after in_comment ls l b.read_to h

        no_begin : is_comment_begin (last_of ls) ≡ true → ⊥
        no_begin e = let f = b.no_begin in cc

        by_step : IsToken delimiters s in_comment l.token l.hyphen before.offset l.span.n → PassesEnd delimiters s after ls
        by_step (inl raw) = absurd (raw_then_raw delimiters s b.from before.offset l.span.n b.raw raw.2)
        by_step (inr end) =
            let below = below_end delimiters s texts before after in_comment ls l b.read_to h in
            let none = comment_is_clear delimiters s texts ls in_comment before.offset (stage_of delimiters s before in_comment ls b.read_to) refl below.1 (λ e hyphen to ends. no_begin e) in
            let F : Mode → Type 0 = λ m. ReadTo delimiters s after m (ls ++ l ∷ []) in
            record {
              end = l;
              is_end = end.0;
              read_to = subst F (ap (mode_after in_comment) end.0) (read_on delimiters s texts before after in_comment ls l b.read_to h none);
            }

    -- a comment that ends where it has just begun
    pub empty_fault : AfterCommentBegin delimiters s before ls → l.token ≡ EndComment → (given : Span) → IsGiven delimiters s before.mode before.trims l.token l.span given → IsFirstFault delimiters s given (codes "expected raw template, found end comment")
    empty_fault b t given g = by_step x.step
      where
        x : Step delimiters s before after in_comment l
        x = step_of delimiters s before after in_comment ls l b.read_to h

        same_span : given ≡ l.span
        same_span =
            let F : Mode → Type 0 = λ m. IsGiven delimiters s m before.trims l.token l.span given in
            let g' : IsGiven delimiters s in_comment before.trims l.token l.span given = subst F b.read_to.is g in
            g'

        by_step : IsToken delimiters s in_comment l.token l.hyphen before.offset l.span.n → IsFirstFault delimiters s given (codes "expected raw template, found end comment")
        by_step (inl raw) = absurd (let e : EndComment ≡ Raw = sym t ∙ raw.0 in cc)
        by_step (inr end) =
            let from = x.from in
            let at : given ≡ span_of before.offset l.span.n = same_span ∙ (λ i. span_of (from i) l.span.n) in
            empty_is_first delimiters s texts ls in_comment before.offset (stage_of delimiters s before in_comment ls b.read_to) refl given (codes "expected raw template, found end comment") (record {
              lexemes = ls;
              reads = reads_in delimiters s before in_comment ls b.read_to;
              opening = b.begin;
              hyphen = l.hyphen;
              to = l.span.n;
              ends = end.1;
              at = at;
              words = refl;
            })

  -- the text's end in a comment
  pub eof_fault : (left : LexerState) (ls : List Lexeme) (begun : Bool) (reason : List ℕ) → ReadTo delimiters s left in_comment ls → is_comment_begin (last_of ls) ≡ begun → left.offset ≡ length s → reason ≡ expected_found (comment_wants begun) (codes "EOF") → IsFirstFault delimiters s (span_of (length s) (length s)) reason
  eof_fault left ls begun reason r last eof words =
      comment_eof_is_first delimiters s texts ls in_comment left.offset (stage_of delimiters s left in_comment ls r) refl eof (span_of (length s) (length s)) reason (record {
        lexemes = ls;
        reads = reads_in delimiters s left in_comment ls r;
        eof = eof;
        at = λ i. span_of (sym eof i) (sym eof i);
        words = words ∙ ap (λ (b : Bool). expected_found (comment_wants b) (codes "EOF")) (sym last);
      })

-- No whitespace follows whitespace: its run has gone as far as it goes.
use Rattle.std.proofs.Common.{◌≡◌, ℕ, ◌<◌, arith, IfOk, IfSome, List, [], ◌∷◌, ◌++◌, Bool, true, false, Some, None, Ok, Err, Option, Result, inl, inr, refl, sym, ap, ◌∙◌, subst}
use Rattle.std.proofs.lemmas.List.{append-nil}
use Rattle.std.proofs.lemmas.Bool.{false_from_ne_true}
use Rattle.upon_types.specs.declared.types.Span.{Span}
use Rattle.upon_types.specs.declared.types.token.Token.{Token}
use Rattle.upon_types.specs.declared.types.token.Token.TheVariants.{Whitespace}
use Rattle.upon_types.specs.declared.error.Error.{Error}
use Rattle.upon_language_spec.specs.Search.{DelimiterText}
use Rattle.upon_language_spec.specs.Words.{is_tag_space, IsRun}
use Rattle.upon_language_spec.specs.Delimiters.{comment, begin_token, end_token}
use Rattle.upon_language_spec.specs.Cut.{Lexeme, Mode, outside, in_tag, in_comment, IsToken, Cut, mode_after}
use Rattle.upon_language_spec.proofs.OneCut.Run.{run_first}
use Rattle.upon_language_spec.specs.Tokens.{is_space}
use Rattle.upon_language_spec.proofs.NoTreeWithFault.InsideTag.{end_is_no_space}
use Rattle.upon_language_spec.proofs.NoTreeWithFault.NextToken.{begin_is_no_space}
use Rattle.upon_language_spec.specs.Lexing.{LexerState, HasRead, Lexes, LexesAfterSpace, IsNoSpace}
use Rattle.upon_lexer.specs.Spelling.{LiesBetween}

-- the last step of a cut
pub record LastStep (delimiters : List DelimiterText) (s : List ℕ) (mode : Mode) (m : ℕ) (ls : List Lexeme) (l : Lexeme) (n : ℕ) : Type 0 where
  pub before : Mode
  pub from : ℕ
  pub cut : Cut delimiters s mode m ls before from
  pub step : IsToken delimiters s before l.token l.hyphen from l.span.n
  pub to : l.span.n ≡ n

module _ (delimiters : List DelimiterText) (s : List ℕ) where
  last_step : (mode mode' : Mode) (m n : ℕ) (ls : List Lexeme) (l : Lexeme) → Cut delimiters s mode m (ls ++ l ∷ []) mode' n → LastStep delimiters s mode m ls l n
  last_step mode mode' m n [] l h = record { before = mode; from = m; cut = (refl, refl); step = h.1; to = h.2.1 }
  last_step mode mode' m n (k ∷ ks) l h =
      let rest = last_step (mode_after mode k.token) mode' k.span.n n ks l h.2 in
      record { before = rest.before; from = rest.from; cut = (h.0, h.1, rest.cut); step = rest.step; to = rest.to }

  differ : (t : Token) → Whitespace ≡ t → is_space t ≡ false → ⊥
  differ t e none = let spaced = ap is_space e in cc

  space_run : (mode : Mode) (hyphen : Bool) (m n : ℕ) → IsToken delimiters s mode Whitespace hyphen m n → IsRun is_tag_space s m n
  space_run outside hyphen m n (inl raw) = let is = raw.0 in absurd (cc)
  space_run outside hyphen m n (inr begin) = absurd (differ (begin_token begin.0) begin.1 (begin_is_no_space begin.0))
  space_run (in_tag sort path) hyphen m n (inl end) = absurd (differ (end_token sort) end.0 (end_is_no_space sort))
  space_run (in_tag sort path) hyphen m n (inr inner) = inner.1.extent
  space_run in_comment hyphen m n (inl raw) = let is = raw.0 in absurd (cc)
  space_run in_comment hyphen m n (inr end) = absurd (differ (end_token comment) end.0 (end_is_no_space comment))

  is_whitespace : (t : Token) → is_space t ≡ true → t ≡ Whitespace
  is_whitespace Whitespace h = refl
  is_whitespace t h = absurd (cc)

  no_run_twice : (m n k : ℕ) → IsRun is_tag_space s m n → IsRun is_tag_space s n k → ⊥
  no_run_twice m n k a b =
      let passes = b.each.0 in
      let fails = a.longest b.first (run_first is_tag_space s n k b) in
      cc

  no_two_spaces : (left : LexerState) (ls : List Lexeme) (a b : Lexeme) → is_space a.token ≡ true → is_space b.token ≡ true → HasRead delimiters s left ((ls ++ a ∷ []) ++ b ∷ []) → ⊥
  no_two_spaces left ls a b spaced spaced' r =
      let second = last_step outside left.mode 0 left.offset (ls ++ a ∷ []) b r.reads in
      let first = last_step outside second.before 0 second.from ls a second.cut in
      let F : Token → Type 0 = λ t. IsToken delimiters s first.before t a.hyphen first.from a.span.n in
      let G : Token → Type 0 = λ t. IsToken delimiters s second.before t b.hyphen second.from b.span.n in
      let H : ℕ → Type 0 = λ n. IsRun is_tag_space s first.from n in
      no_run_twice first.from second.from b.span.n
      (subst H first.to (space_run first.before a.hyphen first.from a.span.n (subst F (is_whitespace a.token spaced) first.step)))
      (space_run second.before b.hyphen second.from b.span.n (subst G (is_whitespace b.token spaced') second.step))

  -- what is given after whitespace is none
  pub no_space_behind : (behind : LexerState) (ls : List Lexeme) (a : Lexeme) (result : Result (Option (Token × Span)) Error) (after : LexerState) → is_space a.token ≡ true → Lexes delimiters s behind (ls ++ a ∷ []) result after → IsNoSpace result
  no_space_behind behind ls a (Ok (Some given)) after spaced h = false_from_ne_true (is_space given.0) (λ e. no_two_spaces after ls a h.0 spaced (ap is_space h.1 ∙ e) h.3)
  no_space_behind behind ls a (Ok None) after spaced h = tt
  no_space_behind behind ls a (Err e) after spaced h = tt

  -- a call that gives no whitespace, and one after the whitespace that a call gave
  pub at_once : (left : LexerState) (ls : List Lexeme) (result : Result (Option (Token × Span)) Error) (after : LexerState) → HasRead delimiters s left ls → Lexes delimiters s left ls result after → IsNoSpace result → LexesAfterSpace delimiters s ls result after
  at_once left ls result after r h counts =
      let F : List Lexeme → Type 0 = λ x. HasRead delimiters s left x in
      let G : List Lexeme → Type 0 = λ x. Lexes delimiters s left x result after in
      record {
        spaces = [];
        each = tt;
        start = left;
        gives = subst G (sym (append-nil ls)) h;
        has_read = subst F (sym (append-nil ls)) r;
        counts = counts;
      }

  pub behind_space : (behind : LexerState) (ls : List Lexeme) (a : Lexeme) (result : Result (Option (Token × Span)) Error) (after : LexerState) → is_space a.token ≡ true → HasRead delimiters s behind (ls ++ a ∷ []) → Lexes delimiters s behind (ls ++ a ∷ []) result after → LexesAfterSpace delimiters s ls result after
  behind_space behind ls a result after spaced r h = record {
    spaces = a ∷ [];
    each = (spaced, tt);
    start = behind;
    gives = h;
    has_read = r;
    counts = no_space_behind behind ls a result after spaced h;
  }

-- what is further after more is further after all
pub further_still : {A E : Type 0} (m n k : ℕ) (result : Result (Option A) E) → m < n → IfOk result (λ found. IfSome found (λ _. n < k)) → IfOk result (λ found. IfSome found (λ _. m < k))
further_still m n k (Ok (Some a)) l h = omega (arith, l, h)
further_still m n k (Ok None) l h = tt
further_still m n k (Err e) l h = tt

-- and lies between the same offsets, one of them less
pub between_still : {E : Type 0} (m n k : ℕ) (result : Result (Option (Token × Span)) E) → m < n → IfOk result (λ found. IfSome found (λ given. LiesBetween n k given.0 given.1)) → IfOk result (λ found. IfSome found (λ given. LiesBetween m k given.0 given.1))
between_still m n k (Ok (Some given)) l h = λ plain. (omega (arith, l, (h plain).0), (h plain).1)
between_still m n k (Ok None) l h = tt
between_still m n k (Err e) l h = tt

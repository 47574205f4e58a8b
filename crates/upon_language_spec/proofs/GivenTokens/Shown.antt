-- The tokens that a lexer gives for a whole text are its tokens with their shown spans.
use Rattle.std.proofs.Common.{◌≡◌, ℕ, ◌&&◌, List, [], ◌∷◌, length, Bool, true, false, inl, inr, refl, sym, ap, ◌∙◌, subst, arith}
use Rattle.upon_types.specs.declared.types.Span.{Span}
use Rattle.upon_types.specs.declared.types.token.Token.{Token}
use Rattle.upon_types.specs.declared.types.token.Token.TheVariants.{Raw, BeginExpr, EndExpr, BeginBlock, EndBlock, BeginComment, EndComment}
use Rattle.upon_language_spec.specs.Search.{DelimiterText, HasTexts}
use Rattle.upon_language_spec.specs.Delimiters.{Sort, expression, block, comment, begin_token, end_token, has_hyphen}
use Rattle.upon_language_spec.specs.Inside.{Extent}
use Rattle.upon_language_spec.specs.Cut.{Lexeme, Mode, outside, in_tag, in_comment, Begins, IsToken, Cut, mode_after}
use Rattle.upon_language_spec.proofs.OneCut.Delimiter.{one_stands, stands_ends}
use Rattle.upon_language_spec.proofs.OneCut.Raw.{raw_is_no_delimiter}
use Rattle.upon_language_spec.specs.Shown.{shown_span, is_begin, is_end, begin_trims, shown_lexeme}
use Rattle.upon_language_spec.proofs.NoTreeWithFault.InsideTag.{shown_token}
use Rattle.upon_language_spec.specs.Lexing.{TrimsAt, IsGiven}
use Rattle.upon_language_spec.specs.Given.{EachGiven, shown_tokens}

begins : (sort : Sort) → is_begin (begin_token sort) ≡ true
begins expression = refl
begins block = refl
begins comment = refl

module _ (delimiters : List DelimiterText) (s : List ℕ) (texts : HasTexts delimiters) where
  one_hyphen : (a b : Sort) (h k : Bool) (p m n : ℕ) → Begins delimiters s a h p m → Begins delimiters s b k p n → h ≡ k
  one_hyphen a b h k p m n x y = let e = one_stands delimiters s x.kind y.kind p m n x.occurs y.occurs in sym x.of_hyphen ∙ ap has_hyphen e.0 ∙ y.of_hyphen

  -- a begin with the hyphen is at an offset exactly where the next token is one
  trims_is : (p : ℕ) (b h : Bool) (sort : Sort) (to : ℕ) → TrimsAt delimiters s p b → Begins delimiters s sort h p to → b ≡ h
  trims_is p true h sort to t x = one_hyphen t.0 sort true h p t.1 to t.2 x
  trims_is p false true sort to t x = absurd (t sort to x)
  trims_is p false false sort to t x = refl

  trims_none : (p : ℕ) (b : Bool) → TrimsAt delimiters s p b → ((sort : Sort) (to : ℕ) → Begins delimiters s sort true p to → ⊥) → b ≡ false
  trims_none p true t none = absurd (none t.0 t.1 t.2)
  trims_none p false t none = refl

  -- whether the token after is a begin with the hyphen, in the whole text
  pub next_trims : (p : ℕ) (b : Bool) (ls : List Lexeme) → TrimsAt delimiters s p b → Cut delimiters s outside p ls outside (length s) → b ≡ begin_trims ls
  next_trims p b [] t h = trims_none p b t (λ sort to x. let within = stands_ends delimiters s x.kind p to texts x.occurs in omega (arith, h.1, within.0, within.1))
  next_trims p b (k ∷ ks) t h = by_step h.1
    where
      by_step : IsToken delimiters s outside k.token k.hyphen p k.span.n → b ≡ (is_begin k.token && k.hyphen)
      by_step (inl raw) =
          trims_none p b t (λ sort to x. raw_is_no_delimiter delimiters s x.kind p k.span.n to raw.2 x.occurs)
          ∙ ap (λ y. is_begin y && k.hyphen) (sym raw.0)
      by_step (inr begin) =
          trims_is p b k.hyphen begin.0 k.span.n t begin.2
          ∙ ap (λ y. y && k.hyphen) (sym (begins begin.0) ∙ ap is_begin (sym begin.1))

  -- in a comment no begin is after a token
  no_begin_in_comment : (p : ℕ) (ls : List Lexeme) → Cut delimiters s in_comment p ls outside (length s) → begin_trims ls ≡ false
  no_begin_in_comment p [] h = refl
  no_begin_in_comment p (k ∷ ks) h = by_step h.1
    where
      by_step : IsToken delimiters s in_comment k.token k.hyphen p k.span.n → (is_begin k.token && k.hyphen) ≡ false
      by_step (inl raw) = ap (λ y. is_begin y && k.hyphen) raw.0
      by_step (inr end) = ap (λ y. is_begin y && k.hyphen) end.0

  -- an end with the hyphen is before an offset outside tags alone
  abbrev EndBefore : Mode → Bool → Type 0
  EndBefore outside trims = Unit {0}
  EndBefore mode trims = trims ≡ false

  -- the span that is given is the shown one
  module _ (l : Lexeme) (ls : List Lexeme) (given : Span) (trims : Bool) where
    abbrev Shows : Token → Type 0
    Shows t = given ≡ (shown_lexeme s trims (begin_trims ls) t l).span

    raw_outside : IsGiven delimiters s outside trims Raw l.span given → Cut delimiters s outside l.span.n ls outside (length s) → Shows Raw
    raw_outside g h = g.2 ∙ ap (λ b. shown_span s trims b l.span) (next_trims l.span.n g.0 ls g.1 h)

    raw_in_comment : given ≡ l.span → trims ≡ false → Cut delimiters s in_comment l.span.n ls outside (length s) → Shows Raw
    raw_in_comment g before h =
        let behind = no_begin_in_comment l.span.n ls h in
        g ∙ ap (λ b. shown_span s false b l.span) (sym behind) ∙ ap (λ e. shown_span s e (begin_trims ls) l.span) (sym before)

    begin_shows : (sort : Sort) → IsGiven delimiters s outside trims (begin_token sort) l.span given → Shows (begin_token sort)
    begin_shows expression g = g
    begin_shows block g = g
    begin_shows comment g = g

    end_shows : (sort : Sort) → given ≡ l.span → Shows (end_token sort)
    end_shows expression g = g
    end_shows block g = g
    end_shows comment g = g

    inner_shows : (t : Token) (m n : ℕ) → Extent s t m n → given ≡ l.span → Shows t
    inner_shows Raw m n h g = absurd h
    inner_shows t m n h g = g

    -- in any mode
    shows : (mode : Mode) (m : ℕ) → EndBefore mode trims → IsToken delimiters s mode l.token l.hyphen m l.span.n → IsGiven delimiters s mode trims l.token l.span given → Cut delimiters s (mode_after mode l.token) l.span.n ls outside (length s) → Shows l.token
    shows outside m e (inl raw) g h =
        let F : Token → Type 0 = λ t. IsGiven delimiters s outside trims t l.span given in
        let G : Token → Type 0 = λ t. Cut delimiters s (mode_after outside t) l.span.n ls outside (length s) in
        subst Shows (sym raw.0) (raw_outside (subst F raw.0 g) (subst G raw.0 h))
    shows outside m e (inr begin) g h =
        let F : Token → Type 0 = λ t. IsGiven delimiters s outside trims t l.span given in
        subst Shows (sym begin.1) (begin_shows begin.0 (subst F begin.1 g))
    shows (in_tag sort path) m e (inl end) g h = subst Shows (sym end.0) (end_shows sort g)
    shows (in_tag sort path) m e (inr inner) g h = inner_shows l.token m l.span.n inner.1.extent g
    shows in_comment m e (inl raw) g h =
        let G : Token → Type 0 = λ t. Cut delimiters s (mode_after in_comment t) l.span.n ls outside (length s) in
        subst Shows (sym raw.0) (raw_in_comment g e (subst G raw.0 h))
    shows in_comment m e (inr end) g h = subst Shows (sym end.0) (end_shows comment g)

  end_before : (mode : Mode) (t : Token) (hyphen : Bool) (m n : ℕ) → IsToken delimiters s mode t hyphen m n → EndBefore (mode_after mode t) (is_end t && hyphen)
  end_before outside t hyphen m n (inl raw) = let F : Token → Type 0 = λ x. EndBefore (mode_after outside x) (is_end x && hyphen) in subst F (sym raw.0) tt
  end_before outside t hyphen m n (inr begin) = let F : Token → Type 0 = λ x. EndBefore (mode_after outside x) (is_end x && hyphen) in subst F (sym begin.1) (begun begin.0)
    where
      begun : (sort : Sort) → EndBefore (mode_after outside (begin_token sort)) (is_end (begin_token sort) && hyphen)
      begun expression = refl
      begun block = refl
      begun comment = refl
  end_before (in_tag sort path) t hyphen m n (inl end) = let F : Token → Type 0 = λ x. EndBefore (mode_after (in_tag sort path) x) (is_end x && hyphen) in subst F (sym end.0) (ended sort)
    where
      ended : (other : Sort) → EndBefore (mode_after (in_tag sort path) (end_token other)) (is_end (end_token other) && hyphen)
      ended expression = tt
      ended block = tt
      ended comment = tt
  end_before (in_tag sort path) t hyphen m n (inr inner) = inside t inner.1.extent
    where
      inside : (t : Token) → Extent s t m n → EndBefore (mode_after (in_tag sort path) t) (is_end t && hyphen)
      inside Raw h = absurd h
      inside BeginExpr h = absurd h
      inside EndExpr h = absurd h
      inside BeginBlock h = absurd h
      inside EndBlock h = absurd h
      inside BeginComment h = absurd h
      inside EndComment h = absurd h
      inside t h = refl
  end_before in_comment t hyphen m n (inl raw) = let F : Token → Type 0 = λ x. EndBefore (mode_after in_comment x) (is_end x && hyphen) in subst F (sym raw.0) refl
  end_before in_comment t hyphen m n (inr end) = let F : Token → Type 0 = λ x. EndBefore (mode_after in_comment x) (is_end x && hyphen) in subst F (sym end.0) tt

  all_shown : (mode : Mode) (m : ℕ) (trims : Bool) (ls : List Lexeme) (gs : List (Token × Span)) → EndBefore mode trims → Cut delimiters s mode m ls outside (length s) → EachGiven delimiters s mode trims ls gs → gs ≡ shown_tokens s trims ls
  all_shown mode m trims [] [] e h g = refl
  all_shown mode m trims [] (x ∷ gs) e h g = absurd g
  all_shown mode m trims (l ∷ ls) [] e h g = absurd g
  all_shown mode m trims (l ∷ ls) (x ∷ gs) e h g =
      let token : x.0 ≡ (shown_lexeme s trims (begin_trims ls) l.token l).token = sym g.0 ∙ sym (shown_token s trims (begin_trims ls) l.token l) in
      let place : x.1 ≡ (shown_lexeme s trims (begin_trims ls) l.token l).span = shows l ls x.1 trims mode m e h.1 g.1 h.2 in
      let rest : gs ≡ shown_tokens s (is_end l.token && l.hyphen) ls = all_shown (mode_after mode l.token) l.span.n (is_end l.token && l.hyphen) ls gs (end_before mode l.token l.hyphen m l.span.n h.1) h.2 g.2 in
      λ i. (token i, place i) ∷ rest i

pub given_is_shown : (delimiters : List DelimiterText) (s : List ℕ) (ls : List Lexeme) (gs : List (Token × Span)) → HasTexts delimiters → Cut delimiters s outside 0 ls outside (length s) → EachGiven delimiters s outside false ls gs → gs ≡ shown_tokens s false ls
given_is_shown delimiters s ls gs texts h g = all_shown delimiters s texts outside 0 false ls gs tt h g

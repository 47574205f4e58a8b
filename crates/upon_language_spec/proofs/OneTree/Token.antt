-- Which token goes first is determined: its kind, its span, and what is left.
use Rattle.std.proofs.Common.{◌≡◌, ℕ, List, [], ◌∷◌, Option, Some, None, Bool, true, false, sym, ap, subst, ◌∙◌}
use Rattle.upon_types.specs.declared.types.Span.{Span}
use Rattle.upon_types.specs.declared.types.token.Token.{Token}
use Rattle.upon_types.specs.declared.types.token.Token.TheVariants.{Keyword, Ident as Identifier, String}
use Rattle.upon_types.specs.Span.{slice}
use Rattle.upon_types.specs.Path.{Ident}
use Rattle.upon_language_spec.specs.Cut.{Lexeme}
use Rattle.upon_language_spec.specs.Tokens.{Goes, GoesBy, GoesWord, GoesKeyword, GoesName, GoesText}
use Rattle.upon_language_spec.specs.Literal.{IsText}
use Rattle.upon_language_spec.proofs.OneTree.Literal.{one_text}

-- the kind of the first token, and what is at the spans of the first and the second
abbrev pub first_token : List Lexeme → Option Token
first_token [] = None
first_token (l ∷ ls) = Some l.token

abbrev pub first_word : List ℕ → List Lexeme → Option (List ℕ)
first_word s [] = None
first_word s (l ∷ ls) = Some (slice s l.span)

abbrev pub second_word : List ℕ → List Lexeme → Option (List ℕ)
second_word s [] = None
second_word s (l ∷ ls) = first_word s ls

pub goes_first : (t : Token) (span : Span) (ts r : List Lexeme) → Goes t span ts r → first_token ts ≡ Some t
goes_first t span ts r g = ap first_token g.is ∙ ap Some g.of_token

pub one_goes : (t u : Token) (span place : Span) (ts us r x : List Lexeme) → ts ≡ us → Goes t span ts r → Goes u place us x → (t ≡ u) × (span ≡ place) × (r ≡ x)
one_goes t u span place ts us r x same g h =
    let e : g.lexeme ∷ r ≡ h.lexeme ∷ x = sym g.is ∙ same ∙ h.is in
    let l : g.lexeme ≡ h.lexeme = cc in
    (sym g.of_token ∙ ap (λ (y : Lexeme). y.token) l ∙ h.of_token, sym g.at ∙ ap (λ (y : Lexeme). y.span) l ∙ h.at, cc)

pub one_goes_by : (t u : Token) (ts us r x : List Lexeme) → ts ≡ us → GoesBy t ts r → GoesBy u us x → (t ≡ u) × (r ≡ x)
one_goes_by t u ts us r x same g h = let o = one_goes t u g.0 h.0 ts us r x same g.1 h.1 in (o.0, o.2)

pub first_by : (t : Token) (ts r : List Lexeme) → GoesBy t ts r → first_token ts ≡ Some t
first_by t ts r g = goes_first t g.0 ts r g.1

-- where the first token fails a test, none goes that passes it
pub no_token : (test : Option Token → Bool) (t : Token) (ts us r : List Lexeme) → test (Some t) ≡ true → ts ≡ us → test (first_token ts) ≡ false → GoesBy t us r → ⊥
no_token test t ts us r passes same fails g =
    let e : test (first_token ts) ≡ true = ap (λ y. test (first_token y)) same ∙ ap test (first_by t us r g) ∙ passes in
    cc

module _ (s : List ℕ) where
  pub one_word : (v w : List ℕ) (span place : Span) (ts us r x : List Lexeme) → ts ≡ us → GoesWord s v span ts r → GoesWord s w place us x → (v ≡ w) × (span ≡ place) × (r ≡ x)
  one_word v w span place ts us r x same g h =
      let o = one_goes Keyword Keyword span place ts us r x same g.0 h.0 in
      (sym g.1 ∙ ap (slice s) o.1 ∙ h.1, o.1, o.2)

  pub one_keyword : (v w : List ℕ) (ts us r x : List Lexeme) → ts ≡ us → GoesKeyword s v ts r → GoesKeyword s w us x → (v ≡ w) × (r ≡ x)
  one_keyword v w ts us r x same g h = let o = one_word v w g.0 h.0 ts us r x same g.1 h.1 in (o.0, o.2)

  pub one_name : (v w : Ident) (ts us r x : List Lexeme) → ts ≡ us → GoesName s v ts r → GoesName s w us x → (v ≡ w) × (r ≡ x)
  one_name v w ts us r x same g h =
      let o = one_goes Identifier Identifier v.span w.span ts us r x same g.0 h.0 in
      let text : v.text ≡ w.text = g.1 ∙ ap (slice s) o.1 ∙ sym h.1 in
      let span : v.span ≡ w.span = o.1 in
      ((λ i. record { text = text i; span = span i }), o.2)

  pub one_string : (v w : Ident) (ts us r x : List Lexeme) → ts ≡ us → GoesText s v ts r → GoesText s w us x → (v ≡ w) × (r ≡ x)
  one_string v w ts us r x same g h =
      let o = one_goes String String v.span w.span ts us r x same g.0 h.0 in
      let span : v.span ≡ w.span = o.1 in
      let At : ℕ → Type 0 = λ m. IsText s m v.span.n v.text in
      let text : v.text ≡ w.text = one_text s w.span.m v.span.n w.span.n v.text w.text (subst At (ap (λ (p : Span). p.m) span) g.1) h.1 in
      ((λ i. record { text = text i; span = span i }), o.2)

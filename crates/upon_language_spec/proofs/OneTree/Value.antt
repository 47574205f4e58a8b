-- Tokens are one literal at most.
use Rattle.std.proofs.Common.{◌≡◌, ◌⊎◌, ℕ, ℤ, List, Option, Some, None, Bool, true, false, inl, inr, refl, sym, ap, subst, ◌∙◌, codes}
use Rattle.upon_types.specs.declared.types.Span.{Span}
use Rattle.upon_types.specs.declared.types.token.Token.{Token}
use Rattle.upon_types.specs.declared.types.token.Token.TheVariants.{Keyword, Number, Plus, Minus, String}
use Rattle.upon_types.specs.Span.{slice}
use Rattle.upon_types.specs.Path.{Ident}
use Rattle.upon_types.specs.Val.{Val, none_val, bool_val, int_val, text_val, list_val, map_val}
use Rattle.upon_language_spec.specs.Cut.{Lexeme}
use Rattle.upon_language_spec.specs.Literal.{IsInteger}
use Rattle.upon_language_spec.specs.Tokens.{GoesWord, GoesKeyword, from_to}
use Rattle.upon_language_spec.specs.Expressions.{sign_token, IsUnsigned, IsSigned, IsLiteral}
use Rattle.upon_language_spec.proofs.OneTree.Literal.{one_integer}
use Rattle.upon_language_spec.proofs.OneTree.Token.{first_token, goes_first, one_goes, one_word, one_string}

abbrev pub bool_word : Bool → List ℕ
bool_word true = codes "true"
bool_word false = codes "false"

true_is_not_false : codes "true" ≡ codes "false" → ⊥
true_is_not_false e = cc

one_bool : (a b : Bool) → bool_word a ≡ bool_word b → a ≡ b
one_bool true true e = refl
one_bool true false e = absurd (true_is_not_false e)
one_bool false true e = absurd (true_is_not_false (sym e))
one_bool false false e = refl

not_is_no_bool : (b : Bool) → bool_word b ≡ codes "not" → ⊥
not_is_no_bool true e = cc
not_is_no_bool false e = cc

one_sign : (a b : Bool) → sign_token a ≡ sign_token b → a ≡ b
one_sign true true e = refl
one_sign true false e = cc
one_sign false true e = cc
one_sign false false e = refl

sign_is_no_number : (a : Bool) → sign_token a ≡ Number → ⊥
sign_is_no_number true e = cc
sign_is_no_number false e = cc

-- the kind of literal that a token begins, by one of its tokens
abbrev pub literal_kind : Option Token → Option Token
literal_kind (Some Plus) = Some Number
literal_kind (Some Minus) = Some Number
literal_kind t = t

abbrev pub val_kind : Val → Option Token
val_kind (bool_val b) = Some Keyword
val_kind (int_val z) = Some Number
val_kind (text_val t) = Some String
val_kind v = None

sign_kind : (a : Bool) → literal_kind (Some (sign_token a)) ≡ Some Number
sign_kind true = refl
sign_kind false = refl

module _ (s : List ℕ) where
  of_bool : (b : Bool) (span : Span) (ts r : List Lexeme) → IsLiteral s (bool_val b) span ts r → GoesWord s (bool_word b) span ts r
  of_bool true span ts r h = h
  of_bool false span ts r h = h

  one_unsigned : (z w : ℤ) (span place : Span) (ts us r x : List Lexeme) → ts ≡ us → IsUnsigned s z span ts r → IsUnsigned s w place us x → (z ≡ w) × (span ≡ place) × (r ≡ x)
  one_unsigned z w span place ts us r x same h k =
      let o = one_goes Number Number span place ts us r x same h.0 k.0 in
      let At : Span → Type 0 = λ p. IsInteger false (slice s p) z in
      (one_integer false (slice s place) z w (subst At o.1 h.1) k.1, o.1, o.2)

  one_signed : (z w : ℤ) (span place : Span) (ts us r x : List Lexeme) → ts ≡ us → IsSigned s z span ts r → IsSigned s w place us x → (z ≡ w) × (span ≡ place) × (r ≡ x)
  one_signed z w span place ts us r x same h k =
      let o = one_goes (sign_token h.0) (sign_token k.0) h.1 k.1 ts us h.3 k.3 same h.4 k.4 in
      let p = one_goes Number Number h.2 k.2 h.3 k.3 r x o.2 h.5 k.5 in
      let sign : h.0 ≡ k.0 = one_sign h.0 k.0 o.0 in
      let sign_at : h.1 ≡ k.1 = o.1 in
      let at : h.2 ≡ k.2 = p.1 in
      let At : Span → Type 0 = λ p. IsInteger h.0 (slice s p) z in
      let By : Bool → Type 0 = λ b. IsInteger b (slice s k.2) z in
      (one_integer k.0 (slice s k.2) z w (subst By sign (subst At at h.7)) k.7, h.6 ∙ (λ i. from_to (sign_at i) (at i)) ∙ sym k.6, p.2)

  number_is_unsigned : (z w : ℤ) (span place : Span) (ts us r x : List Lexeme) → ts ≡ us → IsUnsigned s z span ts r → IsSigned s w place us x → ⊥
  number_is_unsigned z w span place ts us r x same h k = sign_is_no_number k.0 (sym (one_goes Number (sign_token k.0) span k.1 ts us r k.3 same h.0 k.4).0)

  one_int : (z w : ℤ) (span place : Span) (ts us r x : List Lexeme) → ts ≡ us → IsUnsigned s z span ts r ⊎ IsSigned s z span ts r → IsUnsigned s w place us x ⊎ IsSigned s w place us x → (z ≡ w) × (span ≡ place) × (r ≡ x)
  one_int z w span place ts us r x same (inl h) (inl k) = one_unsigned z w span place ts us r x same h k
  one_int z w span place ts us r x same (inl h) (inr k) = absurd (number_is_unsigned z w span place ts us r x same h k)
  one_int z w span place ts us r x same (inr h) (inl k) = absurd (number_is_unsigned w z place span us ts x r (sym same) k h)
  one_int z w span place ts us r x same (inr h) (inr k) = one_signed z w span place ts us r x same h k

  int_first : (z : ℤ) (span : Span) (ts r : List Lexeme) → IsUnsigned s z span ts r ⊎ IsSigned s z span ts r → literal_kind (first_token ts) ≡ Some Number
  int_first z span ts r (inl h) = ap literal_kind (goes_first Number span ts r h.0)
  int_first z span ts r (inr h) = ap literal_kind (goes_first (sign_token h.0) h.1 ts h.3 h.4) ∙ sign_kind h.0

  pub literal_first : (v : Val) (span : Span) (ts r : List Lexeme) → IsLiteral s v span ts r → literal_kind (first_token ts) ≡ val_kind v
  literal_first none_val span ts r h = absurd h
  literal_first (bool_val b) span ts r h = ap literal_kind (goes_first Keyword span ts r (of_bool b span ts r h).0)
  literal_first (int_val z) span ts r h = int_first z span ts r h
  literal_first (text_val t) span ts r h = ap literal_kind (goes_first String span ts r h.0)
  literal_first (list_val vs) span ts r h = absurd h
  literal_first (map_val es) span ts r h = absurd h

  same_kind : (v w : Val) (span place : Span) (ts us r x : List Lexeme) → ts ≡ us → IsLiteral s v span ts r → IsLiteral s w place us x → val_kind v ≡ val_kind w
  same_kind v w span place ts us r x same h k = sym (literal_first v span ts r h) ∙ ap (λ t. literal_kind (first_token t)) same ∙ literal_first w place us x k

  pub one_literal : (v w : Val) (span place : Span) (ts us r x : List Lexeme) → ts ≡ us → IsLiteral s v span ts r → IsLiteral s w place us x → (v ≡ w) × (span ≡ place) × (r ≡ x)
  one_literal none_val w span place ts us r x same h k = absurd h
  one_literal (list_val vs) w span place ts us r x same h k = absurd h
  one_literal (map_val es) w span place ts us r x same h k = absurd h
  one_literal (bool_val a) (bool_val b) span place ts us r x same h k =
      let o = one_word s (bool_word a) (bool_word b) span place ts us r x same (of_bool a span ts r h) (of_bool b place us x k) in
      (ap bool_val (one_bool a b o.0), o.1, o.2)
  one_literal (bool_val a) w span place ts us r x same h k = let e = same_kind (bool_val a) w span place ts us r x same h k in absurd (cc)
  one_literal (int_val z) (int_val w) span place ts us r x same h k = let o = one_int z w span place ts us r x same h k in (ap int_val o.0, o.1, o.2)
  one_literal (int_val z) w span place ts us r x same h k = let e = same_kind (int_val z) w span place ts us r x same h k in absurd (cc)
  one_literal (text_val t) (text_val u) span place ts us r x same h k =
      let o = one_string s (record { text = t; span = span }) (record { text = u; span = place }) ts us r x same h k in
      (ap (λ (v : Ident). text_val v.text) o.0, ap (λ (v : Ident). v.span) o.0, o.1)
  one_literal (text_val t) w span place ts us r x same h k = let e = same_kind (text_val t) w span place ts us r x same h k in absurd (cc)

  -- no literal is the word `not`
  pub not_is_no_literal : (v : Val) (span : Span) (ts us r x : List Lexeme) → ts ≡ us → IsLiteral s v span ts r → GoesKeyword s (codes "not") us x → ⊥
  not_is_no_literal (bool_val b) span ts us r x same h k = not_is_no_bool b (one_word s (bool_word b) (codes "not") span k.0 ts us r x same (of_bool b span ts r h) k.1).0
  not_is_no_literal v span ts us r x same h k =
      let e = sym (literal_first v span ts r h) ∙ ap (λ t. literal_kind (first_token t)) same ∙ ap literal_kind (goes_first Keyword k.0 us x k.1.0) in
      cc

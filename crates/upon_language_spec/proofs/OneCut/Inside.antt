-- Inside a tag one token at most is at an offset: its first character says its kind, and its kind how far it goes.
use Rattle.std.proofs.Common.{◌≡◌, ℕ, ◌<◌, ◌≤◌, ◌⊎◌, inl, inr, Bool, true, false, List, length, Some, codes, encode_utf8, arith, refl, sym, ap, ◌∙◌, subst}
use Rattle.std.specs.Char.{is_ascii_digit}
use Rattle.unicode_ident.specs.Ident.{is_xid_continue}
use Rattle.upon_types.specs.declared.types.token.Token.{Token}
use Rattle.upon_types.specs.declared.types.token.Token.TheVariants.{Raw, BeginExpr, EndExpr, BeginBlock, EndBlock, BeginComment, EndComment, QuestionDot, Whitespace, Keyword, Ident, Index, Number, String}
use Rattle.upon_types.specs.Span.{slice}
use Rattle.upon_language_spec.specs.Search.{DelimiterText}
use Rattle.upon_language_spec.specs.Words.{is_tag_space, is_keyword}
use Rattle.upon_language_spec.specs.Inside.{token_kind, continues_number, Extent, start_kind, IsInside}
use Rattle.upon_language_spec.proofs.SpansLieIn.Offsets.{occurs_within}
use Rattle.upon_language_spec.proofs.OneCut.Run.{one_char, char_has_bytes, one_run, run_ends}
use Rattle.upon_language_spec.proofs.OneCut.Quoted.{one_quoted, quoted_ends}

-- how far a token goes is determined by its kind
pub one_extent : (s : List ℕ) (t : Token) (m n k : ℕ) → Extent s t m n → Extent s t m k → n ≡ k
one_extent s Whitespace m n k a b = one_run is_tag_space s m n k a b
one_extent s Ident m n k a b = one_run is_xid_continue s m n k a.0 b.0
one_extent s Keyword m n k a b = one_run is_xid_continue s m n k a.0 b.0
one_extent s Number m n k a b = one_run continues_number s m n k a b
one_extent s Index m n k a b = one_run is_ascii_digit s m n k a b
one_extent s String m n k a b = (one_quoted s m n k a b).1
one_extent s QuestionDot m n k a b = a.1 ∙ sym b.1
one_extent s Raw m n k a b = absurd a
one_extent s BeginExpr m n k a b = absurd a
one_extent s EndExpr m n k a b = absurd a
one_extent s BeginBlock m n k a b = absurd a
one_extent s EndBlock m n k a b = absurd a
one_extent s BeginComment m n k a b = absurd a
one_extent s EndComment m n k a b = absurd a
one_extent s t m n k a b = a ∙ sym b

-- a token begins as itself, or is a keyword
pub cases_begin : (t : Token) → (t ≡ start_kind t) ⊎ (t ≡ Keyword)
cases_begin Keyword = inr refl
cases_begin t = inl refl

true_is_not_false : (a b : Bool) → a ≡ b → a ≡ true → b ≡ false → ⊥
true_is_not_false a b e h k = cc

keyword_is_no_name : (s : List ℕ) (m n k : ℕ) → Extent s Keyword m n → Extent s Ident m k → ⊥
keyword_is_no_name s m n k a b =
    let e = one_run is_xid_continue s m n k a.0 b.0 in
    true_is_not_false (is_keyword (slice s (record { m = m; n = n }))) (is_keyword (slice s (record { m = m; n = k }))) (ap (λ x. is_keyword (slice s (record { m = m; n = x }))) e) a.1 b.1

name_by_begin : (t u : Token) → t ≡ Keyword → u ≡ start_kind u → start_kind t ≡ start_kind u → u ≡ Ident
name_by_begin t u h k e = k ∙ sym e ∙ ap start_kind h

-- tokens that begin alike are of one kind: what they are made of says keywords and names apart
same_kind : (s : List ℕ) (t u : Token) (m n k : ℕ) → start_kind t ≡ start_kind u → Extent s t m n → Extent s u m k → t ≡ u
same_kind s t u m n k e a b = elim (cases_begin t) [
  | inl h ↦ elim (cases_begin u) [
    | inl j ↦ h ∙ e ∙ sym j
    | inr j ↦ let F : Token → Type 0 = λ x. Extent s x m k in let G : Token → Type 0 = λ x. Extent s x m n in
        absurd (keyword_is_no_name s m k n (subst F j b) (subst G (name_by_begin u t j h (sym e)) a))
  ]
  | inr h ↦ elim (cases_begin u) [
    | inl j ↦ let F : Token → Type 0 = λ x. Extent s x m n in let G : Token → Type 0 = λ x. Extent s x m k in
        absurd (keyword_is_no_name s m n k (subst F h a) (subst G (name_by_begin t u h j e) b))
    | inr j ↦ h ∙ sym j
  ]
]

same_some : (t u : Token) → Some t ≡ Some u → t ≡ u
same_some t u e = cc

module _ (delimiters : List DelimiterText) (s : List ℕ) (in_path : Bool) where
  begin_alike : (t u : Token) (m n k : ℕ) → IsInside delimiters s in_path t m n → IsInside delimiters s in_path u m k → start_kind t ≡ start_kind u
  begin_alike t u m n k a b = same_some (start_kind t) (start_kind u) (sym a.of_kind ∙ ap (token_kind in_path) (one_char s m a.first b.first a.occurs b.occurs) ∙ b.of_kind)

  pub one_inner : (t u : Token) (m n k : ℕ) → IsInside delimiters s in_path t m n → IsInside delimiters s in_path u m k → (t ≡ u) × (n ≡ k)
  one_inner t u m n k a b =
      let kind = same_kind s t u m n k (begin_alike t u m n k a b) a.extent b.extent in
      let F : Token → Type 0 = λ x. Extent s x m n in
      (kind, one_extent s u m n k (subst F kind a.extent) b.extent)

extent_ends : (s : List ℕ) (t : Token) (m n : ℕ) → m < length s → Extent s t m n → (m < n) × (n ≤ length s)
extent_ends s Whitespace m n l a = run_ends is_tag_space s m n a
extent_ends s Ident m n l a = run_ends is_xid_continue s m n a.0
extent_ends s Keyword m n l a = run_ends is_xid_continue s m n a.0
extent_ends s Number m n l a = run_ends continues_number s m n a
extent_ends s Index m n l a = run_ends is_ascii_digit s m n a
extent_ends s String m n l a = quoted_ends s m n a
extent_ends s QuestionDot m n l a = let within = occurs_within s m (codes "?.") (omega arith) a.0 in (omega (arith, a.1), omega (arith, a.1, within))
extent_ends s Raw m n l a = absurd a
extent_ends s BeginExpr m n l a = absurd a
extent_ends s EndExpr m n l a = absurd a
extent_ends s BeginBlock m n l a = absurd a
extent_ends s EndBlock m n l a = absurd a
extent_ends s BeginComment m n l a = absurd a
extent_ends s EndComment m n l a = absurd a
extent_ends s t m n l a = (omega (arith, a), omega (arith, a))

pub inner_ends : (delimiters : List DelimiterText) (s : List ℕ) (in_path : Bool) (t : Token) (m n : ℕ) → IsInside delimiters s in_path t m n → (m < n) × (n ≤ length s)
inner_ends delimiters s in_path t m n a =
    let some = char_has_bytes a.first in
    let within = occurs_within s m (encode_utf8 a.first) some a.occurs in
    extent_ends s t m n (omega (arith, some, within)) a.extent

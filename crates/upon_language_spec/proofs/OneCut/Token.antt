-- At an offset, in a mode, one token at most is, and it takes at least a byte of the text.
use Rattle.std.proofs.Common.{◌≡◌, ℕ, ◌<◌, ◌≤◌, inl, inr, Bool, List, length, Some, sym, ap, ◌∙◌}
use Rattle.upon_types.specs.declared.types.token.Token.{Token}
use Rattle.upon_language_spec.specs.Search.{DelimiterText, HasTexts}
use Rattle.upon_language_spec.specs.Delimiters.{Sort, comment, begin_sort, has_hyphen, begin_token}
use Rattle.upon_language_spec.specs.Cut.{Mode, outside, in_tag, in_comment, IsRawToken, IsBegin, IsEnd, Ends, IsToken}
use Rattle.upon_language_spec.specs.Raw.{IsRaw}
use Rattle.upon_language_spec.proofs.OneCut.Delimiter.{one_stands, not_bare, stands_ends}
use Rattle.upon_language_spec.proofs.OneCut.Raw.{one_raw, raw_is_no_delimiter}
use Rattle.upon_language_spec.proofs.OneCut.Inside.{one_inner, inner_ends}

same_sort : (a b : Sort) → Some a ≡ Some b → a ≡ b
same_sort a b e = cc

module _ (delimiters : List DelimiterText) (s : List ℕ) where
  one_raw_token : (t u : Token) (hyphen other : Bool) (m n k : ℕ) → IsRawToken delimiters s t hyphen m n → IsRawToken delimiters s u other m k → (t ≡ u) × (hyphen ≡ other) × (n ≡ k)
  one_raw_token t u hyphen other m n k a b = (a.0 ∙ sym b.0, a.1 ∙ sym b.1, one_raw delimiters s m n k a.2 b.2)

  one_begin : (t u : Token) (hyphen other : Bool) (m n k : ℕ) → IsBegin delimiters s t hyphen m n → IsBegin delimiters s u other m k → (t ≡ u) × (hyphen ≡ other) × (n ≡ k)
  one_begin t u hyphen other m n k a b =
      let x = a.2 in
      let y = b.2 in
      let e = one_stands delimiters s x.kind y.kind m n k x.occurs y.occurs in
      let sort = same_sort a.0 b.0 (sym x.of_sort ∙ ap begin_sort e.0 ∙ y.of_sort) in
      (a.1 ∙ ap begin_token sort ∙ sym b.1, sym x.of_hyphen ∙ ap has_hyphen e.0 ∙ y.of_hyphen, e.1)

  one_end : (sort : Sort) (t u : Token) (hyphen other : Bool) (m n k : ℕ) → IsEnd delimiters s sort t hyphen m n → IsEnd delimiters s sort u other m k → (t ≡ u) × (hyphen ≡ other) × (n ≡ k)
  one_end sort t u hyphen other m n k a b =
      let x = a.1 in
      let y = b.1 in
      let e = one_stands delimiters s x.kind y.kind m n k x.occurs y.occurs in
      (a.0 ∙ sym b.0, sym x.of_hyphen ∙ ap has_hyphen e.0 ∙ y.of_hyphen, e.1)

  -- two tokens at one offset in one mode are of one kind, agree on the hyphen, and have one end
  pub one_step : (mode : Mode) (t u : Token) (hyphen other : Bool) (m n k : ℕ) → IsToken delimiters s mode t hyphen m n → IsToken delimiters s mode u other m k → (t ≡ u) × (hyphen ≡ other) × (n ≡ k)
  one_step outside t u hyphen other m n k (inl a) (inl b) = one_raw_token t u hyphen other m n k a b
  one_step outside t u hyphen other m n k (inl a) (inr b) = absurd (raw_is_no_delimiter delimiters s b.2.kind m n k a.2 b.2.occurs)
  one_step outside t u hyphen other m n k (inr a) (inl b) = absurd (raw_is_no_delimiter delimiters s a.2.kind m k n b.2 a.2.occurs)
  one_step outside t u hyphen other m n k (inr a) (inr b) = one_begin t u hyphen other m n k a b
  one_step (in_tag sort in_path) t u hyphen other m n k (inl a) (inl b) = one_end sort t u hyphen other m n k a b
  one_step (in_tag sort in_path) t u hyphen other m n k (inl a) (inr b) = absurd (not_bare delimiters s a.1.kind m n a.1.occurs b.1.bare)
  one_step (in_tag sort in_path) t u hyphen other m n k (inr a) (inl b) = absurd (not_bare delimiters s b.1.kind m k b.1.occurs a.1.bare)
  one_step (in_tag sort in_path) t u hyphen other m n k (inr a) (inr b) = let e = one_inner delimiters s in_path t u m n k a.1 b.1 in (e.0, a.0 ∙ sym b.0, e.1)
  one_step in_comment t u hyphen other m n k (inl a) (inl b) = one_raw_token t u hyphen other m n k a b
  one_step in_comment t u hyphen other m n k (inl a) (inr b) = absurd (raw_is_no_delimiter delimiters s b.1.kind m n k a.2 b.1.occurs)
  one_step in_comment t u hyphen other m n k (inr a) (inl b) = absurd (raw_is_no_delimiter delimiters s a.1.kind m k n b.2 a.1.occurs)
  one_step in_comment t u hyphen other m n k (inr a) (inr b) = one_end comment t u hyphen other m n k a b

  -- where a raw part of a comment begins, the comment does not end
  pub raw_is_no_end : (m n k : ℕ) (hyphen : Bool) → IsRaw delimiters s m n → Ends delimiters s comment hyphen m k → ⊥
  raw_is_no_end m n k hyphen is ends = raw_is_no_delimiter delimiters s ends.kind m n k is ends.occurs

  -- a token takes at least a byte, and lies in the text
  pub step_ends : (mode : Mode) (t : Token) (hyphen : Bool) (m n : ℕ) → HasTexts delimiters → IsToken delimiters s mode t hyphen m n → (m < n) × (n ≤ length s)
  step_ends outside t hyphen m n texts (inl a) = (a.2.some, a.2.within)
  step_ends outside t hyphen m n texts (inr a) = stands_ends delimiters s a.2.kind m n texts a.2.occurs
  step_ends (in_tag sort in_path) t hyphen m n texts (inl a) = stands_ends delimiters s a.1.kind m n texts a.1.occurs
  step_ends (in_tag sort in_path) t hyphen m n texts (inr a) = inner_ends delimiters s in_path t m n a.1
  step_ends in_comment t hyphen m n texts (inl a) = (a.2.some, a.2.within)
  step_ends in_comment t hyphen m n texts (inr a) = stands_ends delimiters s a.1.kind m n texts a.1.occurs

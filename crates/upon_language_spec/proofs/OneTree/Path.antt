-- Tokens that nothing goes on with after them are one path at most.
use Rattle.std.proofs.Common.{◌≡◌, ◌⊎◌, ℕ, List, [], ◌∷◌, Option, Some, Bool, true, false, inl, inr, refl, sym, ap, subst, ◌∙◌}
use Rattle.upon_types.specs.declared.types.Span.{Span}
use Rattle.upon_types.specs.declared.types.token.Token.{Token}
use Rattle.upon_types.specs.declared.types.token.Token.TheVariants.{Ident as Identifier, Index, Dot, QuestionDot, OpenParen}
use Rattle.upon_types.specs.declared.types.ast.path.AccessOp.{AccessOp}
use Rattle.upon_types.specs.declared.types.ast.path.AccessOp.TheVariants.{Direct, Optional}
use Rattle.upon_types.specs.Span.{slice}
use Rattle.upon_types.specs.Path.{Ident, Access, by_index, by_key, Member, access_span}
use Rattle.upon_language_spec.specs.Cut.{Lexeme}
use Rattle.upon_language_spec.specs.Literal.{IsIndex}
use Rattle.upon_language_spec.specs.Tokens.{from_to}
use Rattle.upon_language_spec.specs.Expressions.{op_token, IsAccess, IsMember, IsBareName, AreMembers}
use Rattle.upon_language_spec.proofs.OneTree.Literal.{one_index}
use Rattle.upon_language_spec.proofs.OneTree.Token.{first_token, no_token, one_goes, one_name}

-- a token that goes on with a path or with a name
abbrev pub continues_base : Option Token → Bool
continues_base (Some OpenParen) = true
continues_base (Some Dot) = true
continues_base (Some QuestionDot) = true
continues_base t = false

-- what may be after an expression without filters
abbrev pub BehindBase : List Lexeme → Type 0
BehindBase ts = continues_base (first_token ts) ≡ false

one_op : (a b : AccessOp) → op_token a ≡ op_token b → a ≡ b
one_op Direct Direct e = refl
one_op Direct Optional e = cc
one_op Optional Direct e = cc
one_op Optional Optional e = refl

op_continues : (op : AccessOp) → continues_base (Some (op_token op)) ≡ true
op_continues Direct = refl
op_continues Optional = refl

pub op_is_no_name : (op : AccessOp) → op_token op ≡ Identifier → ⊥
op_is_no_name Direct e = cc
op_is_no_name Optional e = cc

index_is_no_name : Index ≡ Identifier → ⊥
index_is_no_name e = cc

module _ (s : List ℕ) where
  one_access : (a b : Access) (ts us r x : List Lexeme) → ts ≡ us → IsAccess s a ts r → IsAccess s b us x → (a ≡ b) × (r ≡ x)
  one_access (by_index i span) (by_index j place) ts us r x same h k =
      let o = one_goes Index Index span place ts us r x same h.0 k.0 in
      let at : span ≡ place = o.1 in
      let At : Span → Type 0 = λ p. IsIndex (slice s p) i in
      let number : i ≡ j = one_index (slice s place) i j (subst At at h.1) k.1 in
      ((λ n. by_index (number n) (at n)), o.2)
  one_access (by_index i span) (by_key name) ts us r x same h k = absurd (index_is_no_name (one_goes Index Identifier span name.span ts us r x same h.0 k.0).0)
  one_access (by_key name) (by_index j place) ts us r x same h k = absurd (index_is_no_name (sym (one_goes Identifier Index name.span place ts us r x same h.0 k.0).0))
  one_access (by_key v) (by_key w) ts us r x same h k = let o = one_name s v w ts us r x same h k in (ap by_key o.0, o.1)

  one_step : (a b : Member) (ts us r x : List Lexeme) → ts ≡ us → IsMember s a ts r → IsMember s b us x → (a ≡ b) × (r ≡ x)
  one_step a b ts us r x same h k =
      let o = one_goes (op_token a.op) (op_token b.op) h.0 k.0 ts us h.1 k.1 same h.2 k.2 in
      let p = one_access a.access b.access h.1 k.1 r x o.2 h.3 k.3 in
      let op : a.op ≡ b.op = one_op a.op b.op o.0 in
      let op_at : h.0 ≡ k.0 = o.1 in
      let selector : a.access ≡ b.access = p.0 in
      let span : a.span ≡ b.span = h.4 ∙ (λ i. from_to (op_at i) (access_span (selector i))) ∙ sym k.4 in
      ((λ i. record { op = op i; access = selector i; span = span i }), p.1)

  no_step : (a : Member) (ts us r : List Lexeme) → ts ≡ us → BehindBase ts → IsMember s a us r → ⊥
  no_step a ts us r same behind h = no_token continues_base (op_token a.op) ts us h.1 (op_continues a.op) same behind (h.0, h.2)

  pub one_steps : (a b : List Member) (ts us r x : List Lexeme) → ts ≡ us → AreMembers s a ts r → BehindBase r → AreMembers s b us x → BehindBase x → (a ≡ b) × (r ≡ x)
  one_steps [] [] ts us r x same h p k q = (refl, sym h ∙ same ∙ k)
  one_steps [] (v ∷ vs) ts us r x same h p k q = absurd (no_step v r us k.0 (sym h ∙ same) p k.1)
  one_steps (t ∷ more) [] ts us r x same h p k q = absurd (no_step t x ts h.0 (sym k ∙ sym same) q h.1)
  one_steps (t ∷ more) (v ∷ vs) ts us r x same h p k q =
      let o = one_step t v ts us h.0 k.0 same h.1 k.1 in
      let m = one_steps more vs h.0 k.0 r x o.1 h.2 p k.2 q in
      let first : t ≡ v = o.0 in
      let others : more ≡ vs = m.0 in
      ((λ i. first i ∷ others i), m.1)

  -- a bare name or a step
  pub one_first : (a b : Member) (ts us r x : List Lexeme) → ts ≡ us → IsBareName s a ts r ⊎ IsMember s a ts r → IsBareName s b us x ⊎ IsMember s b us x → (a ≡ b) × (r ≡ x)
  one_first a b ts us r x same (inl h) (inl k) =
      let o = one_name s h.0 k.0 ts us r x same h.1 k.1 in
      let bare : Ident → Member = λ w. record { op = Direct; access = by_key w; span = w.span } in
      (h.2 ∙ ap bare o.0 ∙ sym k.2, o.1)
  one_first a b ts us r x same (inl h) (inr k) = absurd (op_is_no_name b.op (sym (one_goes Identifier (op_token b.op) h.0.span k.0 ts us r k.1 same h.1.0 k.2).0))
  one_first a b ts us r x same (inr h) (inl k) = absurd (op_is_no_name a.op (one_goes (op_token a.op) Identifier h.0 k.0.span ts us h.1 x same h.2 k.1.0).0)
  one_first a b ts us r x same (inr h) (inr k) = one_step a b ts us r x same h k

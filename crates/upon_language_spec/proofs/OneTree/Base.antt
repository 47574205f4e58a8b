-- Tokens are one path, literal, call or expression in parentheses at most.
use Rattle.std.proofs.Common.{◌≡◌, ◌⊎◌, ℕ, List, [], ◌∷◌, inl, inr, refl, sym, ap, ◌∙◌}
use Rattle.upon_types.specs.declared.types.Span.{Span}
use Rattle.upon_types.specs.declared.types.token.Token.TheVariants.{OpenParen, CloseParen, Ident as Identifier}
use Rattle.upon_types.specs.declared.types.ast.path.AccessOp.{AccessOp}
use Rattle.upon_types.specs.declared.types.ast.path.AccessOp.TheVariants.{Direct, Optional}
use Rattle.upon_types.specs.Path.{Ident, Member}
use Rattle.upon_types.specs.Val.{Val}
use Rattle.upon_types.specs.Expression.{Expression, var, literal, paren, call, Arguments}
use Rattle.upon_language_spec.specs.Cut.{Lexeme}
use Rattle.upon_language_spec.specs.Tokens.{GoesBy, GoesName}
use Rattle.upon_language_spec.specs.Expressions.{op_token, IsBareName, IsMember, AreMembers, Closes}
use Rattle.upon_language_spec.proofs.OneTree.Token.{no_token, goes_first, one_goes, one_goes_by, one_name}
use Rattle.upon_language_spec.proofs.OneTree.Path.{BehindBase, continues_base, op_is_no_name, one_first, one_steps}
use Rattle.upon_language_spec.proofs.OneTree.Value.{one_literal}
use Rattle.upon_language_spec.proofs.OneTree.Begin.{same_form}
use Rattle.upon_language_spec.proofs.OneTree.Claims.{continues_filters, BehindExpression, OneBase, OneCallBody, OneExpression}
use Rattle.upon_language_spec.proofs.OneTree.Closing.{one_opens, one_closes}
use Rattle.upon_language_spec.proofs.OneTree.Arguments.{args_end_at}
use Rattle.upon_language_spec.proofs.OneTree.Filter.{one_whole}

op_is_no_paren : (op : AccessOp) → op_token op ≡ OpenParen → ⊥
op_is_no_paren Direct e = cc
op_is_no_paren Optional e = cc

module _ (s : List ℕ) where
  -- after a path's first name no parenthesis goes
  no_paren_behind : (steps : List Member) (ts us r x : List Lexeme) → ts ≡ us → AreMembers s steps ts r → BehindBase r → GoesBy OpenParen us x → ⊥
  no_paren_behind [] ts us r x same h behind g = no_token continues_base OpenParen r us x refl (sym h ∙ same) behind g
  no_paren_behind (step ∷ steps) ts us r x same h behind g = op_is_no_paren step.op (one_goes_by (op_token step.op) OpenParen ts us h.1.1 x same (h.1.0, h.1.2) g).0

  path_is_no_call : (first : Member) (steps : List Member) (name : Ident) (ts us mid r after x : List Lexeme) → ts ≡ us
      → IsBareName s first ts mid ⊎ IsMember s first ts mid → AreMembers s steps mid r → BehindBase r → GoesName s name us after → GoesBy OpenParen after x → ⊥
  path_is_no_call first steps name ts us mid r after x same (inl h) more behind k g =
      no_paren_behind steps mid after r x (one_name s h.0 name ts us mid after same h.1 k).1 more behind g
  path_is_no_call first steps name ts us mid r after x same (inr h) more behind k g =
      op_is_no_name first.op (one_goes (op_token first.op) Identifier h.0 name.span ts us h.1 after same h.2 k.0).0

  pub one_var : (first : Member) (steps : List Member) → OneBase s (var first steps)
  one_var first steps (var step more) ts us r x same h p k q =
      let o = one_first s first step ts us h.0 k.0 same h.1 k.1 in
      let m = one_steps s steps more h.0 k.0 r x o.1 h.2 p k.2 q in
      let begins : first ≡ step = o.0 in
      let others : steps ≡ more = m.0 in
      ((λ i. var (begins i) (others i)), m.1)
  one_var first steps (call name args place) ts us r x same h p k q = absurd (path_is_no_call first steps name ts us h.0 r k.0 k.1 same h.1 h.2 p k.2 k.4)
  one_var first steps c ts us r x same h p k q = let e = same_form s (var first steps) c ts us r x same h k in absurd (cc)

  pub one_constant : (v : Val) (span : Span) → OneBase s (literal v span)
  one_constant v span (literal w place) ts us r x same h p k q =
      let o = one_literal s v w span place ts us r x same h k in
      let value : v ≡ w = o.0 in
      let at : span ≡ place = o.1 in
      ((λ i. literal (value i) (at i)), o.2)
  one_constant v span c ts us r x same h p k q = let e = same_form s (literal v span) c ts us r x same h k in absurd (cc)

  closed : (p : Span) (ts r : List Lexeme) → Closes CloseParen p ts r → BehindExpression ts
  closed p ts r h = (args_end_at CloseParen ts r refl refl (h.0, h.1), ap continues_filters (goes_first CloseParen h.0 ts r h.1))

  pub one_paren : (e : Expression) (span : Span) → OneExpression s e → OneBase s (paren e span)
  one_paren e span one (paren f place) ts us r x same h p k q =
      let o = one_opens OpenParen span place ts us h.0 k.0 same h.2 k.2 in
      let inside = one_whole s e f h.0 k.0 h.1 k.1 one o.1 h.3 (closed span h.1 r h.4) k.3 (closed place k.1 x k.4) in
      let c = one_closes CloseParen span place h.1 k.1 r x inside.1 h.4 k.4 in
      let from : span.m ≡ place.m = o.0 in
      let to : span.n ≡ place.n = c.0 in
      let tree : e ≡ f = inside.0 in
      ((λ i. paren (tree i) (record { m = from i; n = to i })), c.1)
  one_paren e span one c ts us r x same h p k q = let e = same_form s (paren e span) c ts us r x same h k in absurd (cc)

  pub one_call : (name : Ident) (args : Arguments) (span : Span) → OneCallBody s args → OneBase s (call name args span)
  one_call name args span one (var first steps) ts us r x same h p k q = absurd (path_is_no_call first steps name us ts k.0 x h.0 h.1 (sym same) k.1 k.2 q h.2 h.4)
  one_call name args span one (call word others place) ts us r x same h p k q =
      let o = one_name s name word ts us h.0 k.0 same h.2 k.2 in
      let start = (one_goes_by OpenParen OpenParen h.0 k.0 h.1 k.1 o.1 h.4 k.4).1 in
      let named : name ≡ word = o.0 in
      let from : span.m ≡ place.m = sym h.3 ∙ ap (λ (w : Ident). w.span.m) named ∙ k.3 in
      let body = one others span place h.1 k.1 r x start from h.5 k.5 in
      let to : span.n ≡ place.n = body.1 in
      let all : args ≡ others = body.0 in
      ((λ i. call (named i) (all i) (record { m = from i; n = to i })), body.2)
  one_call name args span one c ts us r x same h p k q = let e = same_form s (call name args span) c ts us r x same h k in absurd (cc)

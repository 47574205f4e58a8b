-- Tokens are one list of arguments at most: of a call or of a filter.
use Rattle.std.proofs.Common.{◌≡◌, ℕ, List, Some, true, false, refl, sym, ap, ◌∙◌}
use Rattle.upon_types.specs.declared.types.Span.{Span}
use Rattle.upon_types.specs.declared.types.token.Token.{Token}
use Rattle.upon_types.specs.declared.types.token.Token.TheVariants.{CloseParen, Comma, Colon}
use Rattle.upon_types.specs.Expression.{Base, Bases, no_bases, base_then, no_arguments, arguments}
use Rattle.upon_language_spec.specs.Cut.{Lexeme}
use Rattle.upon_language_spec.specs.Tokens.{GoesBy}
use Rattle.upon_language_spec.specs.Expressions.{Closes, last_end, IsArgs, IsMoreArgs}
use Rattle.upon_language_spec.proofs.OneTree.Token.{first_token, goes_first, first_by, no_token, one_goes, one_goes_by}
use Rattle.upon_language_spec.proofs.OneTree.Path.{BehindBase, continues_base}
use Rattle.upon_language_spec.proofs.OneTree.Begin.{begins_no_base}
use Rattle.upon_language_spec.proofs.OneTree.Claims.{continues_args, BehindArgs, OneBase, OneArgs, OneMoreArgs, OneCallBody, OneFilterArgs}
use Rattle.upon_language_spec.proofs.OneTree.Closing.{one_closes}

-- where a token goes that goes on with nothing, arguments end
pub args_end_at : (t : Token) (ts r : List Lexeme) → continues_base (Some t) ≡ false → continues_args (Some t) ≡ false → GoesBy t ts r → BehindArgs ts
args_end_at t ts r b a g = let first = first_by t ts r g in (ap continues_base first ∙ b, ap continues_args first ∙ a)

-- where arguments end, no token goes that goes on with them
pub no_more_args : (t : Token) (ts us x : List Lexeme) → continues_args (Some t) ≡ true → ts ≡ us → BehindArgs ts → GoesBy t us x → ⊥
no_more_args t ts us x continues same behind g = no_token continues_args t ts us x continues same behind.1 g

module _ (s : List ℕ) where
  more_behind : (bs : Bases) (ts r : List Lexeme) → IsMoreArgs s bs ts r → BehindArgs r → BehindBase ts
  more_behind no_bases ts r h behind = ap (λ y. continues_base (first_token y)) h ∙ behind.0
  more_behind (base_then b bs) ts r h behind = ap continues_base (goes_first Comma h.2.0 ts h.0 h.2.1)

  pub no_args : OneArgs s no_bases
  no_args cs ts us r x same h = absurd h

  pub one_args : (b : Base) (bs : Bases) → OneBase s b → OneMoreArgs s bs → OneArgs s (base_then b bs)
  one_args b bs one more no_bases ts us r x same h p k q = absurd k
  one_args b bs one more (base_then c cs) ts us r x same h p k q =
      let o = one c ts us h.0 k.0 same h.1 (more_behind bs h.0 r h.2 p) k.1 (more_behind cs k.0 x k.2 q) in
      let m = more cs h.0 k.0 r x o.1 h.2 p k.2 q in
      let first : b ≡ c = o.0 in
      let others : bs ≡ cs = m.0 in
      ((λ i. base_then (first i) (others i)), m.1)

  pub one_args_end : OneMoreArgs s no_bases
  one_args_end no_bases ts us r x same h p k q = (refl, sym h ∙ same ∙ k)
  one_args_end (base_then c cs) ts us r x same h p k q = absurd (no_more_args Comma r us k.0 refl (sym h ∙ same) p k.2)

  pub one_more_args : (b : Base) (bs : Bases) → OneBase s b → OneMoreArgs s bs → OneMoreArgs s (base_then b bs)
  one_more_args b bs one more no_bases ts us r x same h p k q = absurd (no_more_args Comma x ts h.0 refl (sym k ∙ sym same) q h.2)
  one_more_args b bs one more (base_then c cs) ts us r x same h p k q =
      let start = (one_goes_by Comma Comma ts us h.0 k.0 same h.2 k.2).1 in
      let o = one c h.0 k.0 h.1 k.1 start h.3 (more_behind bs h.1 r h.4 p) k.3 (more_behind cs k.1 x k.4 q) in
      let m = more cs h.1 k.1 r x o.1 h.4 p k.4 q in
      let first : b ≡ c = o.0 in
      let others : bs ≡ cs = m.0 in
      ((λ i. base_then (first i) (others i)), m.1)

  closed_has_no_args : (bs : Bases) (p : Span) (ts us r x : List Lexeme) → ts ≡ us → Closes CloseParen p ts r → IsArgs s bs us x → ⊥
  closed_has_no_args no_bases p ts us r x same h k = absurd k
  closed_has_no_args (base_then b bs) p ts us r x same h k = begins_no_base s CloseParen b ts us r k.0 refl same (h.0, h.1) k.1

  pub one_call_end : OneCallBody s no_arguments
  one_call_end no_arguments p q ts us r x same from h k = let o = one_closes CloseParen p q ts us r x same h k in (refl, o.0, o.1)
  one_call_end (arguments cs at) p q ts us r x same from h k = absurd (closed_has_no_args cs p ts us r k.0 same h k.1)

  pub one_call_body : (bs : Bases) (place : Span) → OneArgs s bs → OneCallBody s (arguments bs place)
  one_call_body bs place args no_arguments p q ts us r x same from h k = absurd (closed_has_no_args bs q us ts x h.0 (sym same) k h.1)
  one_call_body bs place args (arguments cs at) p q ts us r x same from h k =
      let o = args cs ts us h.0 k.0 same h.1 (args_end_at CloseParen h.0 r refl refl (h.3.0, h.3.1)) k.1 (args_end_at CloseParen k.0 x refl refl (k.3.0, k.3.1)) in
      let c = one_closes CloseParen p q h.0 k.0 r x o.1 h.3 k.3 in
      let all : bs ≡ cs = o.0 in
      let stands : place ≡ at = h.2 ∙ (λ i. record { m = from i; n = last_end 0 (all i) }) ∙ sym k.2 in
      ((λ i. arguments (all i) (stands i)), c.0, c.1)

  pub one_filter_end : OneFilterArgs s no_arguments
  one_filter_end no_arguments ts us r x same h p k q = (refl, sym h ∙ same ∙ k)
  one_filter_end (arguments cs at) ts us r x same h p k q = absurd (no_more_args Colon r us k.1 refl (sym h ∙ same) p (k.0, k.2))

  pub one_filter_args : (bs : Bases) (place : Span) → OneArgs s bs → OneFilterArgs s (arguments bs place)
  one_filter_args bs place args no_arguments ts us r x same h p k q = absurd (no_more_args Colon x ts h.1 refl (sym k ∙ sym same) q (h.0, h.2))
  one_filter_args bs place args (arguments cs at) ts us r x same h p k q =
      let o = one_goes Colon Colon h.0 k.0 ts us h.1 k.1 same h.2 k.2 in
      let a = args cs h.1 k.1 r x o.2 h.3 p k.3 q in
      let colon : h.0 ≡ k.0 = o.1 in
      let all : bs ≡ cs = a.0 in
      let stands : place ≡ at = h.4 ∙ (λ i. record { m = (colon i).m; n = last_end 0 (all i) }) ∙ sym k.4 in
      ((λ i. arguments (all i) (stands i)), a.1)

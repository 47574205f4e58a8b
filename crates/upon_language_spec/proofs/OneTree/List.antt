-- Tokens are one list at most.
use Rattle.std.proofs.Common.{◌≡◌, ℕ, List, refl, sym, ap}
use Rattle.upon_types.specs.declared.types.Span.{Span}
use Rattle.upon_types.specs.declared.types.token.Token.TheVariants.{OpenBracket, CloseBracket, Comma}
use Rattle.upon_types.specs.Expression.{Base, list, Bases, no_bases, base_then}
use Rattle.upon_language_spec.specs.Cut.{Lexeme}
use Rattle.upon_language_spec.specs.Tokens.{GoesBy}
use Rattle.upon_language_spec.specs.Expressions.{ClosesList, IsBase, IsListTail}
use Rattle.upon_language_spec.proofs.OneTree.Token.{goes_first, one_goes_by}
use Rattle.upon_language_spec.proofs.OneTree.Path.{BehindBase, continues_base}
use Rattle.upon_language_spec.proofs.OneTree.Begin.{same_form, begins_no_base}
use Rattle.upon_language_spec.proofs.OneTree.Closing.{one_opens, one_closes, one_closes_list, closes_behind_comma, closes_behind_base}
use Rattle.upon_language_spec.proofs.OneTree.Claims.{OneBase, OneListBody, OneListTail}

bracket_is_no_comma : CloseBracket ≡ Comma → ⊥
bracket_is_no_comma e = cc

module _ (s : List ℕ) where
  tail_behind : (bs : Bases) (p : Span) (ts r : List Lexeme) → IsListTail s bs p ts r → BehindBase ts
  tail_behind no_bases p ts r h = closes_behind_base CloseBracket p ts r refl h
  tail_behind (base_then b bs) p ts r h = ap continues_base (goes_first Comma h.2.0 ts h.0 h.2.1)

  pub one_list : (bs : Bases) (p : Span) → OneListBody s bs → OneBase s (list bs p)
  one_list bs p body (list cs q) ts us r x same h b k c =
      let o = one_opens OpenBracket p q ts us h.0 k.0 same h.1 k.1 in
      let inside = body cs p q h.0 k.0 r x o.1 h.2 k.2 in
      let from : p.m ≡ q.m = o.0 in
      let to : p.n ≡ q.n = inside.1 in
      let bases : bs ≡ cs = inside.0 in
      ((λ i. list (bases i) (record { m = from i; n = to i })), inside.2)
  one_list bs p body other ts us r x same h b k c = let e = same_form s (list bs p) other ts us r x same h k in absurd (cc)

  pub one_list_end : OneListBody s no_bases
  one_list_end no_bases p q ts us r x same h k = let o = one_closes CloseBracket p q ts us r x same h k in (refl, o.0, o.1)
  one_list_end (base_then c cs) p q ts us r x same h k = absurd (begins_no_base s CloseBracket c ts us r k.0 refl same (h.0, h.1) k.1)

  pub one_list_body : (b : Base) (bs : Bases) → OneBase s b → OneListTail s bs → OneListBody s (base_then b bs)
  one_list_body b bs one tail no_bases p q ts us r x same h k = absurd (begins_no_base s CloseBracket b us ts x h.0 refl (sym same) (k.0, k.1) h.1)
  one_list_body b bs one tail (base_then c cs) p q ts us r x same h k =
      let o = one c ts us h.0 k.0 same h.1 (tail_behind bs p h.0 r h.2) k.1 (tail_behind cs q k.0 x k.2) in
      let more = tail cs p q h.0 k.0 r x o.1 h.2 k.2 in
      let first : b ≡ c = o.0 in
      let others : bs ≡ cs = more.0 in
      ((λ i. base_then (first i) (others i)), more.1, more.2)

  -- where a list ends and a comma goes, no expression does
  no_base_behind : (c : Base) (p : Span) (ts us r mid x : List Lexeme) → ts ≡ us → ClosesList CloseBracket p ts r → GoesBy Comma us mid → IsBase s c mid x → ⊥
  no_base_behind c p ts us r mid x same h k b = begins_no_base s CloseBracket c mid mid r x refl refl (closes_behind_comma CloseBracket p ts us r mid bracket_is_no_comma same h k) b

  pub one_list_tail_end : OneListTail s no_bases
  one_list_tail_end no_bases p q ts us r x same h k = let o = one_closes_list CloseBracket p q ts us r x bracket_is_no_comma same h k in (refl, o.0, o.1)
  one_list_tail_end (base_then c cs) p q ts us r x same h k = absurd (no_base_behind c p ts us r k.0 k.1 same h k.2 k.3)

  pub one_list_tail : (b : Base) (bs : Bases) → OneBase s b → OneListTail s bs → OneListTail s (base_then b bs)
  one_list_tail b bs one tail no_bases p q ts us r x same h k = absurd (no_base_behind b q us ts x h.0 h.1 (sym same) k h.2 h.3)
  one_list_tail b bs one tail (base_then c cs) p q ts us r x same h k =
      let start = (one_goes_by Comma Comma ts us h.0 k.0 same h.2 k.2).1 in
      let o = one c h.0 k.0 h.1 k.1 start h.3 (tail_behind bs p h.1 r h.4) k.3 (tail_behind cs q k.1 x k.4) in
      let more = tail cs p q h.1 k.1 r x o.1 h.4 k.4 in
      let first : b ≡ c = o.0 in
      let others : bs ≡ cs = more.0 in
      ((λ i. base_then (first i) (others i)), more.1, more.2)

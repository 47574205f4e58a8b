-- Tokens are one map at most.
use Rattle.std.proofs.Common.{◌≡◌, ℕ, List, refl, sym, ap}
use Rattle.upon_types.specs.declared.types.Span.{Span}
use Rattle.upon_types.specs.declared.types.token.Token.TheVariants.{OpenBrace, CloseBrace, Comma, Colon, String}
use Rattle.upon_types.specs.Path.{Ident}
use Rattle.upon_types.specs.Expression.{Base, mapping, Items, no_items, item_then}
use Rattle.upon_language_spec.specs.Cut.{Lexeme}
use Rattle.upon_language_spec.specs.Tokens.{GoesBy, GoesText}
use Rattle.upon_language_spec.specs.Expressions.{Closes, ClosesList, IsBase, IsMapTail}
use Rattle.upon_language_spec.proofs.OneTree.Token.{goes_first, one_goes, one_goes_by, one_string}
use Rattle.upon_language_spec.proofs.OneTree.Path.{BehindBase, continues_base}
use Rattle.upon_language_spec.proofs.OneTree.Begin.{same_form}
use Rattle.upon_language_spec.proofs.OneTree.Claims.{OneBase, OneMapBody, OneMapTail}
use Rattle.upon_language_spec.proofs.OneTree.Closing.{one_opens, one_closes, one_closes_list, closes_behind_comma, closes_behind_base}

brace_is_no_comma : CloseBrace ≡ Comma → ⊥
brace_is_no_comma e = cc

brace_is_no_string : CloseBrace ≡ String → ⊥
brace_is_no_string e = cc

module _ (s : List ℕ) where
  tail_behind : (items : Items) (p : Span) (ts r : List Lexeme) → IsMapTail s items p ts r → BehindBase ts
  tail_behind no_items p ts r h = closes_behind_base CloseBrace p ts r refl h
  tail_behind (item_then key b items) p ts r h = ap continues_base (goes_first Comma h.3.0 ts h.0 h.3.1)

  pub one_mapping : (items : Items) (p : Span) → OneMapBody s items → OneBase s (mapping items p)
  one_mapping items p body (mapping others q) ts us r x same h b k c =
      let o = one_opens OpenBrace p q ts us h.0 k.0 same h.1 k.1 in
      let inside = body others p q h.0 k.0 r x o.1 h.2 k.2 in
      let from : p.m ≡ q.m = o.0 in
      let to : p.n ≡ q.n = inside.1 in
      let all : items ≡ others = inside.0 in
      ((λ i. mapping (all i) (record { m = from i; n = to i })), inside.2)
  one_mapping items p body other ts us r x same h b k c = let e = same_form s (mapping items p) other ts us r x same h k in absurd (cc)

  closed_has_no_key : (key : Ident) (p : Span) (ts us r x : List Lexeme) → ts ≡ us → Closes CloseBrace p ts r → GoesText s key us x → ⊥
  closed_has_no_key key p ts us r x same h k = brace_is_no_string (one_goes CloseBrace String h.0 key.span ts us r x same h.1 k.0).0

  -- where a map ends and a comma goes, no key does
  no_key_behind : (key : Ident) (p : Span) (ts us r mid x : List Lexeme) → ts ≡ us → ClosesList CloseBrace p ts r → GoesBy Comma us mid → GoesText s key mid x → ⊥
  no_key_behind key p ts us r mid x same h k text = brace_is_no_string (one_goes_by CloseBrace String mid mid r x refl (closes_behind_comma CloseBrace p ts us r mid brace_is_no_comma same h k) (key.span, text.0)).0

  -- a key, a colon and an expression
  one_item : (key word : Ident) (b c : Base) (ts us mid mid' after after' r x : List Lexeme) → OneBase s b → ts ≡ us
      → GoesText s key ts mid → GoesBy Colon mid after → IsBase s b after r → BehindBase r
      → GoesText s word us mid' → GoesBy Colon mid' after' → IsBase s c after' x → BehindBase x
      → (key ≡ word) × (b ≡ c) × (r ≡ x)
  one_item key word b c ts us mid mid' after after' r x one same h colon base behind k colon' base' behind' =
      let o = one_string s key word ts us mid mid' same h k in
      let start = (one_goes_by Colon Colon mid mid' after after' o.1 colon colon').1 in
      let v = one c after after' r x start base behind base' behind' in
      (o.0, v.0, v.1)

  pub one_map_end : OneMapBody s no_items
  one_map_end no_items p q ts us r x same h k = let o = one_closes CloseBrace p q ts us r x same h k in (refl, o.0, o.1)
  one_map_end (item_then word c others) p q ts us r x same h k = absurd (closed_has_no_key word p ts us r k.0 same h k.2)

  pub one_map_body : (key : Ident) (b : Base) (items : Items) → OneBase s b → OneMapTail s items → OneMapBody s (item_then key b items)
  one_map_body key b items one tail no_items p q ts us r x same h k = absurd (closed_has_no_key key q us ts x h.0 (sym same) k h.2)
  one_map_body key b items one tail (item_then word c others) p q ts us r x same h k =
      let o = one_item key word b c ts us h.0 k.0 h.1 k.1 h.4.0 k.4.0 one same h.2 h.3 h.4.1 (tail_behind items p h.4.0 r h.4.2) k.2 k.3 k.4.1 (tail_behind others q k.4.0 x k.4.2) in
      let more = tail others p q h.4.0 k.4.0 r x o.2 h.4.2 k.4.2 in
      let name : key ≡ word = o.0 in
      let value : b ≡ c = o.1 in
      let rest : items ≡ others = more.0 in
      ((λ i. item_then (name i) (value i) (rest i)), more.1, more.2)

  pub one_map_tail_end : OneMapTail s no_items
  one_map_tail_end no_items p q ts us r x same h k = let o = one_closes_list CloseBrace p q ts us r x brace_is_no_comma same h k in (refl, o.0, o.1)
  one_map_tail_end (item_then word c others) p q ts us r x same h k = absurd (no_key_behind word p ts us r k.0 k.1 same h k.3 k.4)

  pub one_map_tail : (key : Ident) (b : Base) (items : Items) → OneBase s b → OneMapTail s items → OneMapTail s (item_then key b items)
  one_map_tail key b items one tail no_items p q ts us r x same h k = absurd (no_key_behind key q us ts x h.0 h.1 (sym same) k h.3 h.4)
  one_map_tail key b items one tail (item_then word c others) p q ts us r x same h k =
      let start = (one_goes_by Comma Comma ts us h.0 k.0 same h.3 k.3).1 in
      let o = one_item key word b c h.0 k.0 h.1 k.1 h.2 k.2 h.6.0 k.6.0 one start h.4 h.5 h.6.1 (tail_behind items p h.6.0 r h.6.2) k.4 k.5 k.6.1 (tail_behind others q k.6.0 x k.6.2) in
      let more = tail others p q h.6.0 k.6.0 r x o.2 h.6.2 k.6.2 in
      let name : key ≡ word = o.0 in
      let value : b ≡ c = o.1 in
      let rest : items ≡ others = more.0 in
      ((λ i. item_then (name i) (value i) (rest i)), more.1, more.2)

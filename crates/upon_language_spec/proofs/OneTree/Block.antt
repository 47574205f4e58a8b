-- Tokens are one tag of a block at most.
use Rattle.std.proofs.Common.{◌≡◌, ℕ, List, Option, Some, None, Bool, true, false, refl, sym, ap, ◌∙◌, codes}
use Rattle.upon_types.specs.declared.types.token.Token.{Token}
use Rattle.upon_types.specs.declared.types.token.Token.TheVariants.{BeginBlock, EndBlock, Comma, Keyword}
use Rattle.upon_types.specs.Path.{Ident, LoopVars, item, key_value}
use Rattle.upon_types.specs.Expression.{Expression}
use Rattle.upon_types.specs.BlockKinds.{Opening, opened_kind, block_word}
use Rattle.upon_language_spec.specs.Cut.{Lexeme}
use Rattle.upon_language_spec.specs.Tokens.{GoesBy, GoesKeyword, GoesName, from_to}
use Rattle.upon_language_spec.specs.Grammar.{BeginsBlock, IsWordTag, IsCondition, IsElseIfTag, AreLoopVars, IsOpeningTag, AreGlobals}
use Rattle.upon_language_spec.proofs.BlockKinds.{same_kind, HeadPart, value_part, names_part, Head, last_part, part_then, head_of, IsHeadPart, AreHeadParts, parts_of_head, AlikeParts, AlikeHeads, alike_heads, one_of_head}
use Rattle.upon_language_spec.proofs.OneTree.Token.{goes_first, one_goes_by, one_keyword, one_name}
use Rattle.upon_language_spec.proofs.OneTree.Path.{continues_base}
use Rattle.upon_language_spec.proofs.OneTree.Begin.{not_begins_no_expression}
use Rattle.upon_language_spec.proofs.OneTree.Claims.{continues_args, continues_filters, BehindExpression}
use Rattle.upon_language_spec.proofs.OneTree.Arguments.{args_end_at, no_more_args}
use Rattle.upon_language_spec.proofs.OneTree.Expression.{one_expression}

-- where a token goes that goes on with nothing, an expression ends
pub expression_ends_at : (t : Token) (ts r : List Lexeme) → continues_base (Some t) ≡ false → continues_args (Some t) ≡ false → continues_filters (Some t) ≡ false → GoesBy t ts r → BehindExpression ts
expression_ends_at t ts r b a f g = (args_end_at t ts r b a g, ap continues_filters (goes_first t g.0 ts r g.1) ∙ f)

word_is_no_end : Keyword ≡ EndBlock → ⊥
word_is_no_end e = cc

module _ (s : List ℕ) where
  pub word_ends_no_tag : (word : List ℕ) (ts us r x : List Lexeme) → ts ≡ us → GoesKeyword s word ts r → GoesBy EndBlock us x → ⊥
  word_ends_no_tag word ts us r x same h k = word_is_no_end (one_goes_by Keyword EndBlock ts us r x same (h.0, h.1.0) k).0

  ended_by_word : (word : List ℕ) (ts r : List Lexeme) → GoesKeyword s word ts r → BehindExpression ts
  ended_by_word word ts r h = expression_ends_at Keyword ts r refl refl refl (h.0, h.1.0)

  ended_by_tag : (ts r : List Lexeme) → GoesBy EndBlock ts r → BehindExpression ts
  ended_by_tag ts r h = expression_ends_at EndBlock ts r refl refl refl h

  pub one_begins_block : (v w : List ℕ) (ts us r x : List Lexeme) → ts ≡ us → BeginsBlock s v ts r → BeginsBlock s w us x → (v ≡ w) × (r ≡ x)
  one_begins_block v w ts us r x same h k =
      one_keyword s v w h.0 k.0 r x (one_goes_by BeginBlock BeginBlock ts us h.0 k.0 same h.1 k.1).1 h.2 k.2

  pub one_word_tag : (word : List ℕ) (ts us r x : List Lexeme) → ts ≡ us → IsWordTag s word ts r → IsWordTag s word us x → r ≡ x
  one_word_tag word ts us r x same h k =
      (one_goes_by EndBlock EndBlock h.0 k.0 r x (one_begins_block word word ts us h.0 k.0 same h.1 k.1).1 h.2 k.2).1

  one_condition : (a b : Bool) (e f : Expression) (ts us r x : List Lexeme) → ts ≡ us → IsCondition s a e ts r → BehindExpression r → IsCondition s b f us x → BehindExpression x → (a ≡ b) × (e ≡ f) × (r ≡ x)
  one_condition true true e f ts us r x same h p k q =
      let start = (one_keyword s (codes "not") (codes "not") ts us h.0 k.0 same h.1 k.1).1 in
      let o = one_expression s e f h.0 k.0 r x start h.2 p k.2 q in
      (refl, o.0, o.1)
  one_condition true false e f ts us r x same h p k q = absurd (not_begins_no_expression s f us ts x h.0 (sym same) k h.1)
  one_condition false true e f ts us r x same h p k q = absurd (not_begins_no_expression s e ts us r k.0 same h k.1)
  one_condition false false e f ts us r x same h p k q = let o = one_expression s e f ts us r x same h p k q in (refl, o.0, o.1)

  -- a condition and the end of the tag
  one_condition_tag : (a b : Bool) (e f : Expression) (ts us after after' r x : List Lexeme) → ts ≡ us → IsCondition s a e ts after → GoesBy EndBlock after r → IsCondition s b f us after' → GoesBy EndBlock after' x → (a ≡ b) × (e ≡ f) × (r ≡ x)
  one_condition_tag a b e f ts us after after' r x same h p k q =
      let o = one_condition a b e f ts us after after' same h (ended_by_tag after r p) k (ended_by_tag after' x q) in
      (o.0, o.1, (one_goes_by EndBlock EndBlock after after' r x o.2 p q).1)

  pub one_else_if_tag : (a b : Bool) (e f : Expression) (ts us r x : List Lexeme) → ts ≡ us → IsElseIfTag s a e ts r → IsElseIfTag s b f us x → (a ≡ b) × (e ≡ f) × (r ≡ x)
  one_else_if_tag a b e f ts us r x same h k =
      let start = (one_begins_block (codes "else") (codes "else") ts us h.0 k.0 same h.3 k.3).1 in
      let mid = (one_keyword s (codes "if") (codes "if") h.0 k.0 h.1 k.1 start h.4 k.4).1 in
      one_condition_tag a b e f h.1 k.1 h.2 k.2 r x mid h.5 h.6 k.5 k.6

  -- no comma goes after names
  no_comma : (v w : Ident) (ts us r mid x : List Lexeme) → ts ≡ us → GoesName s v ts r → BehindExpression r → GoesName s w us mid → GoesBy Comma mid x → ⊥
  no_comma v w ts us r mid x same h p k q = no_more_args Comma r mid x refl (one_name s v w ts us r mid same h k).1 p.0 q

  one_loop_names : (a b : LoopVars) (ts us r x : List Lexeme) → ts ≡ us → AreLoopVars s a ts r → BehindExpression r → AreLoopVars s b us x → BehindExpression x → (a ≡ b) × (r ≡ x)
  one_loop_names (item n) (item m) ts us r x same h p k q = let o = one_name s n m ts us r x same h k in (ap item o.0, o.1)
  one_loop_names (item n) (key_value m value span) ts us r x same h p k q = absurd (no_comma n m ts us r k.0 k.1 same h p k.2 k.3)
  one_loop_names (key_value n value span) (item m) ts us r x same h p k q = absurd (no_comma m n us ts x h.0 h.1 (sym same) k q h.2 h.3)
  one_loop_names (key_value n value span) (key_value m other place) ts us r x same h p k q =
      let o = one_name s n m ts us h.0 k.0 same h.2 k.2 in
      let start = (one_goes_by Comma Comma h.0 k.0 h.1 k.1 o.1 h.3 k.3).1 in
      let l = one_name s value other h.1 k.1 r x start h.4 k.4 in
      let key : n ≡ m = o.0 in
      let last : value ≡ other = l.0 in
      let at : span ≡ place = h.5 ∙ (λ i. from_to (key i).span (last i).span) ∙ sym k.5 in
      ((λ i. key_value (key i) (last i) (at i)), l.1)

  one_part : (a b : HeadPart) (ts us r x : List Lexeme) → AlikeParts a b → ts ≡ us → IsHeadPart s a ts r → BehindExpression r → IsHeadPart s b us x → BehindExpression x → (a ≡ b) × (r ≡ x)
  one_part (value_part a e) (value_part b f) ts us r x alike same h p k q =
      let o = one_condition a b e f ts us r x same h p k q in
      let sign : a ≡ b = o.0 in
      let tree : e ≡ f = o.1 in
      ((λ i. value_part (sign i) (tree i)), o.2)
  one_part (names_part a) (names_part b) ts us r x alike same h p k q = let o = one_loop_names a b ts us r x same h p k q in (ap names_part o.0, o.1)
  one_part a b ts us r x alike same h p k q = absurd alike

  -- what follows the keyword of a block, and the end of the tag
  one_head : (a b : Head) (ts us after after' r x : List Lexeme) → AlikeHeads a b → ts ≡ us → AreHeadParts s a ts after → GoesBy EndBlock after r → AreHeadParts s b us after' → GoesBy EndBlock after' x → (a ≡ b) × (r ≡ x)
  one_head (last_part a) (last_part b) ts us after after' r x alike same h p k q =
      let o = one_part a b ts us after after' alike same h (ended_by_tag after r p) k (ended_by_tag after' x q) in
      (ap last_part o.0, (one_goes_by EndBlock EndBlock after after' r x o.1 p q).1)
  one_head (part_then a v g) (part_then b w f) ts us after after' r x alike same h p k q =
      let o = one_part a b ts us h.0 k.0 alike.0 same h.2 (ended_by_word v h.0 h.1 h.3) k.2 (ended_by_word w k.0 k.1 k.3) in
      let word = one_keyword s v w h.0 k.0 h.1 k.1 o.1 h.3 k.3 in
      let others = one_head g f h.1 k.1 after after' r x alike.1 word.1 h.4 p k.4 q in
      let first : a ≡ b = o.0 in
      let between : v ≡ w = word.0 in
      let last : g ≡ f = others.0 in
      ((λ i. part_then (first i) (between i) (last i)), others.1)
  one_head a b ts us after after' r x alike same h p k q = absurd alike

  pub one_opening : (a b : Opening) (e f : Expression) (ts us r x : List Lexeme) → ts ≡ us → IsOpeningTag s a e ts r → IsOpeningTag s b f us x → (a ≡ b) × (e ≡ f) × (r ≡ x)
  one_opening a b e f ts us r x same h k =
      let o = one_begins_block (block_word (opened_kind a)) (block_word (opened_kind b)) ts us h.0 k.0 same h.2 k.2 in
      let kind = same_kind (opened_kind a) (opened_kind b) o.0 in
      let heads = one_head (head_of a e) (head_of b f) h.0 k.0 h.1 k.1 r x (alike_heads a b e f kind) o.1 (parts_of_head s a e h.0 h.1 h.3) h.4 (parts_of_head s b f k.0 k.1 k.3) k.4 in
      let tags = one_of_head a b e f kind heads.0 in
      (tags.0, tags.1, heads.1)

  -- the context of an `include` and the end of the tag
  pub one_context : (a b : Option Expression) (ts us after after' r x : List Lexeme) → ts ≡ us → AreGlobals s a ts after → GoesBy EndBlock after r → AreGlobals s b us after' → GoesBy EndBlock after' x → (a ≡ b) × (r ≡ x)
  one_context None None ts us after after' r x same h p k q = (refl, (one_goes_by EndBlock EndBlock after after' r x (sym h ∙ same ∙ k) p q).1)
  one_context None (Some f) ts us after after' r x same h p k q = absurd (word_ends_no_tag (codes "with") us after k.0 r (sym same ∙ h) k.1 p)
  one_context (Some e) None ts us after after' r x same h p k q = absurd (word_ends_no_tag (codes "with") ts after' h.0 x (same ∙ k) h.1 q)
  one_context (Some e) (Some f) ts us after after' r x same h p k q =
      let start = (one_keyword s (codes "with") (codes "with") ts us h.0 k.0 same h.1 k.1).1 in
      let o = one_expression s e f h.0 k.0 after after' start h.2 (ended_by_tag after r p) k.2 (ended_by_tag after' x q) in
      (ap Some o.0, (one_goes_by EndBlock EndBlock after after' r x o.1 p q).1)

-- What the rows of the kinds of blocks say: of their keywords, of what follows the first, which is parts with a keyword between
-- each two, and of what may come in a tag after it.
use Rattle.std.proofs.Common.{◌≡◌, ℕ, List, [], ◌∷◌, ◌++◌, Bool, true, false, Some, None, bytes_eq, refl, sym, ap, ◌∙◌, codes}
use Rattle.std.proofs.lemmas.Slice.Eq.{bytes_eq-Decides}
use Rattle.upon_types.specs.declared.types.Span.{Span}
use Rattle.upon_types.specs.declared.types.token.Token.TheVariants.{EndBlock, Keyword}
use Rattle.upon_types.specs.Path.{LoopVars, item}
use Rattle.upon_types.specs.Expression.{Expression, base}
use Rattle.upon_types.specs.BlockKinds.{Block, if_block, for_block, with_block, Opening, if_tag, for_tag, with_tag, opened_kind, block_word, end_word, may_have_else_if, kind_with, LoopNamesSpans, OpeningSpans}
use Rattle.upon_language_spec.specs.Cut.{Lexeme}
use Rattle.upon_language_spec.specs.Tokens.{GoesBy, GoesKeyword}
use Rattle.upon_language_spec.specs.Grammar.{IsCondition, AreLoopVars, IsHead}
use Rattle.upon_language_spec.specs.Keys.{Key, key_if, key_else, key_endif, key_for, key_endfor, key_with, key_endwith, key_include, keyword_of, key_word}
use Rattle.upon_language_spec.specs.Parts.{Part, a_base, filters, end_block, block_word as block_part, condition, loop_name, as_word, as_name, key_goes, after}
use Rattle.upon_language_spec.specs.PartLeads.{Leads}
use Rattle.upon_language_spec.proofs.Totality.Means.{Means}
use Rattle.upon_language_spec.proofs.Wanted.ExpressionsLead.{leads_then, leads_key, leads_token, ending_left, by_ending, base_takes, expression_leads, names_lead, if_leads}

pub else_is_no_end : (kind : Block) → codes "else" ≡ end_word kind → ⊥
else_is_no_end if_block e = cc
else_is_no_end kind e = cc

pub block_is_no_include : (kind : Block) → block_word kind ≡ codes "include" → ⊥
block_is_no_include if_block e = cc
block_is_no_include kind e = cc

pub only_if : (kind : Block) → may_have_else_if kind ≡ true → if_block ≡ kind
only_if if_block e = refl
only_if kind e = absurd cc

pub ends_itself : (kind : Block) → bytes_eq (end_word kind) (end_word kind) ≡ true
ends_itself if_block = refl
ends_itself kind = refl

-- the keywords of a kind's first and last tag
pub begun_by : (kind : Block) → kind_with block_word (block_word kind) ≡ Some kind
begun_by if_block = refl
begun_by kind = refl

-- and so a kind is known by the first
pub same_kind : (a b : Block) → block_word a ≡ block_word b → a ≡ b
same_kind a b e = let same : Some a ≡ Some b = sym (begun_by a) ∙ ap (kind_with block_word) e ∙ begun_by b in cc

pub begins_no_end : (kind : Block) → kind_with block_word (end_word kind) ≡ None
begins_no_end if_block = refl
begins_no_end kind = refl

pub ended_by : (kind : Block) → kind_with end_word (end_word kind) ≡ Some kind
ended_by if_block = refl
ended_by kind = refl

pub same_end : (a b : Block) → bytes_eq (end_word a) (end_word b) ≡ true → a ≡ b
same_end a b e = let same : Some a ≡ Some b = sym (ended_by a) ∙ ap (kind_with end_word) ((bytes_eq-Decides (end_word a) (end_word b)).0 e) ∙ ended_by b in cc

pub ends_no_begin : (kind : Block) → kind_with end_word (block_word kind) ≡ None
ends_no_begin if_block = refl
ends_no_begin kind = refl

-- `else` is neither
pub block_is_no_else : (kind : Block) → bytes_eq (block_word kind) (codes "else") ≡ false
block_is_no_else if_block = refl
block_is_no_else kind = refl

pub end_is_no_else : (kind : Block) → bytes_eq (end_word kind) (codes "else") ≡ false
end_is_no_else if_block = refl
end_is_no_else kind = refl

-- what may stand between two keywords of a first tag: an expression, which `not` may turn round, or names
pub data HeadPart : Type 0 where
  value_part : Bool → Expression → HeadPart
  names_part : LoopVars → HeadPart

-- all that follows the keyword of a block
pub data Head : Type 0 where
  last_part : HeadPart → Head
  part_then : HeadPart → List ℕ → Head → Head

abbrev pub head_of : Opening → Expression → Head
head_of (if_tag negated) e = last_part (value_part negated e)
head_of (for_tag names) e = part_then (names_part names) (codes "in") (last_part (value_part false e))
head_of (with_tag name) e = part_then (value_part false e) (codes "as") (last_part (names_part (item name)))

abbrev pub IsHeadPart : List ℕ → HeadPart → List Lexeme → List Lexeme → Type 0
IsHeadPart s (value_part negated e) before rest = IsCondition s negated e before rest
IsHeadPart s (names_part names) before rest = AreLoopVars s names before rest

abbrev pub AreHeadParts : List ℕ → Head → List Lexeme → List Lexeme → Type 0
AreHeadParts s (last_part part) before rest = IsHeadPart s part before rest
AreHeadParts s (part_then part word head) before rest = (mid after : List Lexeme) × IsHeadPart s part before mid × GoesKeyword s word mid after × AreHeadParts s head after rest

pub parts_of_head : (s : List ℕ) (tag : Opening) (e : Expression) (ts rest : List Lexeme) → IsHead s tag e ts rest → AreHeadParts s (head_of tag e) ts rest
parts_of_head s (if_tag negated) e ts rest g = g
parts_of_head s tag e ts rest g = g

pub head_of_parts : (s : List ℕ) (tag : Opening) (e : Expression) (ts rest : List Lexeme) → AreHeadParts s (head_of tag e) ts rest → IsHead s tag e ts rest
head_of_parts s (if_tag negated) e ts rest g = g
head_of_parts s tag e ts rest g = g

-- what holds of each span and each expression in it
abbrev pub PartSpans : (Span → Type 0) → (Expression → Type 0) → HeadPart → Type 0
PartSpans P E (value_part negated e) = E e
PartSpans P E (names_part names) = LoopNamesSpans P names

abbrev pub HeadSpans : (Span → Type 0) → (Expression → Type 0) → Head → Type 0
HeadSpans P E (last_part part) = PartSpans P E part
HeadSpans P E (part_then part word head) = PartSpans P E part × HeadSpans P E head

pub spans_of_head : (P : Span → Type 0) (E : Expression → Type 0) (tag : Opening) (e : Expression) → HeadSpans P E (head_of tag e) → OpeningSpans P tag × E e
spans_of_head P E (if_tag negated) e h = (tt, h)
spans_of_head P E (for_tag names) e h = h
spans_of_head P E (with_tag name) e h = (h.1, h.0)

-- the heads of a kind are alike, and say what opened the block
abbrev pub AlikeParts : HeadPart → HeadPart → Type 0
AlikeParts (value_part a e) (value_part b f) = Unit {0}
AlikeParts (names_part a) (names_part b) = Unit {0}
AlikeParts a b = ⊥

abbrev pub AlikeHeads : Head → Head → Type 0
AlikeHeads (last_part a) (last_part b) = AlikeParts a b
AlikeHeads (part_then a v g) (part_then b w h) = AlikeParts a b × AlikeHeads g h
AlikeHeads a b = ⊥

pub alike_heads : (a b : Opening) (e f : Expression) → opened_kind a ≡ opened_kind b → AlikeHeads (head_of a e) (head_of b f)
alike_heads (if_tag a) (if_tag b) e f same = tt
alike_heads (for_tag a) (for_tag b) e f same = (tt, tt)
alike_heads (with_tag a) (with_tag b) e f same = (tt, tt)
alike_heads a b e f same = absurd cc

pub one_of_head : (a b : Opening) (e f : Expression) → opened_kind a ≡ opened_kind b → head_of a e ≡ head_of b f → (a ≡ b) × (e ≡ f)
one_of_head (if_tag a) (if_tag b) e f same h = (cc, cc)
one_of_head (for_tag a) (for_tag b) e f same h = (cc, cc)
one_of_head (with_tag a) (with_tag b) e f same h = (cc, cc)
one_of_head a b e f same h = absurd cc

-- the parts that are to come after its keyword
abbrev pub kind_parts : Block → List Part
kind_parts if_block = condition ∷ end_block ∷ []
kind_parts for_block = loop_name ∷ end_block ∷ []
kind_parts with_block = a_base ∷ filters ∷ as_word ∷ end_block ∷ []

pub after_begin : (kind : Block) → after (block_part ∷ []) Keyword (keyword_of (block_word kind)) ≡ Some (kind_parts kind)
after_begin if_block = refl
after_begin kind = refl

pub after_end : (kind : Block) → after (block_part ∷ []) Keyword (keyword_of (end_word kind)) ≡ Some (end_block ∷ [])
after_end if_block = refl
after_end kind = refl

-- what holds of each keyword: of those of a kind, of `else` and `include`, and of those that begin no tag
pub each_key : (P : Key → Type 0) → ((k : Key) (kind : Block) → key_word k ≡ block_word kind → key_goes block_part k ≡ Some (kind_parts kind) → P k) → ((k : Key) (kind : Block) → key_word k ≡ end_word kind → key_goes block_part k ≡ Some (end_block ∷ []) → P k) → P key_else → P key_include → ((k : Key) → key_goes block_part k ≡ None → P k) → (k : Key) → P k
each_key P begins ends else include none key_if = begins key_if if_block refl refl
each_key P begins ends else include none key_for = begins key_for for_block refl refl
each_key P begins ends else include none key_with = begins key_with with_block refl refl
each_key P begins ends else include none key_endif = ends key_endif if_block refl refl
each_key P begins ends else include none key_endfor = ends key_endfor for_block refl refl
each_key P begins ends else include none key_endwith = ends key_endwith with_block refl refl
each_key P begins ends else include none key_else = else
each_key P begins ends else include none key_include = include
each_key P begins ends else include none k = none k refl

module _ (s : List ℕ) where
  -- what can be read as these parts is a head of the kind, and the end of the tag
  pub means_head : (kind : Block) (ps : List Part) (ls : List Lexeme) → Means s (kind_parts kind ++ ps) ls → (tag : Opening) × (e : Expression) × (mid rest : List Lexeme) × (opened_kind tag ≡ kind) × IsHead s tag e ls mid × GoesBy EndBlock mid rest × Means s ps rest
  means_head if_block ps ls (negated, e, mid, g, (rest, end, h)) = (if_tag negated, e, mid, rest, refl, g, end, h)
  means_head for_block ps ls (names, e, mid, after, last, named, within, g, (rest, end, h)) = (for_tag names, e, last, rest, refl, (mid, after, named, within, g), end, h)
  means_head with_block ps ls (b, start, g, f) = let (e, mid, read, (name, after, last, within, named, (rest, end, h))) = f (base b) ls g in (with_tag name, e, last, rest, refl, (mid, after, read, within, named), end, h)

  -- a head and the end of the tag lead on as the parts say
  pub head_leads : (tag : Opening) (e : Expression) (ts us vs : List Lexeme) → IsHead s tag e ts us → GoesBy EndBlock us vs → Leads s (kind_parts (opened_kind tag)) ts [] vs
  head_leads (if_tag negated) e ts us vs g end = if_leads s negated e ts us vs g end
  head_leads (for_tag names) e ts us vs (mid, last, named, word, g) end =
      let (ending, leads) = expression_leads s e last us g in
      leads_then s (names_lead s names ts mid last named word (end_block ∷ []))
      (leads_then s (leads (a_base ∷ filters ∷ end_block ∷ []) (end_block ∷ []) (base_takes (filters ∷ end_block ∷ []))) (by_ending s ending (filters ∷ end_block ∷ []) end refl (λ k. refl)))
  head_leads (with_tag name) e ts us vs (mid, last, g, (span, word), named) end =
      let (ending, leads) = expression_leads s e ts mid g in
      leads_then s (leads (a_base ∷ filters ∷ as_word ∷ end_block ∷ []) (as_word ∷ end_block ∷ []) (base_takes (filters ∷ as_word ∷ end_block ∷ [])))
      (leads_then s (leads_key s (codes "as") word (ending_left ending (filters ∷ as_word ∷ end_block ∷ []) Keyword (keyword_of (codes "as")) refl)) (leads_then s (leads_token s {a = as_name ∷ end_block ∷ []} (name.span, named.0) (λ k. refl)) (leads_token s {a = end_block ∷ []} end (λ k. refl))))

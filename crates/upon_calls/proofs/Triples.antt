-- The pairs of triples, one after the other.
use Rattle.std.proofs.Common.{◌≡◌, ◌<◌, ◌≤◌, ◌+◌, ◌∙◌, ◌∷◌, [], ℕ, List, Bool, true, false, Option, Some, None, arith, drop, get_or, is_some, length, option_map, Vec, Global, refl, sym, ap}
use Rattle.std.specs.Prelude.{option_and_then, if◌then◌else◌}
use Rattle.std.proofs.lemmas.List.{drop_all, drop_more}
use Rattle.upon_types.specs.Val.{Val, Vals, list_val}
use Rattle.upon_types.specs.View.{view, vals_view}
use Rattle.upon_types.specs.declared.value.Value.{Value}
use Rattle.upon_types.specs.declared.value.Value.TheVariants.{List as ListValue}
use Rattle.upon_types.proofs.Views.{view-List}
use Rattle.upon_calls.specs.Arguments.{its_text}
use Rattle.upon_delimiters.specs.SetTexts.{SetTexts, nothing_set}
use Rattle.upon_calls.specs.Pairs.{if_expr, pairs_in, some_text_in, sort_in, triple_in, triple_of, with_pairs, with_sort_pair}
use Rattle.upon_calls.specs.declared.pairs.Sort.{Sort}
use Rattle.upon_calls.specs.declared.pairs.Sort.TheVariants.{Expr, Block, Comment}

-- one triple more
pub pair_more : (whole : Option SetTexts) (items : List Value) (i : ℕ) (d : Value) (old new : SetTexts) (t : Sort × (List ℕ × List ℕ)) → i < length items → triple_in (view (get_or items i d)) ≡ Some t → new ≡ with_sort_pair t.0 t.1.0 t.1.1 old
    → whole ≡ with_pairs (vals_view (drop i items)) old → whole ≡ with_pairs (vals_view (drop (i + 1) items)) new
pair_more whole items i d old new t inside is set so_far =
    so_far
    ∙ ap (λ items. with_pairs (vals_view items) old) (drop_more items i d inside)
    ∙ ap (λ o. option_and_then (λ t. with_pairs (vals_view (drop (i + 1) items)) (with_sort_pair t.0 t.1.0 t.1.1 old)) o) is
    ∙ ap (with_pairs (vals_view (drop (i + 1) items))) (sym set)

-- one that is none
pub no_pair : (whole : Option SetTexts) (items : List Value) (i : ℕ) (d : Value) (old : SetTexts) → i < length items → triple_in (view (get_or items i d)) ≡ None
    → whole ≡ with_pairs (vals_view (drop i items)) old → whole ≡ None
no_pair whole items i d old inside none so_far =
    so_far
    ∙ ap (λ items. with_pairs (vals_view items) old) (drop_more items i d inside)
    ∙ ap (λ o. option_and_then (λ t. with_pairs (vals_view (drop (i + 1) items)) (with_sort_pair t.0 t.1.0 t.1.1 old)) o) none

-- the last one
pub pairs_whole : (items : List Value) (i : ℕ) (set : SetTexts) → length items ≤ i → with_pairs (vals_view items) nothing_set ≡ with_pairs (vals_view (drop i items)) set → pairs_in (vals_view items) ≡ if_expr set
pairs_whole items i set done so_far =
    ap (option_and_then if_expr) (so_far ∙ ap (λ items. with_pairs (vals_view items) set) (drop_all i items done))

pub no_pairs : (items : List Value) → with_pairs (vals_view items) nothing_set ≡ None → pairs_in (vals_view items) ≡ None
no_pairs items none = ap (option_and_then if_expr) none

-- whether one is for expressions
pub has_pair : (set : SetTexts) (has : Bool) → has ≡ is_some set.expr → has ≡ true → if_expr set ≡ Some set
has_pair set has is so = ap (λ b. if b then Some set else None) (sym is ∙ so)

pub lacks_pair : (set : SetTexts) (has : Bool) → has ≡ is_some set.expr → has ≡ false → if_expr set ≡ None
lacks_pair set has is so = ap (λ b. if b then Some set else None) (sym is ∙ so)

-- ---- a triple
three_items : (items : List Value) (word begin end : Value) → length items ≡ 3 → word ≡ get_or items 0 word → begin ≡ get_or items 1 begin → end ≡ get_or items 2 end
    → triple_of (option_and_then sort_in (its_text (view word))) (some_text_in (view begin)) (some_text_in (view end)) ≡ triple_in (list_val (vals_view items))
three_items [] word begin end len w b e = absurd (omega (arith, len))
three_items (x ∷ []) word begin end len w b e = absurd (omega (arith, len))
three_items (x ∷ y ∷ []) word begin end len w b e = absurd (omega (arith, len))
three_items (x ∷ y ∷ z ∷ []) word begin end len w b e =
    λ i. triple_of (option_and_then sort_in (its_text (view (w i)))) (some_text_in (view (b i))) (some_text_in (view (e i)))
three_items (x ∷ y ∷ z ∷ q ∷ qs) word begin end len w b e = absurd (omega (arith, len))

other_items : (items : List Value) → (length items ≡ 3 → ⊥) → triple_in (list_val (vals_view items)) ≡ None
other_items [] never = refl
other_items (x ∷ []) never = refl
other_items (x ∷ y ∷ []) never = refl
other_items (x ∷ y ∷ z ∷ []) never = absurd (never refl)
other_items (x ∷ y ∷ z ∷ q ∷ qs) never = refl

pub triple_list : (item : Value) (parts : Vec Value Global) (items : List Value) (word begin end : Value) → item ≡ ListValue parts → items ≡ parts.items → length items ≡ 3 → word ≡ get_or items 0 word → begin ≡ get_or items 1 begin → end ≡ get_or items 2 end
    → triple_of (option_and_then sort_in (its_text (view word))) (some_text_in (view begin)) (some_text_in (view end)) ≡ triple_in (view item)
triple_list item parts items word begin end is same len w b e =
    three_items items word begin end len w b e
    ∙ ap (λ items. triple_in (list_val (vals_view items))) same
    ∙ sym (ap triple_in (ap view is ∙ view-List parts))

pub no_triple : (item : Value) (parts : Vec Value Global) (items : List Value) → item ≡ ListValue parts → items ≡ parts.items → (length items ≡ 3 → ⊥) → triple_in (view item) ≡ None
no_triple item parts items is same never =
    ap triple_in (ap view is ∙ view-List parts)
    ∙ ap (λ items. triple_in (list_val (vals_view items))) (sym same)
    ∙ other_items items never

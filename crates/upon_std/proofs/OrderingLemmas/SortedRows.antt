-- The items of sorted rows are the sorted items.
use Rattle.std.proofs.Common.{◌≡◌, ℕ, suc, ◌+◌, ◌<◌, ◌≤◌, true, false, List, [], ◌∷◌, ◌++◌, Option, Some, None, Ok, Ordering, length, get_or, map, option_map, take, drop, nat_cmp, int_cmp, refl, ap, sym, subst, ◌∙◌, arith}
use Rattle.std.specs.Prelude.{is_some}
use Rattle.std.specs.List.{AllByRecursion}
use Rattle.std.proofs.lemmas.Bool.{false≢true}
use Rattle.std.specs.Cmp.Lexicographic.{slice_cmp}
use Rattle.std.specs.Ordering.{is_lt, ordering_then}
use Rattle.std.proofs.lemmas.List.{map-append, take_all, at_drop_all, at_drop_more}
use Rattle.upon_types.specs.Val.{Val, int_val, text_val}
use Rattle.upon_types.specs.View.{view}
use Rattle.upon_types.specs.declared.value.Value.{Value}
use Rattle.upon_std.specs.Basic.Order.{order_of, unordered}
use Rattle.upon_std.specs.Ordering.Ranks.{kind_rank, integer_in, bytes_in, rank_cmp}
use Rattle.upon_std.specs.Ordering.Rows.{ranked, row_key, row_item, AreRows}
use Rattle.upon_std.specs.Ordering.Sorting.{ascending, is_below, unless_ordered, first_unlike, keys_refusal, values_or_refusal, sorted_by}
use Rattle.upon_std.specs.declared.ordering.sorting.Row.{Row}
use Rattle.upon_std.proofs.OrderingLemmas.Meeting.{one_more}
use Rattle.upon_std.proofs.OrderingLemmas.Ranks.{ranked_is_sorted}
use Rattle.upon_std.proofs.OrderingLemmas.Rising.{ascending_agree, ascending-map}

-- ---- a key and its rank
same_kind : (v : Val) → kind_rank (ranked v) ≡ kind_rank v
same_kind (int_val z) = refl
same_kind (text_val s) = refl
same_kind _ = refl

same_integer : (v : Val) → integer_in (ranked v) ≡ integer_in v
same_integer (int_val z) = refl
same_integer (text_val s) = refl
same_integer _ = refl

same_bytes : (v : Val) → bytes_in (ranked v) ≡ bytes_in v
same_bytes (int_val z) = refl
same_bytes (text_val s) = refl
same_bytes _ = refl

same_rank : (v w : Val) → rank_cmp (ranked v) (ranked w) ≡ rank_cmp v w
same_rank v w =
    λ i. ordering_then (nat_cmp (same_kind v i) (same_kind w i))
    (ordering_then (int_cmp (same_integer v i) (same_integer w i)) (slice_cmp nat_cmp (same_bytes v i) (same_bytes w i)))

-- ---- rows
-- each row has the rank of the key of its item
each_has_rank : (key : Val → Val) (rows : List Row) → map row_key rows ≡ map (λ v. ranked (key v)) (map row_item rows)
    → AllByRecursion (λ row. row_key row ≡ ranked (key (row_item row))) rows
each_has_rank key [] e = tt
each_has_rank key (row ∷ rows) e =
    let head : row_key row ≡ ranked (key (row_item row)) = cc in
    let tail : map row_key rows ≡ map (λ v. ranked (key v)) (map row_item rows) = cc in
    (head, each_has_rank key rows tail)

agree : (key : Val → Val) (one other : Row) → row_key one ≡ ranked (key (row_item one)) → row_key other ≡ ranked (key (row_item other))
    → is_lt (rank_cmp (row_key one) (row_key other)) ≡ is_lt (rank_cmp (key (row_item one)) (key (row_item other)))
agree key one other of_one of_other =
    ap (λ v. is_lt (rank_cmp v (row_key other))) of_one ∙ ap (λ v. is_lt (rank_cmp (ranked (key (row_item one))) v)) of_other
    ∙ ap is_lt (same_rank (key (row_item one)) (key (row_item other)))

-- the items of rows in the order of their ranks
items_sorted : (key : Val → Val) (vs : List Val) (rows : List Row) → AreRows key vs rows
    → map row_item (ascending (λ one other. is_lt (rank_cmp (row_key one) (row_key other))) rows) ≡ ascending (λ v w. is_lt (rank_cmp (key v) (key w))) vs
items_sorted key vs rows are =
    ap (map row_item)
    (ascending_agree (λ row. row_key row ≡ ranked (key (row_item row))) (λ one other. is_lt (rank_cmp (row_key one) (row_key other)))
    (λ one other. is_lt (rank_cmp (key (row_item one)) (key (row_item other)))) (agree key) rows
    (each_has_rank key rows (are.1 ∙ ap (map (λ v. ranked (key v))) (sym are.0))))
    ∙ ascending-map row_item (λ v w. is_lt (rank_cmp (key v) (key w))) rows ∙ ap (ascending (λ v w. is_lt (rank_cmp (key v) (key w)))) are.0

-- copies of the items of sorted rows, where no item is refused
pub rows_sorted : (key : Val → Val) (vs made : List Val) (rows sorted : List Row) → keys_refusal (map key vs) ≡ None → AreRows key vs rows
    → sorted ≡ ascending (λ one other. is_lt (rank_cmp (row_key one) (row_key other))) rows → made ≡ map row_item sorted → sorted_by key vs ≡ Ok made
rows_sorted key vs made rows sorted kept are in_order copied =
    ap (λ o. values_or_refusal o (ascending (λ v w. is_below (key v) (key w)) vs)) kept
    ∙ ap Ok (sym (ranked_is_sorted key vs kept) ∙ sym (items_sorted key vs rows are) ∙ sym (copied ∙ ap (map row_item) in_order))

-- ---- rows that are made one by one
pub one_row_more : (key : Val → Val) (items others : List Value) (first x : Value) (i : ℕ) (rows new : List Row) (row : Row) → items ≡ first ∷ others → i < length others
    → x ≡ get_or others i x → row_item row ≡ view x → row_key row ≡ ranked (key (view x)) → new ≡ rows ++ row ∷ [] → AreRows key (map view (take (i + 1) items)) rows
    → AreRows key (map view (take (i + 1 + 1) items)) new
one_row_more key items others first x i rows new row split within is of_item of_key pushed are =
    let next : i + 1 ≡ suc i = omega arith in
    let at : x ≡ get_or items (i + 1) x = is ∙ ap (λ n. get_or (first ∷ others) n x) (sym next) ∙ ap (λ xs. get_or xs (i + 1) x) (sym split) in
    let count : length items ≡ suc (length others) = ap length split in
    let vs = map view (take (i + 1) items) in
    let so_far = one_more items (i + 1) x (omega arith) at in (
      ap (map row_item) pushed ∙ map-append row_item rows (row ∷ []) ∙ ap (λ ws. ws ++ row_item row ∷ []) are.0 ∙ ap (λ v. vs ++ v ∷ []) of_item ∙ sym so_far,
      ap (map row_key) pushed ∙ map-append row_key rows (row ∷ []) ∙ ap (λ ws. ws ++ row_key row ∷ []) are.1
          ∙ ap (λ v. map (λ w. ranked (key w)) vs ++ v ∷ []) of_key
          ∙ sym (ap (map (λ w. ranked (key w))) so_far ∙ map-append (λ w. ranked (key w)) vs (view x ∷ [])),
    )

pub all_rows : (key : Val → Val) (items others : List Value) (first : Value) (v : Val) (i : ℕ) (rows : List Row) → items ≡ first ∷ others → v ≡ key (view first) → length others ≤ i
    → first_unlike v (map key (map view (drop i others))) ≡ first_unlike v (map key (map view others)) → AreRows key (map view (take (i + 1) items)) rows
    → (keys_refusal (map key (map view items)) ≡ None) × AreRows key (map view items) rows
all_rows key items others first v i rows split of_first past unlike are =
    let count : length items ≡ suc (length others) = ap length split in
    let none : first_unlike v (map key (map view others)) ≡ None =
    sym unlike ∙ at_drop_all (λ xs. first_unlike v (map key (map view xs))) others i past in (
      ap (λ xs. keys_refusal (map key (map view xs))) split
          ∙ ap (option_map (unordered (key (view first)))) (ap (λ w. first_unlike w (map key (map view others))) (sym of_first) ∙ none),
      subst (λ xs. AreRows key (map view xs) rows) (take_all (i + 1) items (omega arith)) are,
    )

ordered_next : (o : Option Ordering) (w : Val) (later : Option Val) → is_some o ≡ true → unless_ordered o w later ≡ later
ordered_next (Some order) w later some = refl
ordered_next None w later some = absurd (false≢true some)

-- an item whose key compares with the first is not the one that does not
pub one_like_more : (key : Val → Val) (others : List Value) (x : Value) (v w : Val) (i : ℕ) (whole : Option Val) → i < length others → x ≡ get_or others i x → w ≡ key (view x)
    → is_some (order_of v w) ≡ true → first_unlike v (map key (map view (drop i others))) ≡ whole → first_unlike v (map key (map view (drop (i + 1) others))) ≡ whole
one_like_more key others x v w i whole within is of_x some so_far =
    let later = first_unlike v (map key (map view (drop (i + 1) others))) in
    sym (ordered_next (order_of v w) w later some)
    ∙ ap (λ u. unless_ordered (order_of v u) u later) of_x
    ∙ ap (λ y. first_unlike v (map key (map view (y ∷ drop (i + 1) others)))) is
    ∙ sym (at_drop_more (λ xs. first_unlike v (map key (map view xs))) others i x within) ∙ so_far

unordered_next : (o : Option Ordering) (w : Val) (later : Option Val) → is_some o ≡ false → unless_ordered o w later ≡ Some w
unordered_next (Some order) w later none = absurd (false≢true (sym none))
unordered_next None w later none = refl

-- the first item whose key does not compare with the first is the one that is refused
pub refused_at : (key : Val → Val) (items others : List Value) (first x : Value) (v w : Val) (i : ℕ) → items ≡ first ∷ others → i < length others → x ≡ get_or others i x
    → v ≡ key (view first) → w ≡ key (view x) → is_some (order_of v w) ≡ false
    → first_unlike v (map key (map view (drop i others))) ≡ first_unlike v (map key (map view others))
    → keys_refusal (map key (map view items)) ≡ Some (unordered v w)
refused_at key items others first x v w i split within is of_first of_x none so_far =
    let later = first_unlike v (map key (map view (drop (i + 1) others))) in
    let unlike : first_unlike v (map key (map view others)) ≡ Some w =
    sym so_far ∙ at_drop_more (λ xs. first_unlike v (map key (map view xs))) others i x within
    ∙ ap (λ y. first_unlike v (map key (map view (y ∷ drop (i + 1) others)))) (sym is)
    ∙ ap (λ u. unless_ordered (order_of v u) u later) (sym of_x) ∙ unordered_next (order_of v w) w later none in
    ap (λ xs. keys_refusal (map key (map view xs))) split
    ∙ ap (λ u. option_map (unordered u) (first_unlike u (map key (map view others)))) (sym of_first)
    ∙ ap (option_map (unordered v)) unlike

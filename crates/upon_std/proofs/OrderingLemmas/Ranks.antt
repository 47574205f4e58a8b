-- The rank of values is a total order, and that of integers and of texts; of keys that compare with one it is the order.
use Rattle.std.proofs.Common.{◌≡◌, List, [], ◌∷◌, Option, Some, None, option_map, map, Ordering, Less, Equal, Greater, nat_cmp, int_cmp, refl, ap}
use Rattle.std.specs.Cmp.{IsTotalOrder, IsStrictWeakOrder, on_total, then_total, nat_cmp_total, int_cmp_total}
use Rattle.std.specs.Cmp.Lexicographic.{slice_cmp, on_texts}
use Rattle.std.specs.List.{AllByRecursion}
use Rattle.std.specs.Ordering.{is_lt, ordering_then}
use Rattle.std.proofs.lemmas.List.Sorted.{ranks_by}
use Rattle.upon_types.specs.Val.{Val, int_val, text_val}
use Rattle.upon_std.specs.Basic.Order.{order_of, unordered}
use Rattle.upon_std.specs.Ordering.Ranks.{kind_rank, integer_in, bytes_in, rank_cmp}
use Rattle.upon_std.specs.Ordering.Sorting.{ascending, is_below, unless_ordered, first_unlike, keys_refusal}
use Rattle.upon_std.proofs.OrderingLemmas.Rising.{ascending_agree}

pub rank_total : IsTotalOrder rank_cmp
rank_total = then_total (on_total kind_rank nat_cmp_total) (then_total (on_total integer_in int_cmp_total) (on_texts bytes_in))

pub rank_weak : {X : Type 0} (key : X → Val) → IsStrictWeakOrder (λ x y. is_lt (rank_cmp (key x) (key y)))
rank_weak key = ranks_by rank_total key

pub then_equal : (o : Ordering) → ordering_then o Equal ≡ o
then_equal Less = refl
then_equal Equal = refl
then_equal Greater = refl

some_apart : {A X : Type 0} (x : X) → Some x ≡ None → A
some_apart x e = absurd (cc)

none_apart : {A X : Type 0} (x : X) → None ≡ Some x → A
none_apart x e = absurd (cc)

-- ---- of keys that compare with one
-- a value that compares with a value of this kind: an integer, or a text
abbrev pub IsLike : Val → Val → Type 0
IsLike v w = (o : Ordering) × (order_of v w ≡ Some o)

like_ordered : (k v w : Val) → IsLike k v → IsLike k w → is_lt (rank_cmp v w) ≡ is_below v w
like_ordered (int_val z) (int_val x) (int_val y) p q = ap is_lt (then_equal (int_cmp x y))
like_ordered (text_val s) (text_val t) (text_val u) p q = refl
like_ordered (int_val z) (int_val x) _ p q = none_apart q.0 q.1
like_ordered (text_val s) (text_val t) _ p q = none_apart q.0 q.1
like_ordered _ _ _ p q = none_apart p.0 p.1

one_like : (o : Option Ordering) (k w : Val) (later : Option Val) → order_of k w ≡ o → unless_ordered o w later ≡ None → IsLike k w × (later ≡ None)
one_like (Some o) k w later e h = ((o, e), h)
one_like None k w later e h = some_apart w h

all_like : (k : Val) (ws : List Val) → first_unlike k ws ≡ None → AllByRecursion (IsLike k) ws
all_like k [] h = tt
all_like k (w ∷ ws) h =
    let both = one_like (order_of k w) k w (first_unlike k ws) refl h in
    (both.0, all_like k ws both.1)

-- a value that compares with another compares with itself
like_itself : (k w : Val) → IsLike k w → IsLike k k
like_itself (int_val z) w p = (int_cmp z z, refl)
like_itself (text_val s) w p = (slice_cmp nat_cmp s s, refl)
like_itself _ w p = none_apart p.0 p.1

no_refusal : (k : Val) (o : Option Val) → option_map (unordered k) o ≡ None → o ≡ None
no_refusal k None h = refl
no_refusal k (Some w) h = some_apart (unordered k w) h

by_keys : {X : Type 0} (P : Val → Type 0) (key : X → Val) (xs : List X) → AllByRecursion P (map key xs) → AllByRecursion (λ x. P (key x)) xs
by_keys P key [] all = tt
by_keys P key (x ∷ xs) all = (all.0, by_keys P key xs all.1)

-- where no key is refused, the rank is the order
pub ranked_is_sorted : (key : Val → Val) (vs : List Val) → keys_refusal (map key vs) ≡ None
    → ascending (λ v w. is_lt (rank_cmp (key v) (key w))) vs ≡ ascending (λ v w. is_below (key v) (key w)) vs
ranked_is_sorted key [] none = refl
ranked_is_sorted key (v ∷ []) none = refl
ranked_is_sorted key (v ∷ w ∷ ws) none =
    let likes = all_like (key v) (map key (w ∷ ws)) (no_refusal (key v) (first_unlike (key v) (map key (w ∷ ws))) none) in
    let first = like_itself (key v) (key w) likes.0 in
    ascending_agree (λ x. IsLike (key v) (key x)) (λ x y. is_lt (rank_cmp (key x) (key y))) (λ x y. is_below (key x) (key y))
    (λ x y p q. like_ordered (key v) (key x) (key y) p q) (v ∷ w ∷ ws) (by_keys (IsLike (key v)) key (v ∷ w ∷ ws) (first, likes))

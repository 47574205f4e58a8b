-- A map that is made of a row of entries at once is the map into which they are put one after the other.
use Rattle.std.proofs.Common.{◌≡◌, List, [], ◌∷◌, ◌++◌, Option, Some, None, Bool, true, false, cond, Ordering, Less, Equal, Greater, String, BTreeMap, Global, string_bytes, string_cmp, refl, sym, ap, ◌∙◌, inl, inr}
use Rattle.std.specs.BTreeMap.{insert_entry, is_at, IsFromIterResult}
use Rattle.std.specs.Ordering.{is_eq, eq_by_cmp, match_ordering, ordering_reverse}
use Rattle.std.specs.String.{string_cmp_total}
use Rattle.std.specs.Cmp.{IsTotalOrder, IsEquivalence, eq_by_cmp_equiv}
use Rattle.std.specs.List.{AllByRecursion}
use Rattle.std.specs.List.Sorted.{IsStrictlySortedBy}
use Rattle.std.specs.Map.{keys_of, lookup, update, update_all}
use Rattle.std.proofs.lemmas.Bool.{cases_Bool}
use Rattle.std.proofs.lemmas.Map.{lookup-none}
use Rattle.std.proofs.lemmas.Map.Keys.{sorted_tail, IsDistinct-from_sorted}
use Rattle.std.proofs.lemmas.Map.Entries.{lookup_head, lookup_tail, none_past_head, none_below_head}
use Rattle.std.proofs.lemmas.Map.Lookups.{exact_bytes}
use Rattle.upon_types.specs.View.{view}
use Rattle.upon_types.specs.declared.value.Value.{Value}
use Rattle.upon_serde.specs.Data.{Pairs, with_pair}
use Rattle.upon_serde.specs.Reads.{entry_pairs}
use Rattle.upon_serde.specs.Put.{pairs_put}
use Rattle.upon_serde.proofs.Reading.{Entry, pairs_of-insert}

-- ---- pairs
pub pairs_put-append : (es fs : List Entry) (pairs : Pairs) → pairs_put (es ++ fs) pairs ≡ pairs_put fs (pairs_put es pairs)
pairs_put-append [] fs pairs = refl
pairs_put-append (e ∷ es) fs pairs = pairs_put-append es fs (with_pair (string_bytes e.0) (view e.1) pairs)

-- ---- entries put in one after the other
abbrev put_in : List Entry → List Entry → List Entry
put_in [] es = es
put_in (x ∷ xs) es = put_in xs (insert_entry string_cmp es x.0 x.1)

pairs_of-put_in : (xs es : List Entry) → entry_pairs (put_in xs es) ≡ pairs_put xs (entry_pairs es)
pairs_of-put_in [] es = refl
pairs_of-put_in (x ∷ xs) es = pairs_of-put_in xs (insert_entry string_cmp es x.0 x.1) ∙ ap (pairs_put xs) (pairs_of-insert es x.0 x.1)

abbrev Key : Type 0
Key = String Global

abbrev order : Key → Key → Ordering
order = string_cmp

abbrev total : IsTotalOrder order
total = string_cmp_total

-- ---- their keys ascend
after_less : (k j : Key) (ks : List Key) → order k j ≡ Less → AllByRecursion (λ y. order j y ≡ Less) ks → AllByRecursion (λ y. order k y ≡ Less) ks
after_less k j [] less all = tt
after_less k j (y ∷ ks) less all = (total.trans k j y less all.0, after_less k j ks less all.1)

module _ (k : Key) (v : Value) where
  all_insert : (j : Key) (es : List Entry) → order j k ≡ Less → AllByRecursion (λ y. order j y ≡ Less) (keys_of es) → AllByRecursion (λ y. order j y ≡ Less) (keys_of (insert_entry order es k v))
  all_insert j [] less all = (less, tt)
  all_insert j (e ∷ es) less all = by (order k e.0) (all_insert j es less all.1)
    where
      by : (r : Ordering) → AllByRecursion (λ y. order j y ≡ Less) (keys_of (insert_entry order es k v)) → AllByRecursion (λ y. order j y ≡ Less) (keys_of (match_ordering r ((k, v) ∷ e ∷ es) ((e.0, v) ∷ es) (e ∷ insert_entry order es k v)))
      by Less later = (less, all)
      by Equal later = all
      by Greater later = (all.0, later)

  sorted_insert : (es : List Entry) → IsStrictlySortedBy order (keys_of es) → IsStrictlySortedBy order (keys_of (insert_entry order es k v))
  unfolding IsStrictlySortedBy
  sorted_insert [] s = (tt, tt)
  sorted_insert (e ∷ es) s = by (order k e.0) refl (sorted_insert es s.1)
    where
      by : (r : Ordering) → order k e.0 ≡ r → IsStrictlySortedBy order (keys_of (insert_entry order es k v)) → IsStrictlySortedBy order (keys_of (match_ordering r ((k, v) ∷ e ∷ es) ((e.0, v) ∷ es) (e ∷ insert_entry order es k v)))
      by Less is later = ((is, after_less k e.0 (keys_of es) is s.0), s)
      by Equal is later = s
      by Greater is later = (all_insert e.0 es (total.antisymm e.0 k ∙ ap ordering_reverse is) s.0, later)

sorted_put_in : (xs es : List Entry) → IsStrictlySortedBy order (keys_of es) → IsStrictlySortedBy order (keys_of (put_in xs es))
sorted_put_in [] es s = s
sorted_put_in (x ∷ xs) es s = sorted_put_in xs (insert_entry order es x.0 x.1) (sorted_insert x.0 x.1 es s)

-- ---- what is found in them
abbrev find : List Entry → Key → Option Value
find es q = lookup (is_at (order q)) es

same : IsEquivalence (eq_by_cmp order)
same = eq_by_cmp_equiv total

cond_same : (b : Bool) (x y z : Option Value) → cond b x y ≡ cond b x (cond b z y)
cond_same true x y z = refl
cond_same false x y z = refl

never : true ≡ false → ⊥
never is = cc

cond_swap : (b c : Bool) (x y z : Option Value) → (b ≡ true → c ≡ false) → cond b x (cond c y z) ≡ cond c y (cond b x z)
cond_swap true true x y z apart = absurd (never (apart refl))
cond_swap true false x y z apart = refl
cond_swap false c x y z apart = refl

module _ (k : Key) (v : Value) (q : Key) where
  find_insert : (es : List Entry) → find (insert_entry order es k v) q ≡ cond (eq_by_cmp order q k) (Some v) (find es q)
  find_insert [] = refl
  find_insert (e ∷ es) = by (order k e.0) refl (find_insert es)
    where
      by : (r : Ordering) → order k e.0 ≡ r → find (insert_entry order es k v) q ≡ cond (eq_by_cmp order q k) (Some v) (find es q) → find (match_ordering r ((k, v) ∷ e ∷ es) ((e.0, v) ∷ es) (e ∷ insert_entry order es k v)) q ≡ cond (eq_by_cmp order q k) (Some v) (find (e ∷ es) q)
      by Less is later = refl
      by Equal is later =
          let alike : eq_by_cmp order q e.0 ≡ eq_by_cmp order q k = same.symm q e.0 ∙ sym (same.congr k e.0 q (ap is_eq is)) ∙ same.symm k q in
          ap (λ b. cond b (Some v) (find es q)) alike
          ∙ cond_same (eq_by_cmp order q k) (Some v) (find es q) (Some e.1)
          ∙ ap (λ b. cond (eq_by_cmp order q k) (Some v) (cond b (Some e.1) (find es q))) (sym alike)
      by Greater is later =
          let apart : eq_by_cmp order q k ≡ true → eq_by_cmp order q e.0 ≡ false = λ alike. same.congr q k e.0 alike ∙ ap is_eq is in
          ap (λ found. cond (eq_by_cmp order q e.0) (Some e.1) found) later
          ∙ sym (cond_swap (eq_by_cmp order q k) (eq_by_cmp order q e.0) (Some v) (Some e.1) (find es q) apart)

find_put_in : (xs es : List Entry) (q : Key) → find (put_in xs es) q ≡ update_all (eq_by_cmp order) (find es) xs q
find_put_in [] es q = refl
find_put_in (x ∷ xs) es q =
    let once : (p : Key) → find (insert_entry order es x.0 x.1) p ≡ update (eq_by_cmp order) (find es) x.0 (Some x.1) p = λ p. find_insert x.0 x.1 p es ∙ ap (λ b. cond b (Some x.1) (find es p)) (same.symm p x.0) in
    find_put_in xs (insert_entry order es x.0 x.1) q ∙ ap (λ found. update_all (eq_by_cmp order) found xs q) (λ i p. once p i)

-- ---- what is found says which pairs there are, where the keys ascend
at_head : (x : Entry) (xs : List Entry) → find (x ∷ xs) x.0 ≡ Some x.1
at_head x xs = lookup_head (is_at (order x.0)) x xs (same.refl x.0)

past_head : (q : Key) (x : Entry) (xs : List Entry) → IsStrictlySortedBy order (keys_of (x ∷ xs)) → eq_by_cmp order q x.0 ≡ true → find xs q ≡ None
past_head q x xs s here = lookup-none (is_at (order q)) xs (none_past_head same q x xs (IsDistinct-from_sorted order _ s) here)

not_none : (v : Value) → Some v ≡ None → ⊥
not_none v is = cc

module _ (x y : Entry) (xs ys : List Entry) (s : IsStrictlySortedBy order (keys_of (x ∷ xs))) (t : IsStrictlySortedBy order (keys_of (y ∷ ys))) (h : (q : Key) → find (x ∷ xs) q ≡ find (y ∷ ys) q) where
  by_heads : (r : Ordering) → order x.0 y.0 ≡ r → order x.0 y.0 ≡ Equal
  by_heads Less p = absurd (not_none x.1 (sym (at_head x xs) ∙ h x.0 ∙ lookup-none _ (y ∷ ys) (none_below_head total x.0 y ys t p)))
  by_heads Equal p = p
  by_heads Greater p = absurd (not_none y.1 (sym (at_head y ys) ∙ sym (h y.0) ∙ lookup-none _ (x ∷ xs) (none_below_head total y.0 x xs s (total.antisymm y.0 x.0 ∙ ap ordering_reverse p))))

  heads : order x.0 y.0 ≡ Equal
  heads = by_heads (order x.0 y.0) refl

  head_values : Some x.1 ≡ Some y.1
  head_values = sym (at_head x xs) ∙ h x.0 ∙ lookup_head (is_at (order x.0)) y ys (ap is_eq heads)

  tails : (q : Key) → find xs q ≡ find ys q
  tails q =
      let alike : eq_by_cmp order q y.0 ≡ eq_by_cmp order q x.0 = same.symm q y.0 ∙ sym (same.congr x.0 y.0 q (ap is_eq heads)) ∙ same.symm x.0 q in
      elim (cases_Bool (eq_by_cmp order q x.0)) [
        | inl here ↦ past_head q x xs s here ∙ sym (past_head q y ys t (alike ∙ here))
        | inr other ↦ sym (lookup_tail (is_at (order q)) x xs other) ∙ h q ∙ lookup_tail (is_at (order q)) y ys (alike ∙ other)
      ]

same_value : (v w : Value) → Some v ≡ Some w → v ≡ w
same_value v w is = cc

same_pairs : (es fs : List Entry) → IsStrictlySortedBy order (keys_of es) → IsStrictlySortedBy order (keys_of fs) → ((q : Key) → find es q ≡ find fs q) → entry_pairs es ≡ entry_pairs fs
same_pairs [] [] s t h = refl
same_pairs [] (y ∷ ys) s t h = absurd (not_none y.1 (sym (h y.0 ∙ at_head y ys)))
same_pairs (x ∷ xs) [] s t h = absurd (not_none x.1 (sym (at_head x xs) ∙ h x.0))
same_pairs (x ∷ xs) (y ∷ ys) s t h =
    let later = same_pairs xs ys (sorted_tail order x.0 (keys_of xs) s) (sorted_tail order y.0 (keys_of ys) t) (tails x y xs ys s t h) in
    let key = exact_bytes (string_bytes x.0) (string_bytes y.0) (heads x y xs ys s t h) in
    let value = ap view (same_value x.1 y.1 (head_values x y xs ys s t h)) in
    λ i. (key i, value i) ∷ later i

-- ---- made at once
pub made_at_once : (xs : List Entry) (m : BTreeMap (String Global) Value) → IsFromIterResult string_cmp xs m → entry_pairs m.entries ≡ pairs_put xs []
unfolding IsStrictlySortedBy
made_at_once xs m is =
    same_pairs m.entries (put_in xs []) is.1 (sorted_put_in xs [] tt) (λ q. is.0 q ∙ sym (find_put_in xs [] q)) ∙ pairs_of-put_in xs []

-- What the items of lists denote.
use Rattle.std.proofs.Common.{◌≡◌, ℕ, ◌+◌, ◌-◌, ◌<◌, ◌≤◌, List, [], ◌∷◌, ◌++◌, Bool, true, false, cond, map, Result, Vec, Global, Bor, IfOk, subst, length, take, drop, get_or, refl, ap, sym, ◌∙◌, arith, ⊎_elim}
use Rattle.std.specs.Prelude.{filter, min, slice_range}
use Rattle.std.proofs.lemmas.Bool.{cases_lt}
use Rattle.std.proofs.lemmas.List.{take_all, drop_all, drop-take, length-take, take-map, drop-map, append-nil, map-append, map_more, map_push}
use Rattle.std.proofs.lemmas.Simd.{map-map}
use Rattle.std.proofs.lemmas.List.Elements.{filter_more}
use Rattle.upon_types.specs.Same.{val_eq}
use Rattle.upon_types.specs.Val.{Val, text_val, Vals, no_vals, val_then}
use Rattle.upon_types.specs.View.{view, vals_of, vals_view}
use Rattle.upon_types.specs.declared.value.Value.{Value}
use Rattle.upon_std.specs.Basic.Items.{vals_in_list, value_at_key}
use Rattle.upon_std.specs.Cutting.Items.{concatenated, sliced, plucked, having}

-- the values that were put into a list
pub val_list-vals_of : (vs : List Val) → vals_in_list (vals_of vs) ≡ vs
val_list-vals_of [] = refl
val_list-vals_of (v ∷ vs) = ap (λ ws. v ∷ ws) (val_list-vals_of vs)

-- the list of what was put there
pub vals_of-val_list : (vs : Vals) → vals_of (vals_in_list vs) ≡ vs
vals_of-val_list no_vals = refl
vals_of-val_list (val_then v vs) = ap (val_then v) (vals_of-val_list vs)

pub concatenated_view : (xs ys : List Value) → vals_view (xs ++ ys) ≡ concatenated (vals_view xs) (vals_view ys)
concatenated_view xs ys =
    ap vals_of (map-append view xs ys)
    ∙ (λ i. vals_of (sym (val_list-vals_of (map view xs)) i ++ sym (val_list-vals_of (map view ys)) i))

-- one more item, and what is pushed for it
pub pushed_at : {X : Type 0} (f : X → Val) (xs : List X) (i : ℕ) (d : X) (made new : List Value) (v : Value) → i < length xs
    → new ≡ made ++ (v ∷ []) → view v ≡ f (get_or xs i d) → map view made ≡ map f (take i xs) → map view new ≡ map f (take (i + 1) xs)
pushed_at f xs i d made new v within of_new of_v so_far =
    ap (map view) of_new ∙ map_push view made v ∙ (λ k. so_far k ++ (of_v k ∷ [])) ∙ sym (map_more f xs i d within)

-- one more item, which has a name in the code, and what is pushed for it
pub pushed_more : {X : Type 0} (f : X → Val) (xs : List X) (i : ℕ) (x : X) (made new : List Value) (v : Value) → i < length xs → x ≡ get_or xs i x
    → new ≡ made ++ (v ∷ []) → view v ≡ f x → map view made ≡ map f (take i xs) → map view new ≡ map f (take (i + 1) xs)
pushed_more f xs i x made new v within is of_new of_v so_far = pushed_at f xs i x made new v within of_new (of_v ∙ ap f is) so_far

-- no item is left
pub all_pushed : {X : Type 0} (f : X → Val) (xs : List X) (i : ℕ) (made : List Value) → length xs ≤ i → map view made ≡ map f (take i xs) → map view made ≡ map f xs
all_pushed f xs i made past so_far = so_far ∙ ap (map f) (take_all i xs past)

pub plucked_view : (key : List ℕ) (xs : List Value) → plucked key (vals_view xs) ≡ vals_of (map (λ x. value_at_key key (view x)) xs)
plucked_view key xs = ap (λ vs. vals_of (map (value_at_key key) vs)) (val_list-vals_of (map view xs)) ∙ ap vals_of (map-map (value_at_key key) view xs)

-- where a list is cut to an end, and to its length, it is the same
cut_to : (to : ℕ) (xs : List Value) → take (min to (length xs)) xs ≡ take to xs
cut_to to xs = ⊎_elim
    (λ short. ap (λ n. take n xs) (omega arith))
    (λ long. take_all (min to (length xs)) xs (omega arith) ∙ sym (take_all to xs long))
    (cases_lt to (length xs))

cut_from : (from : ℕ) (xs : List Value) → drop (min from (length xs)) xs ≡ drop from xs
cut_from from xs = ⊎_elim
    (λ short. ap (λ n. drop n xs) (omega arith))
    (λ long. drop_all (min from (length xs)) xs (omega arith) ∙ sym (drop_all from xs long))
    (cases_lt from (length xs))

-- the part of a list between two indices that are cut to its length
part : (from to : ℕ) (xs : List Value) → slice_range xs (min from (min to (length xs))) (min to (length xs)) ≡ drop from (take to xs)
part from to xs =
    let end = min to (length xs) in
    let start = min from end in
    let inside : start + (end - start) ≡ end = omega arith in
    let size : length (take to xs) ≡ end = length-take to xs in
    sym (drop-take start (end - start) xs) ∙ ap (λ n. drop start (take n xs)) inside ∙ ap (drop start) (cut_to to xs)
    ∙ ap (λ n. drop (min from n) (take to xs)) (sym size) ∙ cut_from from (take to xs)

pub sliced_view : (from to : ℕ) (xs : List Value) → vals_view (slice_range xs (min from (min to (length xs))) (min to (length xs))) ≡ sliced from to (vals_view xs)
sliced_view from to xs =
    ap vals_view (part from to xs)
    ∙ ap vals_of (sym (ap (drop from) (take-map view to xs) ∙ drop-map view from (take to xs)))
    ∙ ap (λ vs. vals_of (drop from (take to vs))) (sym (val_list-vals_of (map view xs)))

by_test : (x : Value) (b : Bool) (vs : List Val) (xs : List Value) → vs ≡ map view xs → cond b (view x ∷ vs) vs ≡ map view (cond b (x ∷ xs) xs)
by_test x true vs xs e = ap (λ ws. view x ∷ ws) e
by_test x false vs xs e = e

-- a filter of what items denote
filter-map : (p : Val → Bool) (xs : List Value) → filter p (map view xs) ≡ map view (filter (λ x. p (view x)) xs)
filter-map p [] = refl
filter-map p (x ∷ xs) = by_test x (p (view x)) (filter p (map view xs)) (filter (λ y. p (view y)) xs) (filter-map p xs)

pub having_view : (key : List ℕ) (wanted : Val) (xs : List Value) → having key wanted (vals_view xs) ≡ vals_of (map view (filter (λ x. val_eq (value_at_key key (view x)) wanted) xs))
having_view key wanted xs =
    ap (λ vs. vals_of (filter (λ v. val_eq (value_at_key key v) wanted) vs)) (val_list-vals_of (map view xs))
    ∙ ap vals_of (filter-map (λ v. val_eq (value_at_key key v) wanted) xs)

-- one more item, which is kept
pub kept_more : (p : Value → Bool) (xs : List Value) (i : ℕ) (x : Value) (made new : List Value) (v : Value) → i < length xs → x ≡ get_or xs i x
    → p x ≡ true → new ≡ made ++ (v ∷ []) → view v ≡ view x → map view made ≡ map view (filter p (take i xs)) → map view new ≡ map view (filter p (take (i + 1) xs))
kept_more p xs i x made new v within is passes of_new of_v so_far =
    ap (map view) of_new ∙ map_push view made v ∙ (λ k. so_far k ++ (of_v k ∷ []))
    ∙ sym (map_push view (filter p (take i xs)) x)
    ∙ ap (map view) (sym (filter_more p xs i x within ∙ ap (λ y. filter p (take i xs) ++ cond (p y) (y ∷ []) []) (sym is) ∙ ap (λ b. filter p (take i xs) ++ cond b (x ∷ []) []) passes))

-- one more item, which is left out
pub left_out_more : (p : Value → Bool) (xs : List Value) (i : ℕ) (x : Value) (made : List Value) → i < length xs → x ≡ get_or xs i x
    → p x ≡ false → map view made ≡ map view (filter p (take i xs)) → map view made ≡ map view (filter p (take (i + 1) xs))
left_out_more p xs i x made within is fails so_far =
    so_far ∙ ap (map view) (sym (filter_more p xs i x within ∙ ap (λ y. filter p (take i xs) ++ cond (p y) (y ∷ []) []) (sym is)
    ∙ ap (λ b. filter p (take i xs) ++ cond b (x ∷ []) []) fails ∙ append-nil (filter p (take i xs))))

-- the part of a list between two indices that the code has cut to its length
pub cut_view : (from to start end : ℕ) (xs : List Value) → end ≡ min to (length xs) → start ≡ min from end → vals_view (slice_range xs start end) ≡ sliced from to (vals_view xs)
cut_view from to start end xs of_end of_start =
    ap (λ n. vals_view (slice_range xs start n)) of_end
    ∙ ap (λ n. vals_view (slice_range xs n (min to (length xs)))) (of_start ∙ ap (min from) of_end)
    ∙ sliced_view from to xs

-- what is made of texts
pub made_values : {E : Type 0} (made : Result (Vec Value Global) E) (texts : List (Bor (List ℕ))) (all : List (List ℕ)) → map (λ text. text.now) texts ≡ all
    → IfOk made (λ values. vals_view values.items ≡ vals_of (map (λ text. text_val text.now) texts))
    → IfOk made (λ values. vals_view values.items ≡ vals_of (map text_val all))
made_values made texts all same h =
    subst (λ vs. IfOk made (λ values. vals_view values.items ≡ vals_of vs)) (sym (map-map text_val (λ text. text.now) texts) ∙ ap (map text_val) same) h

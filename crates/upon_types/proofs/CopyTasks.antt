-- What the tasks of a copy come to, step by step.
use Rattle.std.proofs.Common.{◌≡◌, ℕ, zero, suc, ◌+◌, ◌*◌, ◌<◌, ◌≤◌, List, [], ◌∷◌, ◌++◌, map, reverse, take, drop, length, get_or, String, Global, Bor, refl, sym, ap, ◌∙◌, arith, add-one, drop-cons, true, string_bytes, string_cmp, Less, nat_cmp}
use Rattle.std.proofs.lemmas.List.{map-append, reverse-append, length-map}
use Rattle.std.proofs.Math.Seq.{take-append_seam, drop-append_seam}
use Rattle.std.specs.Cmp.Lexicographic.{slice_cmp}
use Rattle.std.specs.FinMap.Entries.{below_all}
use Rattle.std.specs.List.{AllByRecursion}
use Rattle.std.specs.List.Sorted.{IsStrictlySortedBy}
use Rattle.std.specs.Map.{keys_of}
use Rattle.std.specs.Ordering.{is_lt}
use Rattle.upon_types.specs.CopyTasks.{finished, entries_zip, entries_rest, copies_after_one, copies_after, work_of_tasks}
use Rattle.upon_types.specs.Val.{Val, no_entries, list_val, entry_then, entry_list, rises}
use Rattle.upon_types.specs.View.{view, vals_of, entries_view}
use Rattle.upon_types.specs.Weight.{items_bulk}
use Rattle.upon_types.specs.declared.value.Value.{Value}
use Rattle.upon_types.specs.declared.value.copy.Task.{Task}
use Rattle.upon_types.specs.declared.value.copy.Task.TheVariants.{Copy}
use Rattle.upon_types.proofs.Views.{Entry}

pub run-append : (ts us : List Task) (s : List Val) → copies_after (ts ++ us) s ≡ copies_after ts (copies_after us s)
run-append [] us s = refl
run-append (t ∷ ts) us s = ap (copies_after_one t) (run-append ts us s)

pub work-append : (ts us : List Task) → work_of_tasks (ts ++ us) ≡ work_of_tasks ts + work_of_tasks us
work-append [] us = omega arith
work-append (t ∷ ts) us = omega (arith, work-append ts us)

pub finished-push : (vs : List Value) (v : Value) → finished (vs ++ v ∷ []) ≡ view v ∷ finished vs
finished-push vs v = ap reverse (map-append view vs (v ∷ [])) ∙ reverse-append (map view vs) (view v ∷ [])

-- ---- the tasks of a list's items, and of a map's entries
pub planned_item : (ts : List Task) (b : Bor Value) (items : List Value) (i : ℕ) → i < length items → b.now ≡ get_or items i b.now → (s : List Val) → copies_after (ts ++ Copy b ∷ []) (map view (drop (i + 1) items) ++ s) ≡ copies_after ts (map view (drop i items) ++ s)
planned_item ts b items i h is s =
    let first : drop i items ≡ get_or items i b.now ∷ drop (suc i) items = drop-cons items i b.now h in
    let here : drop i items ≡ b.now ∷ drop (i + 1) items = rw add-one (first ∙ ap (λ v. v ∷ drop (suc i) items) (sym is)) in
    run-append ts (Copy b ∷ []) (map view (drop (i + 1) items) ++ s) ∙ ap (λ l. copies_after ts (map view l ++ s)) (sym here)

pub planned_work : (ts : List Task) (b : Bor Value) (items : List Value) (i : ℕ) → i < length items → b.now ≡ get_or items i b.now → work_of_tasks (ts ++ Copy b ∷ []) + 2 * items_bulk (drop (i + 1) items) ≡ work_of_tasks ts + 2 * items_bulk (drop i items)
planned_work ts b items i h is =
    let first : drop i items ≡ get_or items i b.now ∷ drop (suc i) items = drop-cons items i b.now h in
    let here : drop i items ≡ b.now ∷ drop (i + 1) items = rw add-one (first ∙ ap (λ v. v ∷ drop (suc i) items) (sym is)) in
    omega (arith, work-append ts (Copy b ∷ []), ap items_bulk here)

-- ---- copies that are gathered in a list
pub gathered : (i : ℕ) (s r : List Val) (x : Val) → drop i s ≡ x ∷ r → (take (i + 1) s ≡ take i s ++ x ∷ []) × (drop (i + 1) s ≡ r)
gathered zero [] r x is = absurd cc
gathered zero (y ∷ s) r x is =
    let head : y ≡ x = cc in
    let tail : s ≡ r = cc in
    (ap (λ z. z ∷ []) head, tail)
gathered (suc i) [] r x is = absurd cc
gathered (suc i) (y ∷ s) r x is =
    let both = rw add-one at (gathered i s r x is) in
    rw add-one (ap (λ l. y ∷ l) both.0, both.1)

pub gathered_all : (i n : ℕ) (s : List Val) → drop i s ≡ [] → i ≤ n → (take i s ≡ take n s) × (drop n s ≡ [])
gathered_all zero zero [] is le = (refl, refl)
gathered_all zero (suc n) [] is le = (refl, refl)
gathered_all zero n (y ∷ s) is le = absurd cc
gathered_all (suc i) zero s is le = absurd (omega arith)
gathered_all (suc i) (suc n) [] is le = (refl, refl)
gathered_all (suc i) (suc n) (y ∷ s) is le =
    let both = gathered_all i n s is (omega arith) in
    (ap (λ l. y ∷ l) both.0, both.1)

-- ---- copies that are gathered in a map
zip_before_all : (k : String Global) (es : List Entry) (s : List Val) → AllByRecursion (λ l. string_cmp k l ≡ Less) (keys_of es) → below_all (slice_cmp nat_cmp) (string_bytes k) (entry_list (entries_zip es s)) ≡ true
zip_before_all k es [] above = refl
zip_before_all k [] (v ∷ s) above = refl
zip_before_all k (e ∷ es) (v ∷ s) above = rw (ap is_lt above.0) (zip_before_all k es s above.1)

pub rises-zip : (es : List Entry) (s : List Val) → IsStrictlySortedBy string_cmp (keys_of es) → rises (entries_zip es s) ≡ true
unfolding IsStrictlySortedBy
rises-zip es [] sorted = refl
rises-zip [] (v ∷ s) sorted = refl
rises-zip (e ∷ es) (v ∷ s) sorted = rw (zip_before_all e.0 es s sorted.0) (rises-zip es s sorted.1)

-- ---- a list or a map from the copies of what is in it
seam : (n : ℕ) (xs s : List Val) → length xs ≡ n → list_val (vals_of (take n (xs ++ s))) ∷ drop n (xs ++ s) ≡ list_val (vals_of xs) ∷ s
seam n xs s is = rw (← is) (rw (take-append_seam xs s, drop-append_seam xs s))

pub gathered_list : (items : List Value) (s : List Val) → list_val (vals_of (take (length items) (map view items ++ s))) ∷ drop (length items) (map view items ++ s) ≡ list_val (vals_of (map view items)) ∷ s
gathered_list items s = seam (length items) (map view items) s (length-map items view)

pub zip-none : (s : List Val) → entries_zip [] s ≡ no_entries
zip-none [] = refl
zip-none (v ∷ s) = refl

pub rest-none : (s : List Val) → entries_rest [] s ≡ s
rest-none [] = refl
rest-none (v ∷ s) = refl

pub zip_whole : (es : List Entry) (s : List Val) → entries_zip es (map (λ e. view e.1) es ++ s) ≡ entries_view es
zip_whole [] [] = refl
zip_whole [] (v ∷ s) = refl
zip_whole (e ∷ es) s = ap (entry_then (string_bytes e.0) (view e.1)) (zip_whole es s)

pub rest_whole : (es : List Entry) (s : List Val) → entries_rest es (map (λ e. view e.1) es ++ s) ≡ s
rest_whole [] [] = refl
rest_whole [] (v ∷ s) = refl
rest_whole (e ∷ es) s = rest_whole es s

pub empty_from_length : (vs : List Value) → length vs ≡ 0 → vs ≡ []
empty_from_length [] is = refl
empty_from_length (v ∷ vs) is = absurd (omega arith)

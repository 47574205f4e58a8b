-- The first that passes a test, along a walk.
use Rattle.std.proofs.Common.{◌≡◌, ◌<◌, ◌+◌, ◌==◌, ◌&&◌, ◌∷◌, [], ◌++◌, ℕ, suc, List, Bool, true, false, Option, Some, None, cond, find, get_or, length, map, option_map, take, drop, drop-cons, take-append-drop, refl, sym, ap, ◌∙◌, arith}
use Rattle.std.proofs.lemmas.List.{take_more}
use Rattle.std.proofs.lemmas.Bool.Decides.{nat_tests}
use Rattle.std.proofs.lemmas.List.Folds.{find-append, list_all-append}
use Rattle.std.specs.List.{list_all}
use Rattle.std.specs.Option.{option_or}

-- none passes up to the next
pub none_more : {X : Type 0} (p : X → Bool) (xs : List X) (i : ℕ) (d : X) → i < length xs → find p (take i xs) ≡ None → p (get_or xs i d) ≡ false → find p (take (i + 1) xs) ≡ None
none_more p xs i d inside none fails =
    ap (find p) (take_more xs i d inside) ∙ (find-append p (take i xs) (get_or xs i d ∷ []) ∙ (ap (λ o. option_or o (find p (get_or xs i d ∷ []))) none
    ∙ ap (λ b. cond b (Some (get_or xs i d)) None) fails))

-- the first that passes
pub first_found : {X : Type 0} (p : X → Bool) (xs : List X) (i : ℕ) (d : X) → i < length xs → find p (take i xs) ≡ None → p (get_or xs i d) ≡ true → find p xs ≡ Some (get_or xs i d)
first_found p xs i d inside none passes =
    ap (find p) (sym (take-append-drop i xs) ∙ ap (λ l. take i xs ++ l) (drop-cons xs i d inside))
    ∙ (find-append p (take i xs) (get_or xs i d ∷ drop (suc i) xs)
    ∙ (ap (λ o. option_or o (find p (get_or xs i d ∷ drop (suc i) xs))) none ∙ ap (λ b. cond b (Some (get_or xs i d)) (find p (drop (suc i) xs))) passes))

-- ---- tests of each
true_last : (b : Bool) → (b && true) ≡ b
true_last true = refl
true_last false = refl

false_last : (b : Bool) → (b && false) ≡ false
false_last true = refl
false_last false = refl

-- one more that is tested
all_more : {X : Type 0} (p : X → Bool) (xs : List X) (i : ℕ) (d : X) → i < length xs → list_all p (take (i + 1) xs) ≡ (list_all p (take i xs) && p (get_or xs i d))
all_more p xs i d inside =
    ap (list_all p) (take_more xs i d inside) ∙ (list_all-append p (take i xs) (get_or xs i d ∷ [])
    ∙ ap (λ b. list_all p (take i xs) && b) (true_last (p (get_or xs i d))))

-- none was counted exactly if each passes, and one more passes
pub passes_more : {X : Type 0} (p : X → Bool) (xs : List X) (i : ℕ) (d : X) (n : ℕ) → i < length xs → (n == 0) ≡ list_all p (take i xs) → p (get_or xs i d) ≡ true → (n == 0) ≡ list_all p (take (i + 1) xs)
passes_more p xs i d n inside so_far passes =
    so_far ∙ sym (all_more p xs i d inside ∙ (ap (λ b. list_all p (take i xs) && b) passes ∙ true_last (list_all p (take i xs))))

-- so if one more fails, and is counted
pub fails_more : {X : Type 0} (p : X → Bool) (xs : List X) (i : ℕ) (d : X) (n : ℕ) → i < length xs → 0 < n → p (get_or xs i d) ≡ false → (n == 0) ≡ list_all p (take (i + 1) xs)
fails_more p xs i d n inside counted fails =
    let some : (n == 0) ≡ false = grind (arith, nat_tests) in
    some ∙ sym (all_more p xs i d inside ∙ (ap (λ b. list_all p (take i xs) && b) fails ∙ false_last (list_all p (take i xs))))

-- ---- the first of a list that was mapped
cond_mapped : {X Y : Type 0} (f : X → Y) (b : Bool) (x : X) (o : Option Y) (r : Option X) → o ≡ option_map f r → cond b (Some (f x)) o ≡ option_map f (cond b (Some x) r)
cond_mapped f true x o r is = refl
cond_mapped f false x o r is = is

pub found_mapped : {X Y : Type 0} (p : Y → Bool) (f : X → Y) (xs : List X) → find p (map f xs) ≡ option_map f (find (λ x. p (f x)) xs)
found_mapped p f [] = refl
found_mapped p f (x ∷ xs) = cond_mapped f (p (f x)) x (find p (map f xs)) (find (λ y. p (f y)) xs) (found_mapped p f xs)

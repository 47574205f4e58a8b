-- Rows of which the last is on top.
use Rattle.std.proofs.Common.{◌≡◌, ℕ, ◌+◌, ◌-◌, ◌<◌, ◌≤◌, zero, suc, List, [], ◌∷◌, ◌++◌, length, take, drop, get_or, ◌⊎◌, inl, inr, refl, sym, ap, ◌∙◌, append_assoc, arith, length-append}
use Rattle.std.proofs.Math.ListN.{get_or-append}
use Rattle.std.proofs.Math.Seq.{get_or-append_seam}
use Rattle.std.proofs.lemmas.Bool.{cases_lt}
use Rattle.std.proofs.lemmas.Grind.{common_steps}
use Rattle.std.proofs.lemmas.List.{take_more, drop-append-le}
use Rattle.upon_shape_check.specs.Rows.{on_top}

-- one more on top
pub on_top-push : {A B : Type 0} (f : A → B) (xs : List A) (x : A) (below : List B) → on_top f (xs ++ x ∷ []) below ≡ f x ∷ on_top f xs below
on_top-push f [] x below = refl
on_top-push f (y ∷ ys) x below = on_top-push f ys x (f y ∷ below)

-- others below are below
pub on_top-below : {A B : Type 0} (f : A → B) (xs : List A) (below : List B) → on_top f xs below ≡ on_top f xs [] ++ below
on_top-below f [] below = refl
on_top-below f (x ∷ xs) below =
    on_top-below f xs (f x ∷ below)
    ∙ (sym (append_assoc (on_top f xs []) (f x ∷ []) below) ∙ sym (ap (λ l. l ++ below) (on_top-below f xs (f x ∷ []))))

pub on_top-cons : {A B : Type 0} (f : A → B) (x : A) (xs : List A) → on_top f (x ∷ xs) [] ≡ on_top f xs [] ++ f x ∷ []
on_top-cons f x xs = on_top-below f xs (f x ∷ [])

pub length-on_top : {A B : Type 0} (f : A → B) (xs : List A) → length (on_top f xs []) ≡ length xs
length-on_top f [] = refl
length-on_top f (x ∷ xs) = rw (on_top-cons f x xs) (omega (arith, length-append (on_top f xs []) (f x ∷ []), length-on_top f xs))

-- the first so many, and the next
pub on_top-more : {A B : Type 0} (f : A → B) (xs : List A) (n k : ℕ) (x : A) → n ≡ k + 1 → n ≤ length xs → x ≡ get_or xs k x
    → on_top f (take n xs) [] ≡ f x ∷ on_top f (take k xs) []
on_top-more f xs n k x next within is =
    let below : k < length xs = omega arith in
    ap (λ m. on_top f (take m xs) []) next
    ∙ (ap (λ l. on_top f l []) (take_more xs k x below ∙ ap (λ y. take k xs ++ y ∷ []) (sym is)) ∙ on_top-push f (take k xs) x [])

-- without so many from the top
drop_all : {B : Type 0} (l : List B) (c : ℕ) → length l ≤ c → drop c l ≡ []
drop_all l c h = grind (arith, common_steps)

take_none : {A : Type 0} (n : ℕ) → take {A = A} n [] ≡ []
take_none zero = refl
take_none (suc n) = refl

dropped : {A B : Type 0} (f : A → B) (x : A) (xs : List A) (c : ℕ) → drop c (on_top f xs []) ≡ on_top f (take (length xs - c) xs) [] → (length xs < c) ⊎ (c ≤ length xs)
    → drop c (on_top f (x ∷ xs) []) ≡ on_top f (take (length (x ∷ xs) - c) (x ∷ xs)) []
dropped f x xs c same (inr h) =
    let there : c ≤ length (on_top f xs []) = omega (arith, length-on_top f xs) in
    let left : length (x ∷ xs) - c ≡ suc (length xs - c) = omega arith in
    ap (drop c) (on_top-cons f x xs)
    ∙ (drop-append-le c (on_top f xs []) (f x ∷ []) there
    ∙ (ap (λ l. l ++ f x ∷ []) same
    ∙ (sym (on_top-cons f x (take (length xs - c) xs)) ∙ sym (ap (λ n. on_top f (take n (x ∷ xs)) []) left))))
dropped f x xs c same (inl h) =
    let all : length (on_top f (x ∷ xs) []) ≤ c = omega (arith, length-on_top f (x ∷ xs)) in
    let none : length (x ∷ xs) - c ≡ 0 = omega arith in
    drop_all (on_top f (x ∷ xs) []) c all ∙ sym (ap (λ n. on_top f (take n (x ∷ xs)) []) none)

pub drop-on_top : {A B : Type 0} (f : A → B) (xs : List A) (c : ℕ) → drop c (on_top f xs []) ≡ on_top f (take (length xs - c) xs) []
drop-on_top {A} {B} f [] c = drop_all {B = B} [] c (omega arith) ∙ sym (ap (λ (l : List A). on_top f l []) (take_none {A = A} (0 - c)))
drop-on_top f (x ∷ xs) c = dropped f x xs c (drop-on_top f xs c) (cases_lt (length xs) c)

-- what is at a depth
pub get-on_top : {A B : Type 0} (f : A → B) (xs : List A) (i d : ℕ) (x : A) (y : B) → i + d + 1 ≡ length xs → get_or (on_top f xs []) d y ≡ f (get_or xs i x)
get-on_top f [] i d x y e = absurd (omega arith)
get-on_top f (z ∷ zs) zero d x y e =
    let at : d ≡ length (on_top f zs []) = omega (arith, length-on_top f zs) in
    ap (λ l. get_or l d y) (on_top-cons f z zs) ∙ (ap (λ n. get_or (on_top f zs [] ++ f z ∷ []) n y) at ∙ get_or-append_seam (on_top f zs []) (f z) [] y)
get-on_top f (z ∷ zs) (suc i) d x y e =
    let less : d < length (on_top f zs []) = omega (arith, length-on_top f zs) in
    let rest : i + d + 1 ≡ length zs = omega arith in
    ap (λ l. get_or l d y) (on_top-cons f z zs) ∙ (get_or-append (on_top f zs []) (f z ∷ []) y d less ∙ get-on_top f zs i d x y rest)

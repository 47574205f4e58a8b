-- Whether values are the same, and whether an element is in a list.
use Rattle.std.proofs.Common.{◌≡◌, Bool, true, false, cond, List, [], ◌∷◌, ◌++◌, Decides, refl, ap, sym, ◌∙◌}
use Rattle.std.specs.Prelude.{◌&&◌, ◌||◌}
use Rattle.std.specs.List.{filter, list_any}
use Rattle.std.proofs.Math.Bool.{decide_iff}
use Rattle.upon_types.specs.Same.{one_or_two, val_eq}
use Rattle.upon_types.specs.Val.{Val}

-- two filters one after the other are one
pub filter_twice : {X : Type 0} (p q r : X → Bool) → ((x : X) → r x ≡ (p x && q x)) → (xs : List X) → filter q (filter p xs) ≡ filter r xs
filter_twice p q r both [] = refl
filter_twice p q r both (x ∷ xs) =
    elim (p x) as (λ b. r x ≡ (b && q x) → filter q (cond b (x ∷ filter p xs) (filter p xs)) ≡ cond (r x) (x ∷ filter r xs) (filter r xs)) [
      | true ↦ λ e. ap (λ ys. cond (q x) (x ∷ ys) ys) (filter_twice p q r both xs) ∙ ap (λ b. cond b (x ∷ filter r xs) (filter r xs)) (sym e)
      | false ↦ λ e. filter_twice p q r both xs ∙ ap (λ b. cond b (x ∷ filter r xs) (filter r xs)) (sym e)
    ] (both x)

turn : (a b c : Bool) → (a || (b || c)) ≡ (b || (a || c))
turn true true c = refl
turn true false c = refl
turn false b c = refl

pub list_any-push : {X : Type 0} (p : X → Bool) (xs : List X) (x : X) → list_any p (xs ++ x ∷ []) ≡ (p x || list_any p xs)
list_any-push p [] x = refl
list_any-push p (y ∷ ys) x = ap (λ b. p y || b) (list_any-push p ys x) ∙ turn (p y) (p x) (list_any p ys)

-- ---- at values
pub val_eq-Decides : (v w : Val) → Decides (val_eq v w) (v ≡ w)
val_eq-Decides v w = decide_iff (one_or_two v w)

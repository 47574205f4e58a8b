-- The least of some distances, a name at a time.
use Rattle.std.proofs.Common.{◌≡◌, ◌<◌, ◌+◌, ◌∙◌, ◌∷◌, [], ◌++◌, ◌&&◌, ℕ, List, Bool, true, false, cond, Bor, Option, Some, None, length, take, get_or, refl, sym, ap}
use Rattle.std.specs.List.{filter, list_all}
use Rattle.std.proofs.lemmas.List.Elements.{filter_more}
use Rattle.std.proofs.lemmas.List.Folds.{list_all_more}
use Rattle.upon_near.specs.Nearest.{is_least, is_nearest, is_no_nearer, near_distance}

-- the names so far, and one more
pub least_more : (name : List ℕ) (names : List (Bor (List ℕ))) (i : ℕ) (other : Bor (List ℕ)) (least lesser : Option ℕ) → i < length names
    → ((d : ℕ) → list_all (λ other. is_no_nearer d (near_distance name other.now)) (take i names) ≡ is_no_nearer d least)
    → ((d : ℕ) → is_no_nearer d lesser ≡ (is_no_nearer d least && is_no_nearer d (near_distance name (get_or names i other).now)))
    → (d : ℕ) → list_all (λ other. is_no_nearer d (near_distance name other.now)) (take (i + 1) names) ≡ is_no_nearer d lesser
least_more name names i other least lesser inside so_far both d =
    list_all_more (λ other. is_no_nearer d (near_distance name other.now)) names i other inside
    ∙ ap (λ b. b && is_no_nearer d (near_distance name (get_or names i other).now)) (so_far d)
    ∙ sym (both d)

-- no name is nearer if the least distance is none that is nearer
same_least : (o : Option ℕ) (f g : ℕ → Bool) → ((d : ℕ) → f d ≡ g d) → is_least o f ≡ is_least o g
same_least None f g same = refl
same_least (Some d) f g same = same d

pub nearest_by : (name : List ℕ) (names : List (Bor (List ℕ))) (one : Bor (List ℕ)) (least : Option ℕ)
    → ((d : ℕ) → list_all (λ other. is_no_nearer d (near_distance name other.now)) names ≡ is_no_nearer d least)
    → is_nearest name names one ≡ is_least (near_distance name one.now) (λ d. is_no_nearer d least)
nearest_by name names one least all =
    same_least (near_distance name one.now) (λ d. list_all (λ other. is_no_nearer d (near_distance name other.now)) names) (λ d. is_no_nearer d least) all

-- a name more, which passes or not
pub passed_more : (p : Bor (List ℕ) → Bool) (names : List (Bor (List ℕ))) (i : ℕ) (d : Bor (List ℕ)) (near : List (Bor (List ℕ))) → i < length names → near ≡ filter p (take i names) → p (get_or names i d) ≡ true
    → near ++ get_or names i d ∷ [] ≡ filter p (take (i + 1) names)
passed_more p names i d near inside so_far passes =
    ap (λ near. near ++ get_or names i d ∷ []) so_far
    ∙ sym (ap (λ b. filter p (take i names) ++ cond b (get_or names i d ∷ []) []) passes)
    ∙ sym (filter_more p names i d inside)

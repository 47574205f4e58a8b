-- A text has a part just where the part's bytes stand in it.
use Rattle.std.proofs.Common.{◌≡◌, ℕ, Bool, true, false, List, [], ◌∷◌, ◌++◌, length, take, drop, refl, ap, sym, subst, ◌∙◌, arith, rules}
use Rattle.std.specs.Prelude.{nat_eq, ◌||◌}
use Rattle.std.proofs.lemmas.List.{take-append-drop}
use Rattle.std.specs.Cmp.Lexicographic.{same_text}
use Rattle.std.specs.List.{starts_with}
use Rattle.std.specs.Str.Iter.{HasSubslice}
use Rattle.upon_std.specs.Basic.Parts.{has_part}

-- two truth values are one if each follows from the other
pub same_truth : (a b : Bool) → (a ≡ true → b ≡ true) → (b ≡ true → a ≡ true) → a ≡ b
same_truth true b f g = sym (f refl)
same_truth false true f g = g refl
same_truth false false f g = refl

by_either : {P : Type 0} (a b : Bool) → (a ≡ true → P) → (b ≡ true → P) → (a || b) ≡ true → P
by_either true b f g h = f refl
by_either false b f g h = g h

second_holds : (a b : Bool) → b ≡ true → (a || b) ≡ true
second_holds true b h = refl
second_holds false b h = h

-- a text begins with what it is made of
begins : (n b : List ℕ) → starts_with nat_eq (n ++ b) n ≡ true
begins [] b = search rules
begins (x ∷ n) b = grind (arith, begins n b)

-- what a text begins with is a part of it
front : (s n : List ℕ) → starts_with nat_eq s n ≡ true → HasSubslice s n
front s n h = ([], drop (length n) s, sym (ap (λ x. x ++ drop (length n) s) (same_text n (take (length n) s) (sym h)) ∙ take-append-drop (length n) s))

one_more : (c : ℕ) (cs n : List ℕ) → HasSubslice cs n → HasSubslice (c ∷ cs) n
one_more c cs n r = (c ∷ r.0, r.1, ap (λ x. c ∷ x) r.2)

pub found_part : (s n : List ℕ) → has_part s n ≡ true → HasSubslice s n
found_part [] n h = front [] n h
found_part (c ∷ cs) n h = by_either _ _ (λ e. front (c ∷ cs) n e) (λ e. one_more c cs n (found_part cs n e)) h

front_part : (s n : List ℕ) → starts_with nat_eq s n ≡ true → has_part s n ≡ true
front_part [] n h = h
front_part (c ∷ cs) n h = ap (λ b. b || has_part cs n) h

inner_part : (a n b : List ℕ) → has_part (a ++ (n ++ b)) n ≡ true
inner_part [] n b = front_part (n ++ b) n (begins n b)
inner_part (x ∷ a) n b = second_holds _ _ (inner_part a n b)

pub has_part-HasSubslice : (s n : List ℕ) → HasSubslice s n → has_part s n ≡ true
has_part-HasSubslice s n h = subst (λ x. has_part x n ≡ true) (sym h.2) (inner_part h.0 n h.1)

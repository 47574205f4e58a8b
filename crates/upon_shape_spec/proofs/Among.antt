-- What is among lists that are joined.
use Rattle.std.proofs.Common.{◌⊎◌, inl, inr, List, [], ◌∷◌, ◌++◌}
use Rattle.upon_meaning_spec.specs.MapOrder.{IsAmong}

pub among_first : {A : Type 0} (a : A) (xs ys : List A) → IsAmong a xs → IsAmong a (xs ++ ys)
among_first a [] ys h = absurd h
among_first a (x ∷ xs) ys (inl e) = inl e
among_first a (x ∷ xs) ys (inr h) = inr (among_first a xs ys h)

pub among_second : {A : Type 0} (a : A) (xs ys : List A) → IsAmong a ys → IsAmong a (xs ++ ys)
among_second a [] ys h = h
among_second a (x ∷ xs) ys h = inr (among_second a xs ys h)

pub among_either : {A : Type 0} (a : A) (xs ys : List A) → IsAmong a (xs ++ ys) → IsAmong a xs ⊎ IsAmong a ys
among_either a [] ys h = inr h
among_either a (x ∷ xs) ys (inl e) = inl (inl e)
among_either a (x ∷ xs) ys (inr h) = elim (among_either a xs ys h) [ inl k ↦ inl (inr k) | inr k ↦ inr k ]

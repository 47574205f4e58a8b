-- Line feeds counted, and the last line, as line after line is cut off.
use Rattle.std.proofs.Common.{◌≡◌, suc, ◌+◌, ◌-◌, ◌<◌, Bool, true, not, cond, List, [], ◌∷◌, ◌++◌, length, drop, count_by, get_or, reverse, refl, sym, ap, ◌∙◌, arith, append_assoc, length-append}
use Rattle.std.specs.List.{position_or_len, before_first, after_first, after_last, prefix_len, suffix_len}
use Rattle.std.proofs.Math.Seq.{drop-append-add}
use Rattle.std.proofs.lemmas.Grind.{common_steps}
use Rattle.std.proofs.lemmas.List.{reverse-append}
use Rattle.std.proofs.lemmas.List.Splits.{slice_split_first, slice_split_none, length-slice_split}
use Rattle.std.proofs.lemmas.List.Sums.{split_at_first, fails_before_first, passes_at_first, suffix_len-le-length, suffix_len_is}

module _ {X : Type 0} (p : X → Bool) where
  -- ---- how many pass
  pub count-first : (xs : List X) (d : X) → position_or_len p xs < length xs → count_by p xs ≡ 1 + count_by p (after_first p xs)
  count-first xs d h =
      let parts = ap length (slice_split_first p xs d h) in
      omega (arith, parts, length-slice_split p xs, length-slice_split p (after_first p xs))

  pub count-none : (xs : List X) → position_or_len p xs ≡ length xs → count_by p xs ≡ 0
  count-none xs h =
      let one = ap length (slice_split_none p xs (λ k d lt. fails_before_first p xs k d (omega (arith, lt, h)))) in
      omega (arith, one, length-slice_split p xs)

  -- ---- what is after the last that passes
  prefix_stops : (xs : List X) (y : X) (ys : List X) → p y ≡ true → prefix_len (λ x. not (p x)) (xs ++ y ∷ ys) ≡ prefix_len (λ x. not (p x)) xs
  prefix_stops [] y ys h = rw h refl
  prefix_stops (x ∷ xs) y ys h = ap (λ n. cond (not (p x)) (1 + n) 0) (prefix_stops xs y ys h)

  suffix_of : (xs : List X) (y : X) (ys : List X) → p y ≡ true → suffix_len (λ x. not (p x)) (xs ++ y ∷ ys) ≡ suffix_len (λ x. not (p x)) ys
  suffix_of xs y ys h =
      ap (prefix_len (λ x. not (p x))) (reverse-append xs (y ∷ ys) ∙ ap (λ l. l ++ reverse xs) (reverse-append (y ∷ []) ys) ∙ append_assoc (reverse ys) (y ∷ []) (reverse xs))
      ∙ prefix_stops (reverse ys) y (reverse xs) h

  last_of : (xs : List X) (y : X) (ys : List X) → p y ≡ true → after_last p (xs ++ y ∷ ys) ≡ after_last p ys
  last_of xs y ys h =
      let n = suffix_len (λ x. not (p x)) ys in
      let behind : length (xs ++ y ∷ ys) - n ≡ length xs + suc (length ys - n) = omega (arith, length-append xs (y ∷ ys), suffix_len-le-length (λ x. not (p x)) ys) in
      ap (λ m. drop (length (xs ++ y ∷ ys) - m) (xs ++ y ∷ ys)) (suffix_of xs y ys h)
      ∙ ap (λ m. drop m (xs ++ y ∷ ys)) behind
      ∙ drop-append-add xs (y ∷ ys) (suc (length ys - n))

  pub last-first : (xs : List X) (d : X) → position_or_len p xs < length xs → after_last p (after_first p xs) ≡ after_last p xs
  last-first xs d h =
      sym (last_of (before_first p xs) (get_or xs (position_or_len p xs) d) (after_first p xs) (passes_at_first p xs d h))
      ∙ sym (ap (after_last p) (split_at_first p xs d h))

  pub last-none : (xs : List X) → position_or_len p xs ≡ length xs → after_last p xs ≡ xs
  last-none [] h = refl
  last-none (x ∷ xs) h =
      let whole = suffix_len_is (λ x. not (p x)) (x ∷ xs) 0 x (omega arith) (λ k ge lt. ap not (fails_before_first p (x ∷ xs) k x (omega (arith, lt, h)))) (λ bad. absurd (omega (arith, bad))) in
      rw whole (grind (arith, common_steps))

-- Each default delimiter has a pair at its begin, or after the hyphen that it begins with.
use Rattle.std.proofs.Common.{◌≡◌, ◌⊎◌, inl, inr, ℕ, zero, suc, ◌+◌, ◌-◌, ◌<◌, ◌≤◌, List, [], ◌∷◌, Bool, ◌==◌, ◌&&◌, ◌||◌, true, false, length, take, drop, get_or, arith, refl, sym, ap, subst, ◌∙◌, lit<, lit≤, length-take, length-drop, get_or-take, get_or-drop}
use Rattle.memchr.specs.Find.{Passes, Nowhere, is_byte2}
use Rattle.upon_language_spec.specs.DefaultDelimiters.{default_delimiters}
use Rattle.upon_language_spec.specs.Search.{DelimiterText, NoneFrom, Occurs, text_at}
use Rattle.upon_delimiters.specs.Pairs.{is_pair, HasPair, NoPairIn, NoPairWith}
use Rattle.upon_delimiters.proofs.Ways.{occurs_reads}

-- a text has a pair at its begin, or after a hyphen
abbrev PairNear : List ℕ → Type 0
PairNear d = (k : ℕ) × (k ≤ 1) × (k + 1 < length d) × HasPair d k × (0 < k → get_or d 0 0 ≡ 45)

abbrev EachPairNear : List DelimiterText → Type 0
EachPairNear [] = Unit {0}
EachPairNear (p ∷ ps) = PairNear p.text × EachPairNear ps

by_index : (ds : List DelimiterText) → EachPairNear ds → (i : ℕ) → i < length ds → PairNear (text_at ds i)
by_index [] each i inside = absurd (omega (arith, inside))
by_index (p ∷ ps) each zero inside = each.0
by_index (p ∷ ps) each (suc i) inside = by_index ps each.1 i (omega (arith, inside))

default_pairs : EachPairNear default_delimiters
default_pairs = (
  (0, lit≤ tt, lit< tt, refl, λ l. absurd (omega (arith, l))),
  (
    (0, lit≤ tt, lit< tt, refl, λ l. absurd (omega (arith, l))),
    (
      (0, lit≤ tt, lit< tt, refl, λ l. absurd (omega (arith, l))),
      (
        (1, lit≤ tt, lit< tt, refl, λ l. refl),
        (
          (0, lit≤ tt, lit< tt, refl, λ l. absurd (omega (arith, l))),
          (
            (0, lit≤ tt, lit< tt, refl, λ l. absurd (omega (arith, l))),
            (
              (0, lit≤ tt, lit< tt, refl, λ l. absurd (omega (arith, l))),
              (
                (1, lit≤ tt, lit< tt, refl, λ l. refl),
                (
                  (0, lit≤ tt, lit< tt, refl, λ l. absurd (omega (arith, l))),
                  (
                    (0, lit≤ tt, lit< tt, refl, λ l. absurd (omega (arith, l))),
                    (
                      (0, lit≤ tt, lit< tt, refl, λ l. absurd (omega (arith, l))),
                      (
                        (1, lit≤ tt, lit< tt, refl, λ l. refl),
                        tt,
                      ),
                    ),
                  ),
                ),
              ),
            ),
          ),
        ),
      ),
    ),
  ),
)

-- where a default delimiter occurs, a pair is there, or after a hyphen
pair_of : (s : List ℕ) (q i : ℕ) → i < length default_delimiters → Occurs s q (text_at default_delimiters i)
    → (k : ℕ) × (k ≤ 1) × (q + k + 1 < length s) × HasPair s (q + k) × (0 < k → get_or s q 0 ≡ 45)
pair_of s q i inside occurs =
    let d = text_at default_delimiters i in
    let near = by_index default_delimiters default_pairs i inside in
    let k = near.0 in
    let within : k < length d = omega (arith, near.2) in
    let here : get_or d k 0 ≡ get_or s (q + k) 0 = occurs_reads s q d k occurs within in
    let apart : q + (k + 1) ≡ q + k + 1 = omega arith in
    let after : get_or d (k + 1) 0 ≡ get_or s (q + k + 1) 0 = occurs_reads s q d (k + 1) occurs near.2 ∙ ap (λ x. get_or s x 0) apart in
    let fits : length d ≤ length s - q = omega (arith, ap length occurs, length-take (length d) (drop q s), length-drop q s) in (
      k,
      near.1,
      omega (arith, fits, near.2),
      ap (λ b. is_pair b (get_or s (q + k + 1) 0)) (sym here) ∙ ap (λ b. is_pair (get_or d k 0) b) (sym after) ∙ near.3,
      λ l.
          let first : get_or d 0 0 ≡ get_or s (q + 0) 0 = occurs_reads s q d 0 occurs (omega (arith, near.2)) in
          let begin : q + 0 ≡ q = omega arith in
          sym (first ∙ ap (λ x. get_or s x 0) begin) ∙ near.4 l,
    )

one_is : (opens leads ends closes x y : Bool) → (opens && leads || ends && closes) ≡ true → ((opens || x) ≡ true) ⊎ ((y || closes) ≡ true)
one_is true leads ends closes x y is = inl refl
one_is false leads ends true x true is = inr refl
one_is false leads ends true x false is = inr refl
one_is false leads true false x y is = let impossible : false ≡ true = is in absurd cc
one_is false leads false false x y is = let impossible : false ≡ true = is in absurd cc

-- one byte of a pair is a brace
brace_of : (b c : ℕ) → is_pair b c ≡ true → (is_byte2 123 125 b ≡ true) ⊎ (is_byte2 123 125 c ≡ true)
brace_of b c is = one_is (b == 123) _ _ (c == 125) (b == 125) (c == 123) is

-- no brace before an offset belongs to a pair that begins at or after another
abbrev pub NoPairs : List ℕ → ℕ → ℕ → Type 0
NoPairs s at end = (brace : ℕ) → brace < end → is_byte2 123 125 (get_or s brace 0) ≡ true → NoPairWith s at brace

less_or_not : (m n : ℕ) → (m < n) ⊎ (n ≤ m)
less_or_not m n = grind arith

pub less_or_same : (m n : ℕ) → m < n + 1 → (m < n) ⊎ (m ≡ n)
less_or_same m n l = grind arith

pub none_before : (s : List ℕ) (at : ℕ) → NoPairs s at at
none_before s at brace below is q after before within pair = absurd (omega (arith, below, after, before))

module _ (s bytes : List ℕ) (at from k : ℕ) (same : bytes ≡ s) (room : k ≤ length bytes - from)
    (none : Nowhere (Passes (is_byte2 123 125) (take (length bytes - from) (drop from bytes))) 0 k) (pairs : NoPairs s at from) where
  -- a search for a brace passed none
  not_brace : (j : ℕ) → from ≤ j → j < from + k → is_byte2 123 125 (get_or s j 0) ≡ true → ⊥
  not_brace j after below brace =
      let within : j - from < k = omega (arith, after, below) in
      let here : from + (j - from) ≡ j = omega (arith, after) in
      let byte : get_or (take (length bytes - from) (drop from bytes)) (j - from) 0 ≡ get_or s j 0 =
      get_or-take (length bytes - from) (drop from bytes) (j - from) 0 (omega (arith, within, room))
      ∙ get_or-drop from bytes (j - from) 0
      ∙ ap (λ x. get_or bytes x 0) here
      ∙ ap (λ x. get_or x j 0) same in
      none (j - from) (omega arith) within (ap (λ b. is_byte2 123 125 b) byte ∙ brace)

  pub none_up_to : NoPairs s at (from + k)
  none_up_to j below brace = elim (less_or_not j from) [
    | inl less ↦ pairs j less brace
    | inr after ↦ absurd (not_brace j after below brace)
  ]

-- one brace more that belongs to none
pub none_more : (s : List ℕ) (at end : ℕ) → NoPairs s at end → NoPairWith s at end → NoPairs s at (end + 1)
none_more s at end pairs here j below brace = elim (less_or_same j end below) [
  | inl less ↦ pairs j less brace
  | inr same ↦ let With : ℕ → Type 0 = λ x. NoPairWith s at x in subst With (sym same) here
]

-- no brace of a block that was passed belongs to a pair
pub none_passed : (s : List ℕ) (at end to : ℕ) → at ≤ end → NoPairs s at (end + 1) → NoPairWith s at end → NoPairIn s (end + 1) to → NoPairs s at to
none_passed s at end to low pairs here none j below brace q after from near has = elim (less_or_not j (end + 1)) [
  | inl less ↦ pairs j less brace q after from near has
  | inr later ↦ elim (less_or_not q (end + 1)) [
    | inl less ↦ here q after (omega (arith, less)) (omega (arith, later, near)) has
    | inr more ↦ none q more (omega (arith, from, below)) has
  ]
]

-- no pair begins before an offset, if no brace before it or at it belongs to one
module _ (s : List ℕ) (at end pair : ℕ) (pairs : NoPairs s at end) (below : pair ≤ end)
    (first : (q : ℕ) → at ≤ q → q ≤ end → end ≤ q + 1 → q < pair → HasPair s q → ⊥) where
  earlier : (p j : ℕ) → at ≤ p → p < pair → p ≤ j → j ≤ p + 1 → HasPair s p → is_byte2 123 125 (get_or s j 0) ≡ true → ⊥
  earlier p j after before from to has brace = elim (less_or_same j end (omega (arith, before, to, below))) [
    | inl less ↦ pairs j less brace p after from to has
    | inr same ↦ first p after (omega (arith, before, below)) (omega (arith, same, to)) before has
  ]

  none_there : (p : ℕ) → at ≤ p → p < pair → HasPair s p → ⊥
  none_there p after before has = elim (brace_of (get_or s p 0) (get_or s (p + 1) 0) has) [
    | inl brace ↦ earlier p p after before (omega arith) (omega arith) has brace
    | inr brace ↦ earlier p (p + 1) after before (omega arith) (omega arith) has brace
  ]

  pub near_pair : (end' : ℕ) → end' ≤ pair → ((q : ℕ) → at ≤ q → q < end' → q + 1 ≡ pair → get_or s q 0 ≡ 45 → ⊥) → NoneFrom default_delimiters s at end'
  near_pair end' most no_hyphen q after low i inside occurs =
      let has = pair_of s q i inside occurs in
      elim (less_or_not (q + has.0) pair) [
        | inl before ↦ none_there (q + has.0) (omega (arith, after)) before has.3
        | inr behind ↦
            let later : 0 < has.0 = omega (arith, behind, low, most) in
            let next : q + 1 ≡ pair = omega (arith, behind, low, most, has.1) in
            no_hyphen q after low next (has.4 later)
      ]

-- no delimiter begins in a text in which no brace belongs to a pair
pub no_pair_none : (s : List ℕ) (at : ℕ) → NoPairs s at (length s) → NoneFrom default_delimiters s at (length s)
no_pair_none s at pairs q after low i inside occurs =
    let has = pair_of s q i inside occurs in
    let p = q + has.0 in
    let later : at ≤ p = omega (arith, after) in
    elim (brace_of (get_or s p 0) (get_or s (p + 1) 0) has.3) [
      | inl brace ↦ pairs p (omega (arith, has.2)) brace p later (omega arith) (omega arith) has.3
      | inr brace ↦ pairs (p + 1) has.2 brace p later (omega arith) (omega arith) has.3
    ]

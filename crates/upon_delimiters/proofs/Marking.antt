-- What is marked with a bit, and that no delimiter begins where two bytes share no bit.
use Rattle.std.proofs.Common.{◌≡◌, ◌≢◌, ◌⊎◌, inl, inr, ℕ, ◌+◌, ◌*◌, ◌%◌, ◌^◌, ◌<◌, List, false, not, nat_eq, length, get_or, set, min, max, bit_and, bit_or, w16, arith, sym, ap, subst, ◌∙◌}
use Rattle.std.proofs.Math.Nat.{max-eq_left}
use Rattle.std.proofs.lemmas.List.{get_or-set_same, get_or-set_other}
use Rattle.std.proofs.lemmas.Nat.Bits.{bit_at_and, bit_at_or, bit_at-zero, bit_at-lt, bit_at_set_same}
use Rattle.std.specs.Int.{bit_at}
use Rattle.upon_language_spec.specs.Search.{DelimiterText, HasTexts, NoneAt, Occurs, text_at}
use Rattle.upon_delimiters.specs.Marks.{HasMark, MarksEach, MayBeSecond}
use Rattle.upon_delimiters.specs.declared.marks.Marks.{Marks}
use Rattle.upon_delimiters.proofs.Ways.{occurs_reads}

same_or_not : (m n : ℕ) → (m ≡ n) ⊎ (m ≢ n)
same_or_not m n = grind arith

-- a byte's mark with a bit more
abbrev more : List ℕ → ℕ → ℕ → List ℕ
more table byte bit = set table byte (bit_or (get_or table byte 0) (1 * 2 ^ bit % 65536))

pub mark_made : (table : List ℕ) (byte bit : ℕ) → byte < length table → bit < 16 → HasMark (more table byte bit) byte bit
mark_made table byte bit inside small =
    ap (λ x. bit_at x bit) (get_or-set_same table byte _ 0 inside) ∙ bit_at_set_same w16 (get_or table byte 0) bit small

one_or_more : (n m : ℕ) → n ≡ 1 → m < 2 → max n m ≡ 1
one_or_more n m one small = max-eq_left {n = n} {m = m} (omega (arith, one, small)) ∙ one

pub mark_kept : (table : List ℕ) (byte bit b c : ℕ) → byte < length table → HasMark table b c → HasMark (more table byte bit) b c
mark_kept table byte bit b c inside has = elim (same_or_not b byte) [
  | inl same ↦
      let Has : ℕ → Type 0 = λ x. HasMark (more table byte bit) x c in
      let mask = 1 * 2 ^ bit % 65536 in
      let was : bit_at (get_or table byte 0) c ≡ 1 = subst (λ x. HasMark table x c) same has in
      subst Has (sym same) (ap (λ x. bit_at x c) (get_or-set_same table byte _ 0 inside)
      ∙ bit_at_or (get_or table byte 0) mask c
      ∙ one_or_more (bit_at (get_or table byte 0) c) (bit_at mask c) was (bit_at-lt mask c))
  | inr other ↦ ap (λ x. bit_at x c) (get_or-set_other table byte b _ 0 other) ∙ has
]

-- numbers that share a bit have a conjunction
shares : (f g k : ℕ) → bit_at f k ≡ 1 → bit_at g k ≡ 1 → bit_and f g ≡ 0 → ⊥
shares f g k one two none =
    let at : bit_at (bit_and f g) k ≡ min (bit_at f k) (bit_at g k) = bit_at_and f g k in
    let zero_there : bit_at (bit_and f g) k ≡ 0 = ap (λ x. bit_at x k) none ∙ bit_at-zero k in
    let first : min (bit_at f k) (bit_at g k) ≡ min 1 (bit_at g k) = ap (λ x. min x (bit_at g k)) one in
    let second : min 1 (bit_at g k) ≡ 1 = ap (λ x. min 1 x) two in
    absurd (omega (arith, at, zero_there, first, second))

is_zero : (x : ℕ) → not (nat_eq x 0) ≡ false → x ≡ 0
is_zero x is = grind (arith, is)

module _ (marks : Marks) (ds : List DelimiterText) (s : List ℕ) (q : ℕ) (texts : HasTexts ds) (each : MarksEach marks ds) where
  first_marked : (i : ℕ) → i < length ds → Occurs s q (text_at ds i) → HasMark marks.first (get_or s q 0) (i % 16)
  first_marked i inside occurs =
      let d = text_at ds i in
      let same : q + 0 ≡ q = omega arith in
      let byte : get_or d 0 0 ≡ get_or s q 0 = occurs_reads s q d 0 occurs (texts i inside) ∙ ap (λ x. get_or s x 0) same in
      let Has : ℕ → Type 0 = λ b. HasMark marks.first b (i % 16) in
      subst Has byte (each.texts i inside).first

  -- no delimiter begins where the first byte and the next share no bit
  pub apart_none : (next : ℕ) → next ≡ get_or s (q + 1) 0 → next < 256
      → not (nat_eq (bit_and (get_or marks.first (get_or s q 0) 0) (get_or marks.second next 0)) 0) ≡ false → NoneAt ds s q
  apart_none next is small apart i inside occurs =
      let d = text_at ds i in
      let follows : MayBeSecond next d = λ two. occurs_reads s q d 1 occurs two ∙ sym is in
      shares (get_or marks.first (get_or s q 0) 0) (get_or marks.second next 0) (i % 16) (first_marked i inside occurs)
      ((each.texts i inside).second next small follows) (is_zero _ apart)

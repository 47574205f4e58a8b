-- The least span that covers two spans of a text lies in the text too.
use Rattle.std.proofs.Common.{◌≡◌, ◌⊎◌, inl, inr, ℕ, ◌<◌, ◌≤◌, List, subst, arith}
use Rattle.std.proofs.lemmas.Bool.{cases_lt}
use Rattle.std.specs.Prelude.{min, max}
use Rattle.std.specs.Str.{IsCharBoundary}
use Rattle.upon_types.specs.Span.{LiesIn, combine}
use Rattle.upon_types.specs.declared.types.Span.{Span}

least : (P : ℕ → Type 0) (m n : ℕ) → P m → P n → (m < n) ⊎ (n ≤ m) → P (min m n)
least P m n h k (inl less) = let e : m ≡ min m n = omega (arith, less) in subst P e h
least P m n h k (inr other) = let e : n ≡ min m n = omega (arith, other) in subst P e k

greatest : (P : ℕ → Type 0) (m n : ℕ) → P m → P n → (m < n) ⊎ (n ≤ m) → P (max m n)
greatest P m n h k (inl less) = let e : n ≡ max m n = omega (arith, less) in subst P e k
greatest P m n h k (inr other) = let e : m ≡ max m n = omega (arith, other) in subst P e h

pub combined_lies_in : (source : List ℕ) (a b : Span) → LiesIn source a → LiesIn source b → LiesIn source (combine a b)
combined_lies_in source a b h k = record {
  ordered = let x = h.ordered in let y = k.ordered in omega (arith, x, y);
  start = least (IsCharBoundary source) a.m b.m h.start k.start (cases_lt a.m b.m);
  end = greatest (IsCharBoundary source) a.n b.n h.end k.end (cases_lt a.n b.n);
}

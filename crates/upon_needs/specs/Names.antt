-- Names that a call answers, and sets of names.
use Rattle.std.specs.Prelude.{ℕ, List, map, Bool}
use Rattle.std.specs.BTreeSet.{BTreeSet, contains_by}
use Rattle.std.specs.Cmp.Lexicographic.{slice_cmp}
use Rattle.std.specs.List.Sorted.{IsStrictlySortedBy}
use Rattle.std.specs.Ordering.{nat_cmp}
use Rattle.std.specs.Borrow.{Bor}

-- what texts say
abbrev pub texts : List (Bor (List ℕ)) → List (List ℕ)
texts names = map (λ name. name.now) names

-- whether a set has a name
abbrev pub has_name : BTreeSet (Bor (List ℕ)) → List ℕ → Bool
has_name names name = contains_by (λ k. slice_cmp nat_cmp name k.now) names

-- each name's bytes are before those of the next
abbrev pub Rise : List (List ℕ) → Type 0
Rise names = IsStrictlySortedBy (slice_cmp nat_cmp) names

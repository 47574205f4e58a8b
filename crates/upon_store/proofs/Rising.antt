-- The keys of a library map are texts whose bytes rise.
use Rattle.std.proofs.Common.{◌≡◌, List, [], ◌∷◌, map, Less, String, Global, nat_cmp, string_bytes, string_cmp}
use Rattle.std.specs.Cmp.Lexicographic.{slice_cmp}
use Rattle.std.specs.List.{AllByRecursion}
use Rattle.std.specs.List.Sorted.{IsStrictlySortedBy}
use Rattle.upon_store.specs.Stored.{PathsRise}

before_all : (k : String Global) (ks : List (String Global)) → AllByRecursion (λ l. string_cmp k l ≡ Less) ks
    → AllByRecursion (λ l. slice_cmp nat_cmp (string_bytes k) l ≡ Less) (map string_bytes ks)
before_all k [] above = tt
before_all k (l ∷ ks) above = (above.0, before_all k ks above.1)

pub keys_rise : (ks : List (String Global)) → IsStrictlySortedBy string_cmp ks → PathsRise (map string_bytes ks)
unfolding IsStrictlySortedBy
keys_rise [] sorted = tt
keys_rise (k ∷ ks) sorted = (before_all k ks sorted.0, keys_rise ks sorted.1)

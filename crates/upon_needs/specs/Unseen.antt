-- How many keys of a map a set has not.
use Rattle.std.specs.Prelude.{ℕ, zero, suc, List, [], ◌∷◌, if◌then◌else◌, String, string_bytes}
use Rattle.std.specs.BTreeMap.{BTreeMap, keys}
use Rattle.std.specs.BTreeSet.{BTreeSet}
use Rattle.std.specs.Borrow.{Bor}
use Rattle.upon_needs.specs.Names.{has_name}

-- of some keys, how many a set has not
abbrev pub not_had : {A : Type 0} → BTreeSet (Bor (List ℕ)) → List (String A) → ℕ
not_had seen [] = zero
not_had seen (k ∷ ks) = if has_name seen (string_bytes k) then not_had seen ks else suc (not_had seen ks)

-- of a map's keys, how many a set has not
abbrev pub unseen : {A X : Type 0} → BTreeMap (String A) X → BTreeSet (Bor (List ℕ)) → ℕ
unseen m seen = not_had seen (keys m)

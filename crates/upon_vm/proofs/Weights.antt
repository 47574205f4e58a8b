-- What is counted of weights.
use Rattle.std.proofs.Common.{◌≡◌, ◌+◌, ◌≤◌, ℕ, Option, Some, None, IsSome, List, [], ◌∷◌, ◌++◌, Bool, true, false, refl, arith}
use Rattle.upon_types.specs.Val.{Val, none_val, bool_val, int_val, text_val, list_val, map_val, Vals, no_vals, val_then, Entries, no_entries, entry_then}
use Rattle.upon_types.specs.Walk.{ValuePart, parts_of_value, parts_of_items, parts_of_entries}
use Rattle.upon_vm.specs.Limits.{AtMost}
use Rattle.upon_vm.specs.Weight.{as_count, weight_of, weight_of_vals, weight_of_entries, weight_of_parts}

-- what is counted is within the limit, if it is set
pub counted_most : (limit : Option ℕ) (made total : ℕ) → (IsSome limit → made ≡ as_count total) → AtMost limit made → AtMost limit (as_count total)
counted_most None made total counted most = tt
counted_most (Some n) made total counted most = let is = counted refl in omega (arith, is, most)

-- so is what is less
pub less_counted : (limit : Option ℕ) (few many : ℕ) → few ≤ many → AtMost limit (as_count many) → AtMost limit (as_count few)
less_counted None few many le most = tt
less_counted (Some n) few many le most = omega (arith, le, most)

-- a part more is counted
pub counted_more : (made total more part same : ℕ) → made ≡ as_count total → part ≡ same → more ≡ as_count (made + part) → more ≡ as_count (total + same)
counted_more made total more part same before is now = omega (arith, before, is, now)

-- two parts more are counted, of which the first was counted apart
pub counted_both : (made more put part rest : ℕ) → put ≡ as_count part → more ≡ as_count (made + (put + rest)) → more ≡ as_count (made + (part + rest))
counted_both made more put part rest is now = omega (arith, is, now)

-- ---- what a value weighs is what its parts weigh
pub weight_of_pieces-append : (first rest : List ValuePart) → weight_of_parts (first ++ rest) ≡ weight_of_parts first + weight_of_parts rest
weight_of_pieces-append [] rest = omega arith
weight_of_pieces-append (piece ∷ first) rest = omega (arith, weight_of_pieces-append first rest)

mutual
  pub weight_of-pieces : (v : Val) → weight_of_parts (parts_of_value v) ≡ weight_of v
  weight_of-pieces none_val = omega arith
  weight_of-pieces (bool_val b) = omega arith
  weight_of-pieces (int_val n) = omega arith
  weight_of-pieces (text_val bytes) = omega arith
  weight_of-pieces (list_val vs) = omega (arith, weight_of-items vs true)
  weight_of-pieces (map_val es) = omega (arith, weight_of-entries es true)

  weight_of-items : (vs : Vals) (is_first : Bool) → weight_of_parts (parts_of_items vs is_first) ≡ weight_of_vals vs
  weight_of-items no_vals is_first = omega arith
  weight_of-items (val_then v vs) is_first = omega (arith, weight_of_pieces-append (parts_of_value v) (parts_of_items vs false), weight_of-pieces v, weight_of-items vs false)

  weight_of-entries : (es : Entries) (is_first : Bool) → weight_of_parts (parts_of_entries es is_first) ≡ weight_of_entries es
  weight_of-entries no_entries is_first = omega arith
  weight_of-entries (entry_then key v es) is_first = omega (arith, weight_of_pieces-append (parts_of_value v) (parts_of_entries es false), weight_of-pieces v, weight_of-entries es false)

-- The places of values, which are counted from 0 in the order in which the values first come.
use Rattle.std.specs.Prelude.{ℕ, Option}
use Rattle.std.specs.BTreeMap.{get_by}
use Rattle.std.specs.Cmp.Lexicographic.{slice_cmp}
use Rattle.std.specs.Ordering.{nat_cmp, int_cmp}
use Rattle.upon_types.specs.Val.{Val, int_val, text_val}
use Rattle.upon_std.specs.Ordering.Spelling.{spelling}
use Rattle.upon_std.specs.declared.ordering.places.Places.{Places}

-- the place of a value, if it has one
abbrev pub place_met : Places → Val → Option ℕ
place_met places (int_val z) = get_by (int_cmp z) places.integers
place_met places (text_val s) = get_by (λ k. slice_cmp nat_cmp s k.now) places.texts
place_met places v = get_by (λ k. slice_cmp nat_cmp (spelling v) k.items) places.others

-- The weight of a value, one level at a time, and what a step of taking apart does to it.
use Rattle.std.proofs.Common.{◌≡◌, ℕ, zero, suc, ◌+◌, ◌*◌, ◌<◌, ◌≤◌, List, [], ◌∷◌, ◌++◌, Bool, String, Vec, BTreeMap, Global, refl, sym, ap, ◌∙◌, rules, arith, nat_lt, string_cmp, Option, Some, cond, true, false, not, ◌&&◌, ◌-◌, get_or, slice_get, length, ℤ}
use Rattle.std.proofs.lemmas.Nat.{mul-le}
use Rattle.std.proofs.Math.ListN.{set}
use Rattle.std.proofs.lemmas.Map.Entries.{sum_by-insert_entry}
use Rattle.std.proofs.lemmas.List.{length-map}
use Rattle.std.proofs.lemmas.List.Sums.{sum_by-cons}
use Rattle.std.specs.BTreeMap.{insert_entry, is_at}
use Rattle.std.specs.List.{sum_by}
use Rattle.std.specs.List.Sorted.{IsStrictlySortedBy}
use Rattle.std.specs.Map.{keys_of, values_of, lookup}
use Rattle.std.specs.Option.{unwrap_or, option_map}
use Rattle.std.specs.String.{string_cmp_total}
use Rattle.upon_types.specs.Weight.{bulk_level, bulk, items_bulk, entries_bulk, holds, all_bare}
use Rattle.upon_types.specs.declared.value.Value.{Value, None as NoneValue, Bool as BoolValue, Integer as IntegerValue, String as StringValue, List as ListValue, Map as MapValue, the_lemmas}
use Rattle.upon_types.specs.declared.value.Value.TheFolds.{fold_out-Value, map-Value}
use Rattle.upon_types.specs.declared.value.Value.TheOpen.{Value-F}
use Rattle.upon_types.specs.declared.value.Value.TheViews.{out-Value}

-- ---- one level
pub weight-None : bulk NoneValue ≡ 1
unfolding bulk
weight-None = search (rules, the_lemmas)

pub weight-Bool : (b : Bool) → bulk (BoolValue b) ≡ 1
unfolding bulk
weight-Bool b = search (rules, the_lemmas)

pub weight-Integer : (n : ℤ) → bulk (IntegerValue n) ≡ 1
unfolding bulk
weight-Integer n = search (rules, the_lemmas)

pub weight-String : (s : String Global) → bulk (StringValue s) ≡ 1
unfolding bulk
weight-String s = search (rules, the_lemmas)

pub weight-List : (items : Vec Value Global) → bulk (ListValue items) ≡ items_bulk items.items + 1
unfolding bulk
weight-List items = search (rules, the_lemmas)

pub weight-Map : (m : BTreeMap (String Global) Value) → bulk (MapValue m) ≡ entries_bulk m.entries + 1
unfolding bulk
weight-Map m = search (rules, the_lemmas)

pub ruleset weights = (weight-None, weight-Bool, weight-Integer, weight-String, weight-List, weight-Map)

pub holds-None : holds NoneValue ≡ false
holds-None = search (rules, the_lemmas)

pub holds-Bool : (b : Bool) → holds (BoolValue b) ≡ false
holds-Bool b = search (rules, the_lemmas)

pub holds-Integer : (n : ℤ) → holds (IntegerValue n) ≡ false
holds-Integer n = search (rules, the_lemmas)

pub holds-String : (s : String Global) → holds (StringValue s) ≡ false
holds-String s = search (rules, the_lemmas)

pub holds-List : (items : Vec Value Global) → holds (ListValue items) ≡ nat_lt 0 (length items.items)
holds-List items = search (rules, the_lemmas, length-map)

pub holds-Map : (m : BTreeMap (String Global) Value) → holds (MapValue m) ≡ nat_lt 0 (length m.entries)
holds-Map m = search (rules, the_lemmas, length-map)

pub ruleset holdings = (holds-None, holds-Bool, holds-Integer, holds-String, holds-List, holds-Map)

pub all_bare-append : (vs : List Value) (v : Value) → holds v ≡ false → all_bare (vs ++ v ∷ []) ≡ all_bare vs
all_bare-append [] v bare = rw bare refl
all_bare-append (w ∷ vs) v bare = ap (λ b. cond (holds w) false b) (all_bare-append vs v bare)

pub all_bare-bare : (v : Value) (vs : List Value) → holds v ≡ false → all_bare (v ∷ vs) ≡ all_bare vs
all_bare-bare v vs bare = rw bare refl

pub all_bare-first : (v : Value) (vs : List Value) → holds v ≡ true → all_bare (v ∷ vs) ≡ false
all_bare-first v vs is = rw is refl

bare_or : (b c : Bool) → c ≡ false → cond b false c ≡ false
bare_or true c is = refl
bare_or false c is = is

pub all_bare-rest : (v : Value) (vs : List Value) → all_bare vs ≡ false → all_bare (v ∷ vs) ≡ false
all_bare-rest v vs rest = bare_or (holds v) (all_bare vs) rest

pub all_bare-last : (vs : List Value) (v : Value) → holds v ≡ true → all_bare (vs ++ v ∷ []) ≡ false
all_bare-last [] v is = rw is refl
all_bare-last (w ∷ vs) v is = bare_or (holds w) (all_bare (vs ++ v ∷ [])) (all_bare-last vs v is)

pub all_bare-holder : (vs : List Value) (i : ℕ) (d : Value) → i < length vs → holds (get_or vs i d) ≡ true → all_bare vs ≡ false
all_bare-holder [] i d h is = absurd (omega arith)
all_bare-holder (v ∷ vs) zero d h is = rw is refl
all_bare-holder (v ∷ vs) (suc i) d h is = bare_or (holds v) (all_bare vs) (all_bare-holder vs i d (omega arith) is)

one_bare : (a : Bool) → cond a false true ≡ not a && not a
one_bare true = refl
one_bare false = refl

both_bare : (a b : Bool) → cond a false (cond b false true) ≡ not a && not b
both_bare true b = refl
both_bare false true = refl
both_bare false false = refl

-- of at most two entries, the first and the last
pub all_bare-ends : (es : List (String Global × Value)) (k l : String Global) (v w : Value) → length es ≤ 2 → slice_get es 0 ≡ Some (k, v) → slice_get es (length es - 1) ≡ Some (l, w) → not (holds v) && not (holds w) ≡ all_bare (values_of es)
all_bare-ends [] k l v w few first last = absurd cc
all_bare-ends (e ∷ []) k l v w few first last =
    let is : v ≡ e.1 = cc in
    let both : (l, w) ≡ e = cc in
    let same : w ≡ e.1 = ap (λ p. p.1) both in
    ap (λ x. not (holds x) && not (holds w)) is ∙ ap (λ x. not (holds e.1) && not (holds x)) same ∙ sym (one_bare (holds e.1))
all_bare-ends (e ∷ f ∷ []) k l v w few first last =
    let is : v ≡ e.1 = cc in
    let both : (l, w) ≡ f = cc in
    let same : w ≡ f.1 = ap (λ p. p.1) both in
    ap (λ x. not (holds x) && not (holds w)) is ∙ ap (λ x. not (holds e.1) && not (holds x)) same ∙ sym (both_bare (holds e.1) (holds f.1))
all_bare-ends (e ∷ f ∷ g ∷ es) k l v w few first last = absurd (omega (arith, few))

-- ---- the measure: first the weight of both, then that of the one in hand
unfoldable pub measure : ℕ → ℕ → ℕ
measure now above = (now + above) * (now + above) + now

square_less : (a b n : ℕ) → a < b → n ≤ a → a * a + n < b * b
square_less a b n less small =
    omega (arith, mul-le (a + 1) (a + 1) b b (omega arith) (omega arith))

pub measure-smaller_hand : (now above now' above' : ℕ) → now' + above' ≤ now + above → now' < now → measure now' above' < measure now above
unfolding measure
measure-smaller_hand now above now' above' same less = omega (arith, mul-le (now' + above') (now' + above') (now + above) (now + above) same same)

pub measure-smaller_both : (now above now' above' : ℕ) → now' + above' < now + above → measure now' above' < measure now above
unfolding measure
measure-smaller_both now above now' above' less = omega (arith, square_less (now' + above') (now + above) now' less (omega arith))

-- ---- the items of a list
pub items_weight-append : (vs ws : List Value) → items_bulk (vs ++ ws) ≡ items_bulk vs + items_bulk ws
items_weight-append [] ws = omega arith
items_weight-append (v ∷ vs) ws = omega (arith, items_weight-append vs ws)

pub entries_weight-append : (vs ws : List (String Global × Value)) → entries_bulk (vs ++ ws) ≡ entries_bulk vs + entries_bulk ws
entries_weight-append [] ws = omega arith
entries_weight-append (v ∷ vs) ws = omega (arith, entries_weight-append vs ws)

pub items_weight-set : (vs : List Value) (i : ℕ) (w d : Value) → i < length vs → items_bulk (set vs i w) + bulk (get_or vs i d) ≡ items_bulk vs + bulk w
items_weight-set [] i w d h = absurd (omega arith)
items_weight-set (v ∷ vs) zero w d h = omega arith
items_weight-set (v ∷ vs) (suc i) w d h = omega (arith, items_weight-set vs i w d (omega arith))

pub entries_weight-sum : (es : List (String Global × Value)) → entries_bulk es ≡ sum_by bulk (values_of es)
entries_weight-sum [] = refl
entries_weight-sum (e ∷ es) = ap (λ n. bulk e.1 + n) (entries_weight-sum es) ∙ sym (sum_by-cons bulk e.1 (values_of es))

pub entries_weight-insert : (es : List (String Global × Value)) (k : String Global) (w v : Value) → IsStrictlySortedBy string_cmp (keys_of es) → lookup (is_at (string_cmp k)) es ≡ Some v → entries_bulk (insert_entry string_cmp es k w) + bulk v ≡ entries_bulk es + bulk w
entries_weight-insert es k w v sorted at =
    let found : unwrap_or (option_map bulk (lookup (is_at (string_cmp k)) es)) 0 ≡ bulk v = ap (λ o. unwrap_or (option_map bulk o) 0) at in
    omega (arith, found, entries_weight-sum es, entries_weight-sum (insert_entry string_cmp es k w), sum_by-insert_entry bulk string_cmp_total es k w sorted)

pub items_weight-part : (vs : List Value) (i : ℕ) (d : Value) → i < length vs → bulk (get_or vs i d) ≤ items_bulk vs
items_weight-part [] i d h = absurd (omega arith)
items_weight-part (v ∷ vs) zero d h = omega arith
items_weight-part (v ∷ vs) (suc i) d h = omega (arith, items_weight-part vs i d (omega arith))

found_part : (here : Bool) (w v : Value) (later : Option Value) (n : ℕ) → cond here (Some w) later ≡ Some v → (later ≡ Some v → bulk v ≤ n) → bulk v ≤ bulk w + n
found_part true w v later n is within =
    let same : w ≡ v = cc in
    rw (← same) (omega arith)
found_part false w v later n is within = omega (arith, within is)

pub entries_weight-part : (test : String Global → Bool) (es : List (String Global × Value)) (v : Value) → lookup test es ≡ Some v → bulk v ≤ entries_bulk es
entries_weight-part test [] v at = absurd cc
entries_weight-part test (e ∷ es) v at = found_part (test e.0) e.1 v (lookup test es) (entries_bulk es) at (entries_weight-part test es v)

-- what `last_entry` says of a map, and what is written there
pub entries_weight-written : (es fs : List (String Global × Value)) (k : String Global) (w v : Value) → IsStrictlySortedBy string_cmp (keys_of es) → lookup (is_at (string_cmp k)) es ≡ Some v → fs ≡ insert_entry string_cmp es k w → entries_bulk fs + bulk v ≡ entries_bulk es + bulk w
entries_weight-written es fs k w v sorted at written = rw written (entries_weight-insert es k w v sorted at)

-- a value is one value at least
level-positive : (l : Value-F ℕ) → 0 < bulk_level l
level-positive Value-F.None = omega arith
level-positive (Value-F.Bool b) = omega arith
level-positive (Value-F.Integer n) = omega arith
level-positive (Value-F.String s) = omega arith
level-positive (Value-F.List items) = omega arith
level-positive (Value-F.Map entries) = omega arith

pub positive : (v : Value) → 0 < bulk v
unfolding bulk
positive v = omega (arith, level-positive (map-Value _ ℕ bulk (out-Value v)), fold_out-Value ℕ bulk_level v)

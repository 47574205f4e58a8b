-- What is yet to be compared when a comparison goes into two lists or two maps, on in them and out of them.
use Rattle.std.proofs.Common.{◌≡◌, ◌+◌, ◌*◌, ◌<◌, ◌≤◌, ◌∙◌, ℕ, List, [], ◌∷◌, ◌++◌, Bool, true, false, ◌&&◌, Bor, Vec, BTreeMap, String, Global, sym, ap, take, get_or, length, arith, refl}
use Rattle.std.proofs.Math.Bool.{and_assoc, and-true}
use Rattle.std.proofs.Math.ListN.{set}
use Rattle.std.proofs.lemmas.List.{take_more, length-set, take_more_set, take_all, take-set}
use Rattle.std.specs.Slice.Iter.{iter_rest}
use Rattle.std.specs.declared.slice.Iter.{Iter}
use Rattle.upon_types.specs.Comparing.{agree_in, agree_all, agree_after, left_in, left_after, work_of_pairs}
use Rattle.upon_types.specs.Same.{val_eq, val_agrees, vals_agree, entries_agree}
use Rattle.upon_types.specs.Val.{Val}
use Rattle.upon_types.specs.View.{view, vals_view, entries_view}
use Rattle.upon_types.specs.Weight.{bulk, items_bulk, entries_bulk}
use Rattle.upon_types.specs.declared.value.Value.{Value, List as ListValue, Map as MapValue}
use Rattle.upon_types.specs.declared.value.comparing.Next.TheVariants.{Both}
use Rattle.upon_types.specs.declared.value.comparing.Pair.{Pair}
use Rattle.upon_types.proofs.ValueEquality.{part_by_part}
use Rattle.upon_types.proofs.Views.{Entry, view-List, view-Map}
use Rattle.upon_types.proofs.Weights.{weight-List, weight-Map, positive}

-- ---- a pair more is the innermost
pub agree_all-push : (outer : List Pair) (pair : Pair) → agree_all (outer ++ pair ∷ []) ≡ (agree_in pair && agree_all outer)
agree_all-push [] pair = sym (and-true (agree_in pair))
agree_all-push (p ∷ ps) pair = ap (λ b. b && agree_in p) (agree_all-push ps pair) ∙ and_assoc (agree_in pair) (agree_all ps) (agree_in p)

pub work-push : (outer : List Pair) (pair : Pair) → work_of_pairs (outer ++ pair ∷ []) ≡ 2 * left_in pair + 1 + work_of_pairs outer
work-push [] pair = omega arith
work-push (p ∷ ps) pair = omega (arith, work-push ps pair)

-- ---- a comparison meets two values
-- `==` says of two values what it says part by part
pub met_by_eq : (v w : Val) (same rest : Bool) → same ≡ val_eq v w → (same && rest) ≡ (val_agrees v w && rest)
met_by_eq v w same rest is = ap (λ b. b && rest) (is ∙ sym (part_by_part v w))

pub less_by_eq : (v : Value) (n : ℕ) → n < n + 2 * bulk v
less_by_eq v n = omega (arith, positive v)

-- two lists are the same if what is in them is
pub lists-begin : (a b : Value) (one other : Vec Value Global) (first second : Iter Value) → a ≡ ListValue one → b ≡ ListValue other → iter_rest first ≡ one.items → iter_rest second ≡ other.items → vals_agree (vals_view (iter_rest first)) (vals_view (iter_rest second)) ≡ val_agrees (view a) (view b)
lists-begin a b one other first second is_one is_other all_first all_second =
    rw (is_one, is_other, view-List one, view-List other, all_first, all_second) refl

pub lists-weigh : (a : Value) (one : Vec Value Global) (first : Iter Value) → a ≡ ListValue one → iter_rest first ≡ one.items → items_bulk (iter_rest first) + 1 ≡ bulk a
lists-weigh a one first is_one all_first = rw (is_one, weight-List one, all_first) refl

-- two maps are the same if what is in them is
pub maps-begin : (a b : Value) (one other : BTreeMap (String Global) Value) (first second : List Entry) → a ≡ MapValue one → b ≡ MapValue other → first ≡ one.entries → second ≡ other.entries → entries_agree (entries_view first) (entries_view second) ≡ val_agrees (view a) (view b)
maps-begin a b one other first second is_one is_other all_first all_second =
    rw (is_one, is_other, view-Map one, view-Map other, all_first, all_second) refl

pub maps-weigh : (a : Value) (one : BTreeMap (String Global) Value) (first : List Entry) → a ≡ MapValue one → first ≡ one.entries → entries_bulk first + 1 ≡ bulk a
maps-weigh a one first is_one all_first = rw (is_one, weight-Map one, all_first) refl

-- what is in them is yet to be compared
pub goes-in : (v w : Val) (outer all : List Pair) (pair : Pair) → agree_in pair ≡ val_agrees v w → all ≡ outer ++ pair ∷ [] → agree_all all ≡ (val_agrees v w && agree_all outer)
goes-in v w outer all pair begins pushed =
    ap agree_all pushed ∙ agree_all-push outer pair ∙ ap (λ b. b && agree_all outer) begins

pub less-in : (v : Value) (outer all : List Pair) (pair : Pair) → left_in pair + 1 ≡ bulk v → all ≡ outer ++ pair ∷ [] → work_of_pairs all < work_of_pairs outer + 2 * bulk v
less-in v outer all pair weighs pushed = omega (arith, ap work_of_pairs pushed, work-push outer pair, weighs)

-- ---- the innermost is the `n`th
parts : (ps : List Pair) (n : ℕ) (d : Pair) → n + 1 ≡ length ps → ps ≡ take n ps ++ get_or ps n d ∷ []
parts ps n d at = sym (take_all (n + 1) ps (omega arith)) ∙ take_more ps n d (omega arith)

parts-set : (ps : List Pair) (n : ℕ) (pair : Pair) → n + 1 ≡ length ps → set ps n pair ≡ take n ps ++ pair ∷ []
parts-set ps n pair at = sym (take_all (n + 1) (set ps n pair) (omega (arith, length-set ps n pair))) ∙ take_more_set ps n pair (omega arith)

agree_all-last : (ps : List Pair) (n : ℕ) (before : Pair) → n + 1 ≡ length ps → before ≡ get_or ps n before → agree_all ps ≡ (agree_in before && agree_all (take n ps))
agree_all-last ps n before at is_last =
    ap agree_all (parts ps n before at)
    ∙ agree_all-push (take n ps) (get_or ps n before)
    ∙ ap (λ p. agree_in p && agree_all (take n ps)) (sym is_last)

work-last : (ps : List Pair) (n : ℕ) (before : Pair) → n + 1 ≡ length ps → before ≡ get_or ps n before → work_of_pairs ps ≡ 2 * left_in before + 1 + work_of_pairs (take n ps)
work-last ps n before at is_last =
    ap work_of_pairs (parts ps n before at)
    ∙ work-push (take n ps) (get_or ps n before)
    ∙ ap (λ p. 2 * left_in p + 1 + work_of_pairs (take n ps)) (sym is_last)

agree_all-set : (ps : List Pair) (n : ℕ) (pair : Pair) → n + 1 ≡ length ps → agree_all (set ps n pair) ≡ (agree_in pair && agree_all (take n ps))
agree_all-set ps n pair at = ap agree_all (parts-set ps n pair at) ∙ agree_all-push (take n ps) pair

work-set : (ps : List Pair) (n : ℕ) (pair : Pair) → n + 1 ≡ length ps → work_of_pairs (set ps n pair) ≡ 2 * left_in pair + 1 + work_of_pairs (take n ps)
work-set ps n pair at = ap work_of_pairs (parts-set ps n pair at) ∙ work-push (take n ps) pair

-- ---- a step in the innermost
-- two values come next: they and all that is left then are what was left
pub goes-on : (ps : List Pair) (n : ℕ) (before after : Pair) (x y : Bor Value) → n + 1 ≡ length ps → before ≡ get_or ps n before → agree_in before ≡ agree_after (Both x y) (agree_in after) → (val_agrees (view x.now) (view y.now) && agree_all (set ps n after)) ≡ agree_all ps
goes-on ps n before after x y at is_last steps =
    let next = val_agrees (view x.now) (view y.now) in
    ap (λ b. next && b) (agree_all-set ps n after at)
    ∙ sym (and_assoc next (agree_in after) (agree_all (take n ps)))
    ∙ ap (λ b. b && agree_all (take n ps)) (sym steps)
    ∙ sym (agree_all-last ps n before at is_last)

pub less-on : (ps : List Pair) (n : ℕ) (before after : Pair) (x y : Bor Value) (left : ℕ) → n + 1 ≡ length ps → before ≡ get_or ps n before → left_after (Both x y) (left_in after) ≤ left_in before → left < work_of_pairs (set ps n after) + 2 * bulk x.now → left < work_of_pairs ps
less-on ps n before after x y left at is_last steps less = omega (arith, work-set ps n after at, work-last ps n before at is_last, steps, less)

-- both end: what was left is what is left of the others
pub goes-out : (ps all : List Pair) (n : ℕ) (before after : Pair) → n + 1 ≡ length ps → before ≡ get_or ps n before → agree_in before ≡ true → all ≡ take n (set ps n after) → agree_all all ≡ agree_all ps
goes-out ps all n before after at is_last steps popped =
    ap agree_all (popped ∙ take-set ps n after)
    ∙ ap (λ b. b && agree_all (take n ps)) (sym steps)
    ∙ sym (agree_all-last ps n before at is_last)

pub less-out : (ps all : List Pair) (n : ℕ) (before after : Pair) → n + 1 ≡ length ps → before ≡ get_or ps n before → all ≡ take n (set ps n after) → work_of_pairs all < work_of_pairs ps
less-out ps all n before after at is_last popped = omega (arith, ap work_of_pairs (popped ∙ take-set ps n after), work-last ps n before at is_last)

-- they differ: what was left isn't the same
pub differs : (ps : List Pair) (n : ℕ) (before : Pair) → n + 1 ≡ length ps → before ≡ get_or ps n before → agree_in before ≡ false → agree_all ps ≡ false
differs ps n before at is_last steps = agree_all-last ps n before at is_last ∙ ap (λ b. b && agree_all (take n ps)) steps

-- ---- the two values themselves
-- they are the same if they met, and all that is in them is the same
pub first_met : (v w : Val) (inside all : List Pair) (same : Bool) → inside ≡ [] → (same && agree_all all) ≡ (val_agrees v w && agree_all inside) → (same && agree_all all) ≡ val_agrees v w
first_met v w inside all same none met = met ∙ ap (λ ps. val_agrees v w && agree_all ps) none ∙ and-true (val_agrees v w)

-- nothing is left
pub all_done : (ps : List Pair) → length ps ≡ 0 → agree_all ps ≡ true
all_done [] none = refl
all_done (p ∷ ps) none = absurd (omega arith)

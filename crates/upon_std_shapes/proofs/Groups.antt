-- Lists of groups.
use Rattle.std.proofs.Common.{List, Bool, true, false, map, Some, None, refl, bytes_eq, if◌then◌else◌}
use Rattle.std.specs.Prelude.{codes}
use Rattle.std.specs.List.{AllByRecursion}
use Rattle.upon_types.specs.Same.{val_eq}
use Rattle.upon_types.specs.Val.{Val, list_val}
use Rattle.upon_types.specs.View.{vals_of}
use Rattle.upon_std.specs.Ordering.Distinct.{distinct}
use Rattle.upon_std.specs.Ordering.Grouping.{members, group_val, grouped}
use Rattle.upon_shape_spec.specs.Fits.{ByTest, Held, Fits}
use Rattle.upon_shape_spec.specs.Shape.{Shape, list_of, never}
use Rattle.upon_std_shapes.specs.Items.{group_shape}
use Rattle.upon_std_shapes.proofs.Each.{as_vals, all_filter, all_distinct, all_map}

-- what two keys have, and no others
of_two : (a b : Bool) (P Q R : Val → Type 0) (v w : Val) → P v → Q w
    → ByTest a (Held true P (if a then Some v else (if b then Some w else None))) (ByTest b (Held true Q (if a then Some v else (if b then Some w else None))) (Held false R (if a then Some v else (if b then Some w else None))))
of_two true b P Q R v w h k = h
of_two false true P Q R v w h k = k
of_two false false P Q R v w h k = tt

group_fits : (s t : Shape) (k : Val) (vs : List Val) → Fits t k → AllByRecursion (Fits s) vs → Fits (group_shape s t) (group_val k vs)
group_fits s t k vs h each =
    (refl, λ key. of_two (bytes_eq key (codes "items")) (bytes_eq key (codes "key")) (Fits (list_of s)) (Fits t) (Fits never) (list_val (vals_of vs)) k (as_vals (Fits s) vs each) h)

pub groups_fit : (s t : Shape) (key : Val → Val) → ((v : Val) → Fits s v → Fits t (key v)) → (vs : List Val) → AllByRecursion (Fits s) vs → AllByRecursion (Fits (group_shape s t)) (grouped key vs)
groups_fit s t key fits vs each =
    all_map (Fits t) (Fits (group_shape s t)) (λ k. group_val k (members key k vs))
    (λ k h. group_fits s t k (members key k vs) h (all_filter (Fits s) (λ v. val_eq (key v) k) vs each))
    (distinct val_eq (map key vs)) (all_distinct (Fits t) val_eq (map key vs) (all_map (Fits s) (Fits t) key fits vs each))

-- Lists in ascending order.
use Rattle.std.specs.Prelude.{◌≡◌, ℕ, Bool, List, [], ◌∷◌, Option, Some, None, Result, Ok, Err, Vec, String, map, option_map, string_bytes, if◌then◌else◌}
use Rattle.std.specs.declared.alloc.Global.{Global}
use Rattle.std.specs.declared.cmp.Ordering.{Ordering}
use Rattle.std.specs.Ordering.{is_lt, is_some_and}
use Rattle.upon_types.specs.Val.{Val}
use Rattle.upon_types.specs.View.{view}
use Rattle.upon_types.specs.declared.value.Value.{Value}
use Rattle.upon_std.specs.Basic.Order.{order_of, unordered}

-- an element put before the first that is not below it
abbrev pub inserted : {X : Type 0} → (X → X → Bool) → X → List X → List X
inserted lt x [] = x ∷ []
inserted lt x (y ∷ ys) = if lt y x then y ∷ inserted lt x ys else x ∷ y ∷ ys

-- the elements in ascending order; those of which none is below the other stay in their order
abbrev pub ascending : {X : Type 0} → (X → X → Bool) → List X → List X
ascending lt [] = []
ascending lt (x ∷ xs) = inserted lt x (ascending lt xs)

-- whether a value is below another, by the order of integers and of texts
abbrev pub is_below : Val → Val → Bool
is_below v w = is_some_and is_lt (order_of v w)

-- a value that has no order with another, else what comes later
abbrev pub unless_ordered : Option Ordering → Val → Option Val → Option Val
unless_ordered (Some order) w later = later
unless_ordered None w later = Some w

-- the first of values that cannot be compared with another value
abbrev pub first_unlike : Val → List Val → Option Val
first_unlike v [] = None
first_unlike v (w ∷ ws) = unless_ordered (order_of v w) w (first_unlike v ws)

-- the refusal of keys of which one cannot be compared with the first
abbrev pub keys_refusal : List Val → Option (List ℕ)
keys_refusal [] = None
keys_refusal (k ∷ ks) = option_map (unordered k) (first_unlike k ks)

-- values, unless there is a refusal
abbrev pub values_or_refusal : Option (List ℕ) → List Val → Result (List Val) (List ℕ)
values_or_refusal None vs = Ok vs
values_or_refusal (Some text) vs = Err text

-- the values in ascending order of their keys, or the refusal of their keys
abbrev pub sorted_by : (Val → Val) → List Val → Result (List Val) (List ℕ)
sorted_by key vs = values_or_refusal (keys_refusal (map key vs)) (ascending (λ v w. is_below (key v) (key w)) vs)

-- what was made of a list is its values in order, or the refusal to sort them
abbrev pub IsSortedList : Result (Vec Value Global) (String Global) → Result (List Val) (List ℕ) → Type 0
IsSortedList (Ok made) sorted = sorted ≡ Ok (map view made.items)
IsSortedList (Err text) sorted = sorted ≡ Err (string_bytes text)

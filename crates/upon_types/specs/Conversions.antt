-- What rows of items and of entries become, if each item has a conversion of its own.
use Rattle.std.specs.Prelude.{◌≡◌, ℕ, List, [], ◌∷◌, Option, Some, None, IsTrue, String, string_bytes, bytes_eq, if◌then◌else◌}
use Rattle.std.specs.declared.alloc.Global.{Global}
use Rattle.upon_types.specs.Val.{Val, list_val, map_val, entry_at, rises}
use Rattle.upon_types.specs.View.{view, vals_view}
use Rattle.upon_types.specs.declared.value.Value.{Value}

-- each item becomes the value of its index
abbrev pub EachConverts : {A : Type 0} → (A → Value → Type 0) → List A → List Value → Type 0
EachConverts converts [] [] = Unit {0}
EachConverts converts [] (v ∷ vs) = ⊥
EachConverts converts (x ∷ xs) [] = ⊥
EachConverts converts (x ∷ xs) (v ∷ vs) = converts x v × EachConverts converts xs vs

-- the value is the list of what the items become
abbrev pub IsListOf : {A : Type 0} → (A → Value → Type 0) → List A → Val → Type 0
IsListOf converts xs v = (vs : List Value) × EachConverts converts xs vs × (v ≡ list_val (vals_view vs))

-- keys with the values of their indices
abbrev pub pairs_of : {A : Type 0} → List (String Global × A) → List Value → List (List ℕ × Val)
pairs_of [] vs = []
pairs_of (e ∷ es) [] = []
pairs_of (e ∷ es) (v ∷ vs) = (string_bytes e.0, view v) ∷ pairs_of es vs

-- the first of two, where it is there
abbrev pub or_else : {A : Type 0} → Option A → Option A → Option A
or_else (Some x) other = Some x
or_else None other = other

-- the last value that is paired with a key
abbrev pub last_at : List ℕ → List (List ℕ × Val) → Option Val
last_at key [] = None
last_at key (p ∷ pairs) = or_else (last_at key pairs) (if bytes_eq key p.0 then Some p.1 else None)

-- the entries of a map that is made of pairs: the keys ascend, and at each key is the last value that is paired with it
abbrev pub HoldsLast : List (List ℕ × Val) → Val → Type 0
HoldsLast pairs (map_val es) = IsTrue (rises es) × ((key : List ℕ) → entry_at key es ≡ last_at key pairs)
HoldsLast pairs v = ⊥

-- an entry with its value converted
abbrev pub converts_entry : {A : Type 0} → (A → Value → Type 0) → String Global × A → Value → Type 0
converts_entry converts e v = converts e.1 v

-- the value is the map of what the entries become
abbrev pub IsMapOf : {A : Type 0} → (A → Value → Type 0) → List (String Global × A) → Val → Type 0
IsMapOf converts es v = (vs : List Value) × EachConverts (converts_entry converts) es vs × HoldsLast (pairs_of es vs) v

-- Limits that may be set: what is beyond one, what is within it, and what is left of it.
use Rattle.std.specs.Prelude.{◌≡◌, ◌+◌, ◌<◌, ◌≤◌, ◌||◌, ℕ, List, length, Bool, Option, Some, None, is_some}
use Rattle.std.specs.Io.KnownBytes.{Appends}
use Rattle.upon_vm.specs.declared.limits.Limits.{Limits}

-- whether a limit is set
abbrev pub is_limited : Limits → Bool
is_limited limits = (is_some limits.steps || is_some limits.output) || is_some limits.values

-- so many are more than the limit, which is set
abbrev pub Exceeds : Option ℕ → ℕ → Type 0
Exceeds None count = ⊥
Exceeds (Some limit) count = limit < count

-- so many are no more than the limit, if it is set
abbrev pub AtMost : Option ℕ → ℕ → Type 0
AtMost None count = Unit {0}
AtMost (Some limit) count = count ≤ limit

-- after so many this is left of the limit, if it is set
abbrev pub Leaves : Option ℕ → ℕ → Option ℕ → Type 0
Leaves None count None = Unit {0}
Leaves None count (Some left) = ⊥
Leaves (Some limit) count None = ⊥
Leaves (Some limit) count (Some left) = count + left ≡ limit

-- a text was received that has no more bytes than the limit, if it is set
abbrev pub GrowsWithin : Option ℕ → Option (List ℕ) → Option (List ℕ) → Type 0
GrowsWithin limit old new = (text : List ℕ) × AtMost limit (length text) × Appends old new text

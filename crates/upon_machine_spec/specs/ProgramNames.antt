-- The names that a program takes from outside, and the templates that it includes: found in a walk along its
-- instructions, which counts open blocks.
use Rattle.std.specs.Prelude.{◌≡◌, ℕ, zero, suc, ◌+◌, ◌-◌, leb, List, [], ◌∷◌, filter_map, Option, Some, None, Bool, true, false, ◌||◌, bytes_eq, codes, if◌then◌else◌}
use Rattle.std.specs.List.{list_any}
use Rattle.upon_types.specs.Path.{Access, by_index, by_key, LoopVars, item, key_value}
use Rattle.upon_machine_spec.specs.Instr.{Instr, jump, loop_start, with_start, with_end, include, include_with, expr_start_var}

-- a loop binds the name: by a variable, or as its state
abbrev pub loop_binds : List ℕ → LoopVars → Bool
loop_binds name (item word) = bytes_eq (codes "loop") name || bytes_eq word.text name
loop_binds name (key_value key value both) =
    bytes_eq (codes "loop") name || (bytes_eq key.text name || bytes_eq value.text name)

-- of the open blocks, how many there are from the outermost on that binds the name: one more block, which binds it or
-- not
abbrev pub block_begins : Bool → ℕ → ℕ
block_begins binds zero = if binds then 1 else 0
block_begins binds (suc n) = suc (suc n)

-- that number after an instruction, which has this number; a jump back ends a loop
abbrev pub count_after : List ℕ → ℕ → Instr → ℕ → ℕ
count_after name at (with_start word) n = block_begins (bytes_eq word.text name) n
count_after name at with_end n = n - 1
count_after name at (loop_start names span) n = block_begins (loop_binds name names) n
count_after name at (jump to) n = if leb to at then n - 1 else n
count_after name at i n = n

-- the instructions, the first of which has this number, that no open block binds the name for; so many are open at
-- first
abbrev pub unbound : List ℕ → ℕ → ℕ → List Instr → List Instr
unbound name at n [] = []
unbound name at zero (i ∷ is) = i ∷ unbound name (at + 1) (count_after name at i zero) is
unbound name at (suc n) (i ∷ is) = unbound name (at + 1) (count_after name at i (suc n)) is

-- the name that begins a path; an index is none
abbrev pub key_name : Access → Option (List ℕ)
key_name (by_index n span) = None
key_name (by_key word) = Some word.text

-- the name that begins an instruction's path
abbrev pub path_name : Instr → Option (List ℕ)
path_name (expr_start_var first rest) = key_name first.access
path_name i = None

-- the name is this one
abbrev pub is_this : List ℕ → Option (List ℕ) → Bool
is_this name None = false
is_this name (Some other) = bytes_eq name other

-- the name of the template that an instruction includes without a value
abbrev pub plain_include : Instr → Option (List ℕ)
plain_include (include word) = Some word.text
plain_include i = None

-- the name of the template that an instruction includes
abbrev pub any_include : Instr → Option (List ℕ)
any_include (include word) = Some word.text
any_include (include_with word) = Some word.text
any_include i = None

-- whether the name begins a path outside of the blocks that bind it
abbrev pub begins : List ℕ → List Instr → Bool
begins name code = list_any (λ i. is_this name (path_name i)) (unbound name 0 0 code)

-- the templates that are included without a value, outside of the blocks that bind the name
abbrev pub passes_on : List ℕ → List Instr → List (List ℕ)
passes_on name code = filter_map plain_include (unbound name 0 0 code)

-- the templates that are included
abbrev pub includes : List Instr → List (List ℕ)
includes code = filter_map any_include code

-- a name is among some
abbrev pub IsListed : List (List ℕ) → List ℕ → Type 0
IsListed names name = list_any (bytes_eq name) names ≡ true

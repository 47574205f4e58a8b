-- What a value weighs, about the bytes that it takes with all that is in it; and what a step makes, by that measure.
use Rattle.std.specs.Prelude.{ℕ, ◌+◌, ◌-◌, ◌^◌, List, [], ◌∷◌, length, min, Bool, true, not, if◌then◌else◌, Option, Some, slice_get}
use Rattle.upon_types.specs.Val.{Val, none_val, bool_val, int_val, text_val, list_val, map_val, Vals, no_vals, val_then, Entries, no_entries, entry_then}
use Rattle.upon_types.specs.Walk.{ValuePart, leaf, list_begins, item_begins, list_ends, map_begins, entry_begins, map_ends}
use Rattle.upon_meaning_spec.specs.Evaluation.{Operand}
use Rattle.upon_machine_spec.specs.Instr.{Instr, expr_start_var, expr_list_push, expr_map_insert, apply}
use Rattle.upon_machine_spec.specs.State.{State}
use Rattle.upon_machine_spec.specs.Step.{Next, goes, stops, stuck}
use Rattle.upon_vm.specs.Lending.{Lending, lending_on}

abbrev mutual
  -- 32, and the bytes of a text; of a list what its items weigh, of a map what its entries weigh
  pub weight_of : Val → ℕ
  weight_of none_val = 32
  weight_of (bool_val b) = 32
  weight_of (int_val n) = 32
  weight_of (text_val bytes) = 32 + length bytes
  weight_of (list_val vs) = 32 + weight_of_vals vs
  weight_of (map_val es) = 32 + weight_of_entries es

  -- what these values weigh
  pub weight_of_vals : Vals → ℕ
  weight_of_vals no_vals = 0
  weight_of_vals (val_then v vs) = weight_of v + weight_of_vals vs

  -- for each entry 32 and the bytes of its key, and what its value weighs
  pub weight_of_entries : Entries → ℕ
  weight_of_entries no_entries = 0
  weight_of_entries (entry_then key v es) = ((32 + length key) + weight_of v) + weight_of_entries es

-- what a value weighs without the items or the entries that are in it: 32, and the bytes of a text
abbrev pub weight_at_top : Val → ℕ
weight_at_top (text_val bytes) = 32 + length bytes
weight_at_top v = 32

-- what a part of a value weighs: a value in which there is no other, as it weighs alone; the begin of a list or a map
-- 32, and that of an entry 32 and the bytes of its key
abbrev pub weight_of_part : ValuePart → ℕ
weight_of_part (leaf v) = weight_at_top v
weight_of_part list_begins = 32
weight_of_part (item_begins is_first) = 0
weight_of_part list_ends = 0
weight_of_part map_begins = 32
weight_of_part (entry_begins key is_first) = 32 + length key
weight_of_part map_ends = 0

-- what these parts weigh
abbrev pub weight_of_parts : List ValuePart → ℕ
weight_of_parts [] = 0
weight_of_parts (piece ∷ pieces) = weight_of_part piece + weight_of_parts pieces

-- a number as it is counted: the greatest one that a count can be, if it is more than that
abbrev pub as_count : ℕ → ℕ
as_count n = min n (2 ^ 64 - 1)

-- what the operand on top weighs, if it is copied
abbrev pub copy_weight : Bool → List Operand → ℕ
copy_weight copied [] = 0
copy_weight copied (o ∷ ops) = if copied then weight_of o.value else 0

-- the bytes that an instruction puts into a list or a map: the place of an item, or of an entry with its key; and the
-- operand on top, if it is copied
abbrev pub put_in : Bool → Option Instr → List Operand → ℕ
put_in copied (Some expr_list_push) ops = 32 + copy_weight copied ops
put_in copied (Some (expr_map_insert key)) ops = (32 + length key.text) + copy_weight copied ops
put_in copied instr ops = 0

-- the bytes that an instruction left on top: what a path leads to, if it starts a variable with a copy of that; what a
-- function gave, if it applies a callable, since that is owned always
abbrev pub started : Bool → Option Instr → List Operand → ℕ
started copied (Some (expr_start_var first rest)) ops = copy_weight copied ops
started copied (Some (apply name n span)) ops = copy_weight true ops
started copied instr ops = 0

-- the bytes of values that a step makes from one state to the next, where this is lent: what is lent is copied when it
-- is put in, and what is not is copied when a path leads to it
abbrev pub made_by : {V T : Type 0} → Lending → State V T → State V T → ℕ
made_by lending s next =
    let instr = slice_get s.active.code s.position in
    put_in lending.top instr s.operands + started (not (lending_on lending s next).top) instr next.operands

-- the same of a step, whatever it does: one that ends the run makes none
abbrev pub made_by_next : {V T : Type 0} → Lending → State V T → Next V T → ℕ
made_by_next lending s (goes text next) = made_by lending s next
made_by_next lending s (stops text end q) = 0
made_by_next lending s stuck = 0

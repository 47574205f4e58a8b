-- What is lent at a point of a run: what the context has and what stands in a template, with all that is in it. What a
-- template makes is not lent.
use Rattle.std.specs.Prelude.{ℕ, ◌-◌, ◌==◌, ◌||◌, List, [], ◌∷◌, ◌++◌, length, map, take, Bool, true, false, if◌then◌else◌, Option, Some, None, bytes_eq, codes, slice_get}
use Rattle.upon_types.specs.AstPath.{ident_of, loop_vars_of}
use Rattle.upon_types.specs.Path.{Access, by_index, by_key, Ident, LoopVars, item, key_value}
use Rattle.upon_machine_spec.specs.Instr.{Instr, expr_start_literal, expr_start_var, include, include_with, loop_next, loop_next_else, loop_start, with_end, with_start}
use Rattle.upon_machine_spec.specs.State.{State}
use Rattle.upon_vm.specs.declared.lending.Lender.{Lender as CodeLender}
use Rattle.upon_vm.specs.declared.lending.Lender.TheVariants.{Open, Context, Name, Loop}
use Rattle.upon_vm.specs.declared.lending.Lending.{Lending as CodeLending}

-- What an open block binds, and whether that is lent: an include that sees all names binds nothing; one with a context
-- of its own hides all others; `with` binds a name; a loop binds its names, and its items are lent or not.
pub data Lender : Type 0 where
  sees_all : Lender
  hides_all : Bool → Lender
  binds_name : Ident → Bool → Lender
  binds_item : LoopVars → Bool → Lender

-- whether the operand on top is lent, and what the open blocks bind, the outermost first
pub record Lending : Type 0 where
  pub top : Bool
  pub lenders : List Lender

-- at the start of a run
abbrev pub nothing_bound : Lending
nothing_bound = record { top = false; lenders = [] }

-- whether a path begins with a name
abbrev pub path_begins : Access → List ℕ → Bool
path_begins (by_index n span) text = false
path_begins (by_key word) text = bytes_eq word.text text

-- Whether what a path finds is lent, where a loop's item binds these names: an item, and the value of an entry, is if
-- the items are; the key of an entry is made. Of another name it is as below.
abbrev pub item_lends : LoopVars → Bool → Access → Bool → Bool
item_lends (item word) lent first below = if path_begins first word.text then lent else below
item_lends (key_value key value span) lent first below =
    if path_begins first key.text then false else (if path_begins first value.text then lent else below)

-- whether what a path finds is lent, where a block is open and this is so of what is below; the state of a loop is made
abbrev pub lender_lends : Lender → Access → Bool → Bool
lender_lends sees_all first below = below
lender_lends (hides_all lent) first below = lent
lender_lends (binds_name word lent) first below = if path_begins first word.text then lent else below
lender_lends (binds_item vars lent) first below =
    if path_begins first (codes "loop") then false else item_lends vars lent first below

-- whether what a path finds is lent, where these blocks are open, the outermost first
abbrev pub lenders_lend : Bool → List Lender → Access → Bool
lenders_lend below [] first = below
lenders_lend below (lender ∷ lenders) first = lenders_lend (lender_lends lender first below) lenders first

-- whether the operand on top is lent after an instruction: what a path finds, as the open blocks say, and a literal;
-- what the context has is lent
abbrev pub lends_top : List Lender → Option Instr → Bool
lends_top lenders (Some (expr_start_var first rest)) = lenders_lend true lenders first.access
lends_top lenders (Some (expr_start_literal v span)) = true
lends_top lenders instr = false

-- without the innermost
abbrev pub closed : List Lender → List Lender
closed lenders = take (length lenders - 1) lenders

-- without the innermost, if that is over
abbrev pub closed_if : Bool → List Lender → List Lender
closed_if over lenders = if over then closed lenders else lenders

-- The blocks that are open after an instruction, where the operand on top was lent or not before it, and the run goes
-- on at an instruction of this number: a loop is over if it goes to its end. After a template's last instruction its
-- include is over.
abbrev pub lenders_after : Bool → List Lender → Option Instr → ℕ → List Lender
lenders_after top lenders (Some (loop_start vars span)) at = lenders ++ binds_item vars top ∷ []
lenders_after top lenders (Some (with_start word)) at = lenders ++ binds_name word top ∷ []
lenders_after top lenders (Some (include_with word)) at = lenders ++ hides_all top ∷ []
lenders_after top lenders (Some (include word)) at = lenders ++ sees_all ∷ []
lenders_after top lenders (Some with_end) at = closed lenders
lenders_after top lenders (Some (loop_next end)) at = closed_if (at == end) lenders
lenders_after top lenders (Some (loop_next_else other past)) at = closed_if ((at == other) || (at == past)) lenders
lenders_after top lenders None at = closed lenders
lenders_after top lenders instr at = lenders

-- what is lent after an instruction, where the run goes on at an instruction of this number
abbrev pub lending_after : Lending → Option Instr → ℕ → Lending
lending_after lending instr at =
    record { top = lends_top lending.lenders instr; lenders = lenders_after lending.top lending.lenders instr at }

-- what is lent after a step from one state to the next
abbrev pub lending_on : {V T : Type 0} → Lending → State V T → State V T → Lending
lending_on lending s next = lending_after lending (slice_get s.active.code s.position) next.position

-- ---- as the code has it
-- an open block of the code
abbrev pub lender_of : CodeLender → Lender
lender_of Open = sees_all
lender_of (Context lent) = hides_all lent
lender_of (Name word lent) = binds_name (ident_of word.now) lent
lender_of (Loop vars lent) = binds_item (loop_vars_of vars.now) lent

-- what is lent by the code
abbrev pub lending_of : CodeLending → Lending
lending_of lending = record { top = lending.is_top_lent; lenders = map lender_of lending.lenders.items }

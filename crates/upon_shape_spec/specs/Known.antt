-- What is known at an instruction of a program: of the operands, of names, and of the blocks that are open.
use Rattle.std.specs.Prelude.{ℕ, List, [], ◌∷◌, Option, Some, None, Bool, true, false, leb, if◌then◌else◌}
use Rattle.upon_types.specs.declared.types.Span.{Span}
use Rattle.upon_types.specs.Path.{Member}
use Rattle.upon_shape_spec.specs.Narrowed.{narrowed_scope}
use Rattle.upon_shape_spec.specs.Scope.{Scope}
use Rattle.upon_shape_spec.specs.Shape.{Shape}

-- a path, by its first member and the others
pub record KnownPath : Type 0 where
  pub first : Member
  pub rest : List Member

-- an operand: its shape, if it is sure to come to something; its place; and the path that it was found by, if it was
pub record KnownOperand : Type 0 where
  pub shape : Option Shape
  pub place : Span
  pub path : Option KnownPath

-- A block that is open: the body of an `if`, with the number of the instruction after it, the scope of the other case
-- and the one around; the other case of an `if`, with that number and the scope around; or what binds names, with the
-- scope around.
pub data Open : Type 0 where
  body_to : ℕ → Scope → Scope → Open
  other_to : ℕ → Scope → Open
  binding : Scope → Open

-- operands and open blocks, the first of which is on top or the innermost, and the scope
pub record Known : Type 0 where
  pub operands : List KnownOperand
  pub scope : Scope
  pub opens : List Open

-- these operands, this scope and these blocks
abbrev pub known : List KnownOperand → Scope → List Open → Known
known os scope opens = record { operands = os; scope = scope; opens = opens }

-- at the begin of a program
abbrev pub known_at_begin : Scope → Known
known_at_begin scope = known [] scope []

-- an operand
abbrev pub known_operand : Option Shape → Span → Option KnownPath → KnownOperand
known_operand shape at path = record { shape = shape; place = at; path = path }

-- with other operands
abbrev pub with_operands : List KnownOperand → Known → Known
with_operands os k = record k { operands = os }

-- one operand more
abbrev pub with_operand : KnownOperand → Known → Known
with_operand o k = record k { operands = o ∷ k.operands }

-- where what an operand was found by was tested, and was so
abbrev pub path_tested : Bool → Option KnownPath → Scope → Scope
path_tested true (Some path) scope = narrowed_scope path.first path.rest scope
path_tested true None scope = scope
path_tested false path scope = scope

-- of two shapes, if both are known
abbrev pub both_shapes : (Shape → Shape → Shape) → Option Shape → Option Shape → Option Shape
both_shapes of None t = None
both_shapes of (Some s) None = None
both_shapes of (Some s) (Some t) = Some (of s t)

-- the scope around a block
abbrev pub around : Open → Scope
around (body_to n other outer) = outer
around (other_to n outer) = outer
around (binding outer) = outer

-- the block has ended where the instruction of this number begins
abbrev pub has_ended : ℕ → Open → Bool
has_ended at (body_to n other outer) = leb n at
has_ended at (other_to n outer) = leb n at
has_ended at (binding outer) = false

-- the blocks are left that have ended where the instruction of this number begins
abbrev pub left_at : ℕ → List KnownOperand → Scope → List Open → Known
left_at at os scope [] = known os scope []
left_at at os scope (block ∷ opens) =
    if has_ended at block then left_at at os (around block) opens else known os scope (block ∷ opens)

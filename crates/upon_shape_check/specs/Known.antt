-- What the state of a walk denotes.
use Rattle.std.specs.Prelude.{ℕ, List, [], ◌∷◌, Bool, true, false, drop, option_map}
use Rattle.upon_types.specs.AstPath.{first_member, rest_members}
use Rattle.upon_types.specs.declared.types.ast.path.Var.{Var}
use Rattle.upon_shape_spec.specs.Scope as spec_scope
use Rattle.upon_shape.specs.View.{shape_view}
use Rattle.upon_shape_spec.specs.Known as spec
use Rattle.upon_shape_check.specs.Rows.{on_top}
use Rattle.upon_shape_check.specs.Scope.{scope_view}
use Rattle.upon_shape_check.specs.Undo.{undone}
use Rattle.upon_shape_check.specs.declared.known.Block.{Block}
use Rattle.upon_shape_check.specs.declared.known.Block.TheVariants.{Body, Other, Names}
use Rattle.upon_shape_check.specs.declared.known.Known.{Known}
use Rattle.upon_shape_check.specs.declared.known.Operand.{Operand}

-- a path
abbrev pub path_view : Var → spec.KnownPath
path_view path = record { first = first_member path; rest = rest_members path }

-- an operand
abbrev pub operand_view : Operand → spec.KnownOperand
operand_view o = spec.known_operand (option_map shape_view o.shape) o.place
    (option_map (λ path. path_view path.now) o.path)

-- operands, of which the last is on top
abbrev pub operands_view : List Operand → List spec.KnownOperand
operands_view os = on_top operand_view os []

-- the scope around a block, from the one inside
abbrev pub outside : Block → spec_scope.Scope → spec_scope.Scope
outside (Body end undo other) scope = undone undo scope
outside (Other end undo) scope = undone undo scope
outside (Names count) scope = record scope { names = drop count scope.names }

-- a block, by the scope around it
abbrev pub open_view : Block → spec_scope.Scope → spec.Open
open_view (Body end undo other) outer =
    spec.body_to end (spec.path_tested true (option_map (λ path. path_view path.now) other) outer) outer
open_view (Other end undo) outer = spec.other_to end outer
open_view (Names count) outer = spec.binding outer

-- blocks, the innermost first, inside which the scope is this
abbrev pub opens_within : spec_scope.Scope → List Block → List spec.Open
opens_within scope [] = []
opens_within scope (block ∷ blocks) =
    open_view block (outside block scope) ∷ opens_within (outside block scope) blocks

-- blocks, the last of which is the innermost
abbrev pub opens_view : spec_scope.Scope → List Block → List spec.Open
opens_view scope blocks = opens_within scope (on_top (λ block. block) blocks [])

-- the state
abbrev pub known_view : Known → spec.Known
known_view k = spec.known (operands_view k.operands.items) (scope_view k.scope)
    (opens_view (scope_view k.scope) k.blocks.items)

-- a block is open of which the innermost has ended where the instruction of this number begins
abbrev pub ends_at : ℕ → List spec.Open → Bool
ends_at at [] = false
ends_at at (block ∷ opens) = spec.has_ended at block

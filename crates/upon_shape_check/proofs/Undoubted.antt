-- A template of which nothing is in doubt along its program is accepted.
use Rattle.std.proofs.Common.{◌≡◌, List, [], sym, ◌∙◌}
use Rattle.upon_types.specs.Tree.{Statements}
use Rattle.upon_machine_spec.specs.Code.{program_of}
use Rattle.upon_shape_spec.specs.Accepted.{StatementsAccepted, IncludedBy, Planned, is_planned}
use Rattle.upon_shape_spec.specs.Declared.{Declared}
use Rattle.upon_shape_spec.specs.Doubts.{Doubt}
use Rattle.upon_shape_spec.specs.Scope.{Scope}
use Rattle.upon_shape_spec.proofs.NoDoubts.{accepted_undoubted}
use Rattle.upon_shape_spec.specs.Known.{known_at_begin}
use Rattle.upon_shape_spec.specs.ProgramDoubts.{program_doubts}
use Rattle.upon_shape_spec.proofs.Statements.{tree_doubts}

pub accepted_if_sure : (declared : Declared) (plan : List Planned) (scope : Scope) (tree : Statements) (doubts : List Doubt)
    → doubts ≡ program_doubts declared (is_planned plan) 0 (known_at_begin scope) (program_of tree)
    → doubts ≡ [] → StatementsAccepted declared (IncludedBy plan) scope tree
accepted_if_sure declared plan scope tree doubts same none =
    (accepted_undoubted declared (is_planned plan) scope tree).0
    (sym (tree_doubts declared (is_planned plan) scope tree) ∙ sym same ∙ none)

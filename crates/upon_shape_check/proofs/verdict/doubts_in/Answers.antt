use Rattle.std.proofs.Common.{◌≡◌, List, Option, ap, subst, ◌∙◌}
use Rattle.upon_meaning_spec.specs.Engine.{Template}
use Rattle.upon_machine_spec.specs.Code.{program_of}
use Rattle.upon_machine_spec.specs.Instr.{Instr}
use Rattle.upon_shape_spec.specs.Accepted.{OnSome, StatementsAccepted, IncludedBy, is_planned}
use Rattle.upon_shape_spec.specs.Doubts.{statements_doubts}
use Rattle.upon_shape_spec.specs.Scope.{Scope}
use Rattle.upon_shape_spec.specs.Known.{known_at_begin}
use Rattle.upon_shape_spec.specs.ProgramDoubts.{program_doubts}
use Rattle.upon_shape_check.specs.Callables.{declared_view}
use Rattle.upon_shape_check.specs.Doubt.{doubts_view}
use Rattle.upon_shape_check.specs.Plan.{plan_view}
use Rattle.upon_shape_check.specs.Scope.{scope_view}
use Rattle.upon_engine.specs.TemplateRef.{ref_template}
use Rattle.upon_shape_spec.proofs.Statements.{tree_doubts}
use Rattle.upon_shape_check.proofs.Undoubted.{accepted_if_sure}
use Rattle.upon_shape_check.proofs.verdict.doubts_in.Goals as goal

pub returns-in-Ok-clause-accepted : goal.returns-in-Ok-clause-accepted
returns-in-Ok-clause-accepted g c = λ none.
    let declared = declared_view c.args.declared.now in
    let plan = plan_view c.args.plan.now in
    let scope = scope_view c.args.planned.now.scope in
    let tree = (ref_template c.in-Some.template).tree in
    let sure = accepted_if_sure declared plan scope tree (doubts_view c.in-Ok.doubts.items)
    (c.in-Ok.ensures.doubts ∙ ap (λ (is : List Instr). program_doubts declared (is_planned plan) 0 (known_at_begin (scope_view c.in_ok-scope.scope)) is) c.instrs.ensures
    ∙ ap (λ (s : Scope). program_doubts declared (is_planned plan) 0 (known_at_begin s) (program_of tree)) c.in_ok-scope.ensures)
    (ap doubts_view none) in
    subst (λ (o : Option Template). OnSome o (λ t. StatementsAccepted declared (IncludedBy plan) scope t.tree)) c.in-Some.ensures.template sure

pub returns-in-Ok-clause-told : goal.returns-in-Ok-clause-told
returns-in-Ok-clause-told g c =
    let declared = declared_view c.args.declared.now in
    let plan = plan_view c.args.plan.now in
    let scope = scope_view c.args.planned.now.scope in
    let tree = (ref_template c.in-Some.template).tree in
    let told = c.in-Ok.ensures.doubts ∙ ap (λ (is : List Instr). program_doubts declared (is_planned plan) 0 (known_at_begin (scope_view c.in_ok-scope.scope)) is) c.instrs.ensures
    ∙ ap (λ (s : Scope). program_doubts declared (is_planned plan) 0 (known_at_begin s) (program_of tree)) c.in_ok-scope.ensures
    ∙ tree_doubts declared (is_planned plan) scope tree in
    subst (λ (o : Option Template). OnSome o (λ t. doubts_view c.in-Ok.doubts.items ≡ statements_doubts declared (is_planned plan) scope t.tree)) c.in-Some.ensures.template told

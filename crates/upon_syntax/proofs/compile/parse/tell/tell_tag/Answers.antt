use Rattle.std.proofs.Common.{refl, ap, sym, ◌∙◌}
use Rattle.std.proofs.lemmas.Result.{IfOk-equal}
use Rattle.upon_types.specs.AstPath.{string_of}
use Rattle.upon_types.specs.Expression.{expression_span}
use Rattle.upon_compiler.specs.After.{after_event}
use Rattle.upon_compiler.specs.Compiler.{compiler_state}
use Rattle.upon_compiler.specs.Events.{else_if_event, include_with_event}
use Rattle.upon_tag_parser.specs.BlockTags.{tag_code}
use Rattle.upon_syntax.specs.Told.{tag_event}
use Rattle.upon_syntax.proofs.Told.{holds_on_ok, none_left, opening_told}
use Rattle.upon_syntax.proofs.compile.parse.tell.tell_tag.Goals as goal

pub returns-in-If-clause-state : goal.returns-in-If-clause-state
returns-in-If-clause-state c = λ told keeps code.
    let kept = rw c.in-If.is at keeps in
    let old = compiler_state c.args.compiler.now in
    let at = expression_span kept.0 in
    let event = opening_told told _ kept.0 at _ kept.1 refl code in
    IfOk-equal c.begin_if.result _ _ _ (c.begin_if.ensures.state at) (ap (λ e. after_event e old) event)

pub returns-in-ElseIf-clause-state : goal.returns-in-ElseIf-clause-state
returns-in-ElseIf-clause-state c = λ told keeps code.
    let kept = rw c.in-ElseIf.is at keeps in
    let old = compiler_state c.args.compiler.now in
    let event = ap (else_if_event c.in-ElseIf.not) (code ∙ ap tag_code kept.1) ∙ ap tag_event (sym kept.1) in
    IfOk-equal c.else_if.result _ _ _ c.else_if.ensures.state (ap (λ e. after_event e old) event)

pub returns-in-Else-clause-state : goal.returns-in-Else-clause-state
returns-in-Else-clause-state c = λ told keeps code.
    let kept = rw c.in-Else.is at keeps in
    let old = compiler_state c.args.compiler.now in
    IfOk-equal c.begin_else.result _ _ _ c.begin_else.ensures (ap (λ t. after_event (tag_event t) old) (sym kept))

pub returns-in-Else-clause-moved : goal.returns-in-Else-clause-moved
returns-in-Else-clause-moved c = λ told keeps code.
    let kept = rw c.in-Else.is at keeps in
    holds_on_ok c.begin_else.result (none_left c.args.code.now.items (code ∙ ap tag_code kept))

pub returns-in-For-clause-state : goal.returns-in-For-clause-state
returns-in-For-clause-state c = λ told keeps code.
    let kept = rw c.in-For.is at keeps in
    let old = compiler_state c.args.compiler.now in
    let event = opening_told told _ kept.0 _ _ kept.1 kept.2 code in
    IfOk-equal c.begin_for.result _ _ _ c.begin_for.ensures.state (ap (λ e. after_event e old) event)

pub returns-in-End-clause-state : goal.returns-in-End-clause-state
returns-in-End-clause-state c = λ told keeps code.
    let kept = rw c.in-End.is at keeps in
    let old = compiler_state c.args.compiler.now in
    IfOk-equal c.tell_end.result _ _ _ c.tell_end.ensures (ap (λ t. after_event (tag_event t) old) (sym kept))

pub returns-in-End-clause-moved : goal.returns-in-End-clause-moved
returns-in-End-clause-moved c = λ told keeps code.
    let kept = rw c.in-End.is at keeps in
    holds_on_ok c.tell_end.result (none_left c.args.code.now.items (code ∙ ap tag_code kept))

pub returns-in-With-clause-state : goal.returns-in-With-clause-state
returns-in-With-clause-state c = λ told keeps code.
    let kept = rw c.in-With.is at keeps in
    let old = compiler_state c.args.compiler.now in
    let at = expression_span kept.0 in
    let event = opening_told told _ kept.0 at _ kept.1 refl code in
    IfOk-equal c.begin_with.result _ _ _ (c.begin_with.ensures.state at) (ap (λ e. after_event e old) event)

pub returns-in-Include-clause-state : goal.returns-in-Include-clause-state
returns-in-Include-clause-state c = λ told keeps code.
    let kept = rw c.in-Include.is at keeps in
    let old = compiler_state c.args.compiler.now in
    IfOk-equal c.include.result _ _ _ c.include.ensures (ap (λ t. after_event (tag_event t) old) (sym kept))

pub returns-in-Include-clause-moved : goal.returns-in-Include-clause-moved
returns-in-Include-clause-moved c = λ told keeps code.
    let kept = rw c.in-Include.is at keeps in
    holds_on_ok c.include.result (none_left c.args.code.now.items (code ∙ ap tag_code kept))

pub returns-in-IncludeWith-clause-state : goal.returns-in-IncludeWith-clause-state
returns-in-IncludeWith-clause-state c = λ told keeps code.
    let kept = rw c.in-IncludeWith.is at keeps in
    let old = compiler_state c.args.compiler.now in
    let event = ap (include_with_event (string_of c.in-IncludeWith.name)) (code ∙ ap tag_code kept.1) ∙ ap tag_event (sym kept.1) in
    IfOk-equal c.include_with.result _ _ _ c.include_with.ensures.state (ap (λ e. after_event e old) event)

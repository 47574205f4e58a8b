use Rattle.std.proofs.Common.{ap, sym, ◌∙◌}
use Rattle.std.proofs.lemmas.Result.{IfOk-equal}
use Rattle.upon_compiler.specs.After.{after_event}
use Rattle.upon_compiler.specs.Compiler.{compiler_state}
use Rattle.upon_compiler.specs.Events.{shown_event}
use Rattle.upon_syntax.specs.Pieces.{piece_code}
use Rattle.upon_syntax.specs.Told.{event_of}
use Rattle.upon_syntax.proofs.Told.{holds_on_ok, none_left}
use Rattle.upon_syntax.proofs.compile.parse.tell.tell.Goals as goal

pub returns-in-Raw-clause-state : goal.returns-in-Raw-clause-state
returns-in-Raw-clause-state c = λ told keeps code.
    let kept = rw c.in-Raw.is at keeps in
    let old = compiler_state c.args.compiler.now in
    IfOk-equal c.raw.result _ _ _ c.raw.ensures (ap (λ t. after_event (event_of t) old) (sym kept))

pub returns-in-Raw-clause-moved : goal.returns-in-Raw-clause-moved
returns-in-Raw-clause-moved c = λ told keeps code.
    let kept = rw c.in-Raw.is at keeps in
    holds_on_ok c.raw.result (none_left c.args.code.now.items (code ∙ ap piece_code kept))

pub returns-in-InlineExpr-clause-state : goal.returns-in-InlineExpr-clause-state
returns-in-InlineExpr-clause-state c = λ told keeps code.
    let kept = rw c.in-InlineExpr.is at keeps in
    let old = compiler_state c.args.compiler.now in
    let event = ap shown_event (code ∙ ap piece_code kept.1) ∙ ap event_of (sym kept.1) in
    IfOk-equal c.shown.result _ _ _ c.shown.ensures.state (ap (λ e. after_event e old) event)

pub returns-in-Block-clause-state : goal.returns-in-Block-clause-state
returns-in-Block-clause-state c = λ told keeps code.
    let kept = rw c.in-Block.is at keeps in
    let old = compiler_state c.args.compiler.now in
    IfOk-equal c.tell_tag.result _ _ _ (c.tell_tag.ensures.state kept.0 kept.2 (code ∙ ap piece_code kept.1)) (ap (λ t. after_event (event_of t) old) (sym kept.1))

pub returns-in-Block-clause-moved : goal.returns-in-Block-clause-moved
returns-in-Block-clause-moved c = λ told keeps code.
    let kept = rw c.in-Block.is at keeps in
    c.tell_tag.ensures.moved kept.0 kept.2 (code ∙ ap piece_code kept.1)

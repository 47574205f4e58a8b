use Rattle.std.proofs.Common.{subst}
use Rattle.upon_types.specs.View.{view}
use Rattle.upon_calls.specs.Arguments.{HasNoArgumentValue}
use Rattle.upon_calls.specs.Asked.{asked_by, IsUnasked}
use Rattle.upon_calls.specs.Calls.{TextFails, TextFaults, TextNotText, TextRefuses}
use Rattle.upon_calls.specs.declared.failure.Argument.TheVariants.{Source, Context, Options}
use Rattle.upon_calls.proofs.Ended.{text_rendered, text_fails}
use Rattle.upon_calls.proofs.Calls.{handed_on, is_refused, not_text}
use Rattle.upon_calls.proofs.render.render_text.Goals as goal

pub returns-in_err-source-clause-fails : goal.returns-in_err-source-clause-fails
returns-in_err-source-clause-fails c = handed_on (TextFails c.args.source.now c.args.context.now c.args.options.now) c.in_err-source.field-0.0 c.from_residual.result c.from_residual.ensures.1 (not_text (TextFaults c.args.source.now c.args.context.now c.args.options.now) (TextRefuses c.args.source.now c.args.context.now c.args.options.now) (TextNotText c.args.source.now c.args.context.now c.args.options.now) Source c.args.source.now c.in_err-source.field-0.0 c.in_err-source.ensures.none (λ no. no))

pub returns-in_err-context-clause-fails : goal.returns-in_err-context-clause-fails
returns-in_err-context-clause-fails c = handed_on (TextFails c.args.source.now c.args.context.now c.args.options.now) c.in_err-context.field-0.0 c.from_residual-in_err-context.result c.from_residual-in_err-context.ensures.1 (not_text (TextFaults c.args.source.now c.args.context.now c.args.options.now) (TextRefuses c.args.source.now c.args.context.now c.args.options.now) (TextNotText c.args.source.now c.args.context.now c.args.options.now) Context c.args.context.now c.in_err-context.field-0.0 c.in_err-context.ensures.none (λ no. no))

pub returns-in_err-options-clause-fails : goal.returns-in_err-options-clause-fails
returns-in_err-options-clause-fails c = handed_on (TextFails c.args.source.now c.args.context.now c.args.options.now) c.in_err-options.field-0.0 c.from_residual-in_err-options.result c.from_residual-in_err-options.ensures.1 (not_text (TextFaults c.args.source.now c.args.context.now c.args.options.now) (TextRefuses c.args.source.now c.args.context.now c.args.options.now) (TextNotText c.args.source.now c.args.context.now c.args.options.now) Options c.args.options.now c.in_err-options.field-0.0 c.in_err-options.ensures.none (λ no. no))

pub returns-in_err-options-2-clause-fails : goal.returns-in_err-options-2-clause-fails
returns-in_err-options-2-clause-fails c = handed_on (TextFails c.args.source.now c.args.context.now c.args.options.now) c.in_err-options-2.field-0.0 c.from_residual-in_err-options-2.result c.from_residual-in_err-options-2.ensures.1 (is_refused (TextFaults c.args.source.now c.args.context.now c.args.options.now) (TextRefuses c.args.source.now c.args.context.now c.args.options.now) (TextNotText c.args.source.now c.args.context.now c.args.options.now) Options c.in_err-options-2.field-0.0 c.in_err-options-2.ensures.refused (λ none. subst IsUnasked c.in_ok-options.ensures.text.0 none))

pub returns-in_err-context-2-clause-fails : goal.returns-in_err-context-2-clause-fails
returns-in_err-context-2-clause-fails c = handed_on (TextFails c.args.source.now c.args.context.now c.args.options.now) c.in_err-context-2.field-0.0 c.from_residual-in_err-context-2.result c.from_residual-in_err-context-2.ensures.1 (is_refused (TextFaults c.args.source.now c.args.context.now c.args.options.now) (TextRefuses c.args.source.now c.args.context.now c.args.options.now) (TextNotText c.args.source.now c.args.context.now c.args.options.now) Context c.in_err-context-2.field-0.0 c.in_err-context-2.ensures.refused (λ none. subst HasNoArgumentValue c.in_ok-context.ensures.text.0 none))

pub returns-clause-renders : goal.returns-clause-renders
returns-clause-renders c = text_rendered c.args.source.now c.args.context.now c.args.options.now _ _ _ c.in_ok-source.ensures.text.0 c.in_ok-context.ensures.text.0 c.in_ok-options.ensures.text.0 (asked_by c.in_ok-options-2.options) (view c.in_ok-context-2.context) c.in_ok-options-2.ensures.asked c.in_ok-context-2.ensures.read c.carry_out.result c.carry_out.ensures.gives

pub returns-clause-fails : goal.returns-clause-fails
returns-clause-fails c = text_fails c.args.source.now c.args.context.now c.args.options.now _ _ _ c.in_ok-source.ensures.text.0 c.in_ok-context.ensures.text.0 c.in_ok-options.ensures.text.0 (asked_by c.in_ok-options-2.options) (view c.in_ok-context-2.context) c.in_ok-options-2.ensures.asked c.in_ok-context-2.ensures.read c.carry_out.result c.carry_out.ensures.fails

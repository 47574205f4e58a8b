use Rattle.std.proofs.Common.{◌∙◌, Some, ap, sym, subst}
use Rattle.upon_types.specs.View.{view}
use Rattle.upon_calls.specs.Arguments.{HasNoArgumentValue}
use Rattle.upon_calls.specs.Asked.{asked_by, IsUnasked}
use Rattle.upon_calls.specs.Calls.{RenderFails, RenderFaults, RenderNotText, RenderRefuses}
use Rattle.upon_calls.specs.Templates.{lent_pairs}
use Rattle.upon_calls.specs.declared.failure.Argument.TheVariants.{Templates, Context, Name, Options}
use Rattle.upon_calls.proofs.Ended.{rendered, render_fails}
use Rattle.upon_calls.proofs.Calls.{handed_on, is_refused, no_sources, no_templates, not_text}
use Rattle.upon_calls.proofs.render.render.Goals as goal

pub returns-in_err-templates-clause-fails : goal.returns-in_err-templates-clause-fails
returns-in_err-templates-clause-fails c = handed_on (RenderFails c.args.templates.now c.args.context.now c.args.name.now c.args.options.now) c.in_err-templates.field-0.0 c.from_residual.result c.from_residual.ensures.1 (not_text (RenderFaults c.args.templates.now c.args.context.now c.args.name.now c.args.options.now) (RenderRefuses c.args.templates.now c.args.context.now c.args.name.now c.args.options.now) (RenderNotText c.args.templates.now c.args.context.now c.args.name.now c.args.options.now) Templates c.args.templates.now c.in_err-templates.field-0.0 c.in_err-templates.ensures.none (λ no. no))

pub returns-in_err-context-clause-fails : goal.returns-in_err-context-clause-fails
returns-in_err-context-clause-fails c = handed_on (RenderFails c.args.templates.now c.args.context.now c.args.name.now c.args.options.now) c.in_err-context.field-0.0 c.from_residual-in_err-context.result c.from_residual-in_err-context.ensures.1 (not_text (RenderFaults c.args.templates.now c.args.context.now c.args.name.now c.args.options.now) (RenderRefuses c.args.templates.now c.args.context.now c.args.name.now c.args.options.now) (RenderNotText c.args.templates.now c.args.context.now c.args.name.now c.args.options.now) Context c.args.context.now c.in_err-context.field-0.0 c.in_err-context.ensures.none (λ no. no))

pub returns-in_err-name-clause-fails : goal.returns-in_err-name-clause-fails
returns-in_err-name-clause-fails c = handed_on (RenderFails c.args.templates.now c.args.context.now c.args.name.now c.args.options.now) c.in_err-name.field-0.0 c.from_residual-in_err-name.result c.from_residual-in_err-name.ensures.1 (not_text (RenderFaults c.args.templates.now c.args.context.now c.args.name.now c.args.options.now) (RenderRefuses c.args.templates.now c.args.context.now c.args.name.now c.args.options.now) (RenderNotText c.args.templates.now c.args.context.now c.args.name.now c.args.options.now) Name c.args.name.now c.in_err-name.field-0.0 c.in_err-name.ensures.none (λ no. no))

pub returns-in_err-options-clause-fails : goal.returns-in_err-options-clause-fails
returns-in_err-options-clause-fails c = handed_on (RenderFails c.args.templates.now c.args.context.now c.args.name.now c.args.options.now) c.in_err-options.field-0.0 c.from_residual-in_err-options.result c.from_residual-in_err-options.ensures.1 (not_text (RenderFaults c.args.templates.now c.args.context.now c.args.name.now c.args.options.now) (RenderRefuses c.args.templates.now c.args.context.now c.args.name.now c.args.options.now) (RenderNotText c.args.templates.now c.args.context.now c.args.name.now c.args.options.now) Options c.args.options.now c.in_err-options.field-0.0 c.in_err-options.ensures.none (λ no. no))

pub returns-in_err-options-2-clause-fails : goal.returns-in_err-options-2-clause-fails
returns-in_err-options-2-clause-fails c = handed_on (RenderFails c.args.templates.now c.args.context.now c.args.name.now c.args.options.now) c.in_err-options-2.field-0.0 c.from_residual-in_err-options-2.result c.from_residual-in_err-options-2.ensures.1 (is_refused (RenderFaults c.args.templates.now c.args.context.now c.args.name.now c.args.options.now) (RenderRefuses c.args.templates.now c.args.context.now c.args.name.now c.args.options.now) (RenderNotText c.args.templates.now c.args.context.now c.args.name.now c.args.options.now) Options c.in_err-options-2.field-0.0 c.in_err-options-2.ensures.refused (λ none. subst IsUnasked c.in_ok-options.ensures.text.0 none))

pub returns-in_err-templates-2-clause-fails : goal.returns-in_err-templates-2-clause-fails
returns-in_err-templates-2-clause-fails c = handed_on (RenderFails c.args.templates.now c.args.context.now c.args.name.now c.args.options.now) c.in_err-templates-2.field-0.0 c.from_residual-in_err-templates-2.result c.from_residual-in_err-templates-2.ensures.1 (is_refused (RenderFaults c.args.templates.now c.args.context.now c.args.name.now c.args.options.now) (RenderRefuses c.args.templates.now c.args.context.now c.args.name.now c.args.options.now) (RenderNotText c.args.templates.now c.args.context.now c.args.name.now c.args.options.now) Templates c.in_err-templates-2.field-0.0 c.in_err-templates-2.ensures.refused (no_templates c.args.templates.now _ c.in_ok-templates.ensures.text.0))

pub returns-in_err-sources-clause-fails : goal.returns-in_err-sources-clause-fails
returns-in_err-sources-clause-fails c = handed_on (RenderFails c.args.templates.now c.args.context.now c.args.name.now c.args.options.now) c.in_err-sources.field-0.0 c.from_residual-in_err-sources.result c.from_residual-in_err-sources.ensures.1 (is_refused (RenderFaults c.args.templates.now c.args.context.now c.args.name.now c.args.options.now) (RenderRefuses c.args.templates.now c.args.context.now c.args.name.now c.args.options.now) (RenderNotText c.args.templates.now c.args.context.now c.args.name.now c.args.options.now) Templates c.in_err-sources.field-0.0 c.in_err-sources.ensures.refused (no_sources c.args.templates.now _ (view c.in_ok-templates-2.templates) c.in_ok-templates.ensures.text.0 c.in_ok-templates-2.ensures.read))

pub returns-in_err-context-2-clause-fails : goal.returns-in_err-context-2-clause-fails
returns-in_err-context-2-clause-fails c = handed_on (RenderFails c.args.templates.now c.args.context.now c.args.name.now c.args.options.now) c.in_err-context-2.field-0.0 c.from_residual-in_err-context-2.result c.from_residual-in_err-context-2.ensures.1 (is_refused (RenderFaults c.args.templates.now c.args.context.now c.args.name.now c.args.options.now) (RenderRefuses c.args.templates.now c.args.context.now c.args.name.now c.args.options.now) (RenderNotText c.args.templates.now c.args.context.now c.args.name.now c.args.options.now) Context c.in_err-context-2.field-0.0 c.in_err-context-2.ensures.refused (λ none. subst HasNoArgumentValue c.in_ok-context.ensures.text.0 none))

pub returns-clause-renders : goal.returns-clause-renders
returns-clause-renders c = rendered c.args.templates.now c.args.context.now c.args.name.now c.args.options.now _ _ _ _ c.in_ok-templates.ensures.text.0 c.in_ok-context.ensures.text.0 c.in_ok-name.ensures.text.0 c.in_ok-options.ensures.text.0 (asked_by c.in_ok-options-2.options) (view c.in_ok-templates-2.templates) (view c.in_ok-context-2.context) (lent_pairs c.as_slice.result.now) c.in_ok-options-2.ensures.asked c.in_ok-templates-2.ensures.read (c.in_ok-sources.ensures.read ∙ ap (λ items. Some (lent_pairs items)) (sym c.as_slice.ensures.value)) c.in_ok-context-2.ensures.read c.carry_out.result c.carry_out.ensures.gives

pub returns-clause-fails : goal.returns-clause-fails
returns-clause-fails c = render_fails c.args.templates.now c.args.context.now c.args.name.now c.args.options.now _ _ _ _ c.in_ok-templates.ensures.text.0 c.in_ok-context.ensures.text.0 c.in_ok-name.ensures.text.0 c.in_ok-options.ensures.text.0 (asked_by c.in_ok-options-2.options) (view c.in_ok-templates-2.templates) (view c.in_ok-context-2.context) (lent_pairs c.as_slice.result.now) c.in_ok-options-2.ensures.asked c.in_ok-templates-2.ensures.read (c.in_ok-sources.ensures.read ∙ ap (λ items. Some (lent_pairs items)) (sym c.as_slice.ensures.value)) c.in_ok-context-2.ensures.read c.carry_out.result c.carry_out.ensures.fails

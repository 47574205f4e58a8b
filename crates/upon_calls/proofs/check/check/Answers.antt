use Rattle.std.proofs.Common.{Some, option_map, ap, inl, subst, sym, ◌∙◌}
use Rattle.upon_types.specs.View.{view}
use Rattle.upon_calls.specs.Asked.{asked_by}
use Rattle.upon_calls.specs.Calls.{CheckFails, ChecksNotText, ChecksRefuse, ChecksWrong}
use Rattle.upon_calls.specs.Contexts.{contexts_by, IsCheckUnasked}
use Rattle.upon_calls.specs.Templates.{lent_pairs}
use Rattle.upon_calls.specs.declared.failure.Argument.TheVariants.{Templates, Options}
use Rattle.upon_calls.proofs.Calls.{handed_on, is_refused, no_sources, no_templates, not_text}
use Rattle.upon_calls.proofs.Ended.{check_fails, checked_right}
use Rattle.upon_calls.proofs.GivenContexts.{unchecked, unchecked_value}
use Rattle.upon_calls.proofs.check.check.Goals as goal

pub returns-in_err-templates-clause-fails : goal.returns-in_err-templates-clause-fails
returns-in_err-templates-clause-fails c = handed_on (CheckFails c.args.templates.now c.args.options.now) c.in_err-templates.field-0.0 c.from_residual.result c.from_residual.ensures.1 (not_text (ChecksWrong c.args.templates.now c.args.options.now) (ChecksRefuse c.args.templates.now c.args.options.now) (ChecksNotText c.args.templates.now c.args.options.now) Templates c.args.templates.now c.in_err-templates.field-0.0 c.in_err-templates.ensures.none (λ no. no))

pub returns-in_err-options-clause-fails : goal.returns-in_err-options-clause-fails
returns-in_err-options-clause-fails c = handed_on (CheckFails c.args.templates.now c.args.options.now) c.in_err-options.field-0.0 c.from_residual-in_err-options.result c.from_residual-in_err-options.ensures.1 (not_text (ChecksWrong c.args.templates.now c.args.options.now) (ChecksRefuse c.args.templates.now c.args.options.now) (ChecksNotText c.args.templates.now c.args.options.now) Options c.args.options.now c.in_err-options.field-0.0 c.in_err-options.ensures.none (λ no. no))

pub returns-in_err-value-clause-fails : goal.returns-in_err-value-clause-fails
returns-in_err-value-clause-fails c = handed_on (CheckFails c.args.templates.now c.args.options.now) c.in_err-value.field-0.0 c.from_residual-in_err-value.result c.from_residual-in_err-value.ensures.1 (is_refused (ChecksWrong c.args.templates.now c.args.options.now) (ChecksRefuse c.args.templates.now c.args.options.now) (ChecksNotText c.args.templates.now c.args.options.now) Options c.in_err-value.field-0.0 c.in_err-value.ensures.refused (λ none. inl (subst IsCheckUnasked c.in_ok-options.ensures.text.0 (unchecked_value _ none))))

pub returns-in_err-checking-clause-fails : goal.returns-in_err-checking-clause-fails
returns-in_err-checking-clause-fails c = handed_on (CheckFails c.args.templates.now c.args.options.now) c.in_err-checking.field-0.0 c.from_residual-in_err-checking.result c.from_residual-in_err-checking.ensures.1 (is_refused (ChecksWrong c.args.templates.now c.args.options.now) (ChecksRefuse c.args.templates.now c.args.options.now) (ChecksNotText c.args.templates.now c.args.options.now) Options c.in_err-checking.field-0.0 c.in_err-checking.ensures.refused (λ nothing. inl (subst IsCheckUnasked c.in_ok-options.ensures.text.0 (unchecked _ (view c.in_ok-value.value) c.in_ok-value.ensures.read nothing))))

pub returns-in_err-templates-2-clause-fails : goal.returns-in_err-templates-2-clause-fails
returns-in_err-templates-2-clause-fails c = handed_on (CheckFails c.args.templates.now c.args.options.now) c.in_err-templates-2.field-0.0 c.from_residual-in_err-templates-2.result c.from_residual-in_err-templates-2.ensures.1 (is_refused (ChecksWrong c.args.templates.now c.args.options.now) (ChecksRefuse c.args.templates.now c.args.options.now) (ChecksNotText c.args.templates.now c.args.options.now) Templates c.in_err-templates-2.field-0.0 c.in_err-templates-2.ensures.refused (no_templates c.args.templates.now _ c.in_ok-templates.ensures.text.0))

pub returns-in_err-sources-clause-fails : goal.returns-in_err-sources-clause-fails
returns-in_err-sources-clause-fails c = handed_on (CheckFails c.args.templates.now c.args.options.now) c.in_err-sources.field-0.0 c.from_residual-in_err-sources.result c.from_residual-in_err-sources.ensures.1 (is_refused (ChecksWrong c.args.templates.now c.args.options.now) (ChecksRefuse c.args.templates.now c.args.options.now) (ChecksNotText c.args.templates.now c.args.options.now) Templates c.in_err-sources.field-0.0 c.in_err-sources.ensures.refused (no_sources c.args.templates.now _ (view c.in_ok-templates-2.templates) c.in_ok-templates.ensures.text.0 c.in_ok-templates-2.ensures.read))

pub returns-clause-right : goal.returns-clause-right
returns-clause-right c = checked_right c.args.templates.now c.args.options.now _ _ c.in_ok-templates.ensures.text.0 c.in_ok-options.ensures.text.0 (asked_by c.in_ok-checking.checking.options) (option_map contexts_by c.in_ok-checking.checking.contexts) (view c.in_ok-value.value) (view c.in_ok-templates-2.templates) (lent_pairs c.as_slice.result.now) c.in_ok-value.ensures.read c.in_ok-checking.ensures.asked c.in_ok-templates-2.ensures.read (c.in_ok-sources.ensures.read ∙ ap (λ items. Some (lent_pairs items)) (sym c.as_slice.ensures.value)) c.check_given.result c.check_given.ensures.empty c.check_given.ensures.right

pub returns-clause-fails : goal.returns-clause-fails
returns-clause-fails c = check_fails c.args.templates.now c.args.options.now _ _ c.in_ok-templates.ensures.text.0 c.in_ok-options.ensures.text.0 (asked_by c.in_ok-checking.checking.options) (option_map contexts_by c.in_ok-checking.checking.contexts) (view c.in_ok-value.value) (view c.in_ok-templates-2.templates) (lent_pairs c.as_slice.result.now) c.in_ok-value.ensures.read c.in_ok-checking.ensures.asked c.in_ok-templates-2.ensures.read (c.in_ok-sources.ensures.read ∙ ap (λ items. Some (lent_pairs items)) (sym c.as_slice.ensures.value)) c.check_given.result c.check_given.ensures.fails

use Rattle.std.proofs.Common.{sym, subst}
use Rattle.upon_types.specs.Error.{fault_of}
use Rattle.upon_types.specs.View.{view}
use Rattle.upon_language_spec.specs.Grammar.{HasTree}
use Rattle.upon_engine.specs.Engine.{engine_syntax}
use Rattle.upon_engine.specs.Template.{template_tree}
use Rattle.upon_engine.specs.Texts.{texts_of}
use Rattle.upon_calls.proofs.Rendering.{reported, text_ends, text_first, text_means}
use Rattle.upon_calls.proofs.work.render_text.Goals as goal

pub returns-in-Err-clause-fails : goal.returns-in-Err-clause-fails
returns-in-Err-clause-fails g c =
    reported _ _ (fault_of c.in-Err.error) c.of_error.result c.of_error.ensures (text_first c.args.limits.now (texts_of (λ f. (g.dyn-1.0.entry f.vtable).1.formats f.value) (λ f. (g.dyn-2.0.entry f.vtable).1.answers f.value) c.args.engine.now) c.args.source.now (view c.args.value.now) c.in-Err.error c.in-Err.ensures.fault)

pub answer_text-requires : goal.answer_text-requires
answer_text-requires g c = subst (λ s. HasTree (engine_syntax c.args.engine.now) s (template_tree c.in-Ok.template)) (sym c.in-Ok.ensures.source) c.in-Ok.ensures.has_tree

pub returns-in-Ok-answer_text-clause-gives : goal.returns-in-Ok-answer_text-clause-gives
returns-in-Ok-answer_text-clause-gives g c =
    text_means c.args.limits.now (texts_of (λ f. (g.dyn-1.0.entry f.vtable).1.formats f.value) (λ f. (g.dyn-2.0.entry f.vtable).1.answers f.value) c.args.engine.now) c.args.source.now _ (template_tree c.in-Ok.template) (view c.args.value.now) c.in-Ok-answer_text.text c.in-Ok.ensures.source c.in-Ok.ensures.has_tree c.in-Ok-answer_text.ensures

pub returns-clause-fails : goal.returns-clause-fails
returns-clause-fails g c =
    reported _ _ (fault_of c.in-Err-answer_text.error) c.of_error-in-Err-answer_text.result c.of_error-in-Err-answer_text.ensures (text_ends c.args.limits.now (texts_of (λ f. (g.dyn-1.0.entry f.vtable).1.formats f.value) (λ f. (g.dyn-2.0.entry f.vtable).1.answers f.value) c.args.engine.now) c.args.source.now _ (template_tree c.in-Ok.template) (view c.args.value.now) c.in-Err-answer_text.error c.in-Ok.ensures.source c.in-Ok.ensures.has_tree c.in-Err-answer_text.ensures)

use Rattle.upon_vm_steps.specs.Acts.{calls_on}
use Rattle.upon_engine.proofs.Roots.{as_before, at_source}
use Rattle.upon_engine.proofs.values.SourceValuesValues.render.Goals as goal

pub returns-clause-ran : goal.returns-clause-ran
returns-clause-ran g c t is =
    at_source g.S.ValueSource.ask g.S.ValueSource.value_state c.render-ended.result.0 (g.W.Output.given c.args.out.now) (g.W.Output.given c.render-ended.new.out)
    (λ ask. calls_on (g.C.Callables.callables c.args.callables.now) (g.C.Callables.default_formatter c.args.callables.now) ask)
    (g.T.TemplateSource.resolve c.args.templates) c.args.running.left t _ (g.T.TemplateSource.template_state c.args.templates) _
    _ _ _ c.in-Some.source c.over_source-stack.ensures.root c.in-Some.ensures (λ ask q asks. c.render-ended.ensures.ran t ask q is asks)

pub returns-clause-asks : goal.returns-clause-asks
returns-clause-asks g c =
    as_before g.S.ValueSource.ask _ _ _ c.in-Some.source c.over_source-stack.ensures.root c.in-Some.ensures c.render-ended.ensures.sources.asks

pub returns-clause-held : goal.returns-clause-held
returns-clause-held g c =
    as_before g.S.ValueSource.holds _ _ _ c.in-Some.source c.over_source-stack.ensures.root c.in-Some.ensures c.render-ended.ensures.sources.values_held

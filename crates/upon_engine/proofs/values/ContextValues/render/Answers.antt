use Rattle.std.proofs.Common.{refl}
use Rattle.upon_lookup.specs.Asked.{refuses_all}
use Rattle.upon_render.specs.Stack.{root_of}
use Rattle.upon_vm_steps.specs.Acts.{calls_on}
use Rattle.upon_engine.proofs.Roots.{at_value}
use Rattle.upon_engine.proofs.values.ContextValues.render.Goals as goal

pub returns-clause-ran : goal.returns-clause-ran
returns-clause-ran g c t is =
    at_value (λ _. refuses_all) (λ _. tt) c.render-ended.result.0 (g.W.Output.given c.args.out.now) (g.W.Output.given c.render-ended.new.out)
    (λ ask. calls_on (g.C.Callables.callables c.args.callables.now) (g.C.Callables.default_formatter c.args.callables.now) ask)
    (g.T.TemplateSource.resolve c.args.templates) c.args.running.left t _ (g.T.TemplateSource.template_state c.args.templates) _
    refuses_all tt _ (root_of c.render-ended.result.1) _ c.over-stack.ensures.root (λ s. refl) (λ ask q asks. c.render-ended.ensures.ran t ask q is asks)

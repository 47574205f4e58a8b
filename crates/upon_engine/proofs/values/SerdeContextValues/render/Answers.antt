use Rattle.std.proofs.Common.{ℕ, List, option_map, Bor}
use Rattle.upon_lookup.specs.Asked.{refuses_all}
use Rattle.upon_vm_steps.specs.Acts.{calls_on}
use Rattle.upon_engine.proofs.Roots.{at_made}
use Rattle.upon_engine.proofs.values.SerdeContextValues.render.Goals as goal

pub returns-clause-ran : goal.returns-clause-ran
returns-clause-ran g c t is =
    at_made g.T.TemplateSource.resolve g.T.TemplateSource.template_state c.render-ended.result.0 (g.W.Output.given c.args.out.now) (g.W.Output.given c.render-ended.new.out)
    (calls_on (g.C.Callables.callables c.args.callables.now) (g.C.Callables.default_formatter c.args.callables.now) (refuses_all {Q = Unit {0}}))
    c.args.running.left t (option_map (λ (name : Bor (List ℕ)). name.now) c.args.running.name) tt tt (g.T.TemplateSource.template_state c.render-ended.result.2.templates)
    c.args.self.value c.in-Ok.value _ c.new-lent.result.templates c.args.templates c.in-Ok.is c.in-Ok.value-is c.new-lent.ensures (c.render-ended.ensures.ran t is)

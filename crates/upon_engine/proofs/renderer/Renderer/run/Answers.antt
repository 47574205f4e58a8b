use Rattle.std.proofs.Common.{rules, ℕ, ◌-◌, ap, subst}
use Rattle.upon_types.specs.TreeSpans.{TreeLiesIn}
use Rattle.upon_meaning_spec.specs.Engine.{Template}
use Rattle.upon_meaning_spec.specs.Outcome.{states}
use Rattle.upon_vm_steps.specs.Program.{IsProgramOf}
use Rattle.upon_vm.specs.Runs.{Ran}
use Rattle.upon_engine.specs.Base.{outcome_within}
use Rattle.upon_engine.specs.Calls.{call_of}
use Rattle.upon_engine.specs.Template.{template_of}
use Rattle.upon_engine.proofs.TemplateSpans.{template_lies}
use Rattle.upon_engine.proofs.renderer.Renderer.run.Goals as goal

pub render-requires : goal.render-requires
render-requires g c =
    let has : (x : Template) × IsProgramOf c.program_of.result x × TreeLiesIn x.source x.tree = (template_of c.args.self.template.now, c.program_of.ensures, template_lies c.args.self.template.now) in
    search rules

pub returns-clause-ran : goal.returns-clause-ran
returns-clause-ran g c =
    let call = call_of g.E.Callables.callables g.E.Callables.default_formatter g.V.Values.asks g.V.Values.root g.V.Values.values_state g.T.TemplateSource.resolve g.T.TemplateSource.template_state c.args.self in
    let F : ℕ → Type 0 = λ left. Ran c.render.result.0 (g.O.Output.given c.args.out.now) (g.O.Output.given c.render.new.out) (outcome_within call.rendering.calls call.rendering.resolve left call.template call.name call.base call.from)
    (states (g.V.Values.values_state c.render.result.1) (g.T.TemplateSource.template_state c.render.result.2)) in
    subst F (ap (λ n. n - 1) c.max.ensures) (c.render.ensures.ran (template_of c.args.self.template.now) c.program_of.ensures)

use Rattle.std.proofs.Common.{rules, option_map}
use Rattle.upon_types.specs.TreeSpans.{TreeLiesIn}
use Rattle.upon_lookup.specs.Asked.{refuses_all}
use Rattle.upon_render.specs.Stack.{root_of}
use Rattle.upon_meaning_spec.specs.Engine.{Template}
use Rattle.upon_meaning_spec.specs.Outcome.{states}
use Rattle.upon_vm_steps.specs.Program.{IsProgramOf}
use Rattle.upon_engine.specs.Template.{template_of}
use Rattle.upon_engine.proofs.TemplateSpans.{template_lies}
use Rattle.upon_engine.proofs.InLimits.{never_asks, write_said}
use Rattle.upon_engine.proofs.engine.Engine.write_within.Goals as goal

pub render_within-ended-requires : goal.render_within-ended-requires
render_within-ended-requires g c =
    let has : (x : Template) × IsProgramOf c.program_of.result x × TreeLiesIn x.source x.tree = (template_of c.args.template.now, c.program_of.ensures, template_lies c.args.template.now) in
    search rules

pub returns-clause-means : goal.returns-clause-means
returns-clause-means g c =
    let ended = c.render_within-ended in
    write_said _ _ c.args.self.now c.args.limits.now (template_of c.args.template.now) (option_map (λ n. n.now) c.args.name) c.args.value ended.result.0
    (g.O.Output.given c.args.out.now) (g.O.Output.given ended.new.out) (states tt tt) (root_of c.over-stack.result) c.depth-depth.result c.max.result c.reported_within.result
    (g.O.Output.mark ended.new.out) (g.O.Output.mark c.reported_within.new.out) (g.O.Output.given c.reported_within.new.out)
    c.over-stack.ensures.root c.depth-depth.ensures c.max.ensures
    (ended.ensures.ran (template_of c.args.template.now) refuses_all tt c.program_of.ensures (never_asks (root_of c.over-stack.result)))
    c.reported_within.ensures.report c.reported_within.ensures.mark c.reported_within.ensures.given

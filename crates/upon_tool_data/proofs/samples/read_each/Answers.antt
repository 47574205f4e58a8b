use Rattle.std.proofs.Common.{◌∙◌, ap, subst}
use Rattle.upon_types.specs.View.{view}
use Rattle.upon_tool_data.specs.Context.{IsContext}
use Rattle.upon_tool_data.proofs.SampleSteps.{read_more}
use Rattle.upon_tool_data.proofs.samples.read_each.Goals as goal

pub loop-group-preserved : goal.loop-group-preserved
loop-group-preserved g c =
    let words = c.args.words.now in
    read_more (g.R.Sources.world c.args.rt.now) words c.args.groups.now c.loop-group.group-index _ _ _ _ _ _ c.in_ok-context.field-0 c.loop-group-test.true c.in_ok-push.ensures.items c.loop-group.invariant
    (subst (λ files. IsContext (g.R.Sources.world c.args.rt.now) words.env files words.format words.values.now words.texts.now (g.I.Read.remaining c.loop-group.input) (view c.in_ok-context.field-0) (g.I.Read.remaining c.context.new.input)) (c.as_slice-files.ensures.value ∙ ap (λ group. group.items) c.group-item.is) c.in_ok-context.ensures.read)

use Rattle.upon_shape.specs.View.{shape_view}
use Rattle.upon_calls.specs.Templates.{lent_pairs}
use Rattle.upon_tool.proofs.Calls.{one_unread}
use Rattle.upon_tool.proofs.Fits.{all_fit, one_more, text_fits}
use Rattle.upon_tool.proofs.fitting.each_fits.Goals as goal

pub loop-name-preserved : goal.loop-name-preserved
loop-name-preserved g c =
    one_more (g.R.Sources.world c.args.rt.now) c.args.on.escape c.args.on.standard (lent_pairs c.args.on.folder.now) (shape_view c.args.on.shape.now) c.args.names.now c.loop-name.name-index _ c.loop-name.each c.in_ok-each.field-0 c.loop-name-test.true c.loop-name.invariant (λ one. text_fits (g.R.Sources.world c.args.rt.now) c.args.on.escape c.args.on.standard (lent_pairs c.args.on.folder.now) (shape_view c.args.on.shape.now) _ _ _ _ c.as_str.ensures.value c.in_ok-text.ensures.text (c.in_ok-each.ensures one))

pub returns-clause-fits : goal.returns-clause-fits
returns-clause-fits g c = λ each.
    all_fit (g.R.Sources.world c.args.rt.now) c.args.on.escape c.args.on.standard (lent_pairs c.args.on.folder.now) (shape_view c.args.on.shape.now) c.args.names.now c.loop-name.name-index c.loop-name-test.false (c.loop-name.invariant each)

pub returns-in_err-text-clause-refused : goal.returns-in_err-text-clause-refused
returns-in_err-text-clause-refused g c =
    one_unread (g.R.Sources.world c.args.rt.now) c.args.names.now c.loop-name.name-index _ _ c.in_err-text.field-0.0 c.from_residual.result c.loop-name-test.true c.from_residual.ensures.1 c.in_err-text.ensures.unread

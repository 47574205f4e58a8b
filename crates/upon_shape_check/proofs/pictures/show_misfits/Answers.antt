use Rattle.upon_engine.specs.Texts.{texts_of}
use Rattle.upon_shape_check.specs.Doubted.{misfits_view}
use Rattle.upon_shape_check.specs.Pictures.{shown_view, spots_of}
use Rattle.upon_shape_check.proofs.Showing.{all_shown, one_shown}
use Rattle.upon_shape_check.proofs.pictures.show_misfits.Goals as goal

pub loop-misfit-preserved : goal.loop-misfit-preserved
loop-misfit-preserved g c =
    one_shown (texts_of (λ f. (g.dyn-1.0.entry f.vtable).1.formats f.value) (λ f. (g.dyn-2.0.entry f.vtable).1.answers f.value) c.args.known.now.engine.now) (spots_of (misfits_view c.args.misfits.now)) c.args.misfits.now c.loop-misfit.misfit-index c.misfit-item.result (shown_view c.args.pictures.now) (shown_view c.loop-misfit.pictures) (shown_view c.show_misfit.new.pictures) c.loop-misfit-test.true
    c.misfit-item.is c.loop-misfit.invariant c.in_ok-show_misfit.ensures

pub returns : goal.returns
returns g c =
    all_shown (texts_of (λ f. (g.dyn-1.0.entry f.vtable).1.formats f.value) (λ f. (g.dyn-2.0.entry f.vtable).1.answers f.value) c.args.known.now.engine.now) (spots_of (misfits_view c.args.misfits.now)) c.args.misfits.now c.loop-misfit.misfit-index (shown_view c.args.pictures.now) (shown_view c.loop-misfit.pictures) c.loop-misfit-test.false c.loop-misfit.invariant

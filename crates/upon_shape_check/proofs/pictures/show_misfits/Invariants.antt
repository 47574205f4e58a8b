use Rattle.std.proofs.Common.{drop}
use Rattle.upon_engine.specs.Texts.{texts_of}
use Rattle.upon_shape_check.specs.Doubted.{misfits_view}
use Rattle.upon_shape_check.specs.Pictures.{shown_view, spots_of}
use Rattle.upon_shape_check.proofs.Showing.{ShowsOn}
use Rattle.upon_shape_check.proofs.pictures.show_misfits.Given as goal

-- the misfits so far are shown
abbrev pub invariant-loop-misfit : goal.invariant-loop-misfit
invariant-loop-misfit g l =
    ShowsOn (texts_of (λ f. (g.dyn-1.0.entry f.vtable).1.formats f.value) (λ f. (g.dyn-2.0.entry f.vtable).1.answers f.value) l.known.engine.now) (spots_of (misfits_view l.misfits)) (drop l.misfit-index l.misfits) (shown_view l.fn.pictures) (shown_view l.pictures)

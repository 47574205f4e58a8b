use Rattle.std.proofs.Common.{inl, inr, refl}
use Rattle.upon_shape.specs.View.{shape_view}
use Rattle.upon_shape_check.specs.Callables.{declared_view}
use Rattle.upon_shape_check.specs.Doubted.{IsNoMemory}
use Rattle.upon_engine.specs.Texts.{texts_of}
use Rattle.upon_shape_check.specs.Pictures.{places_of}
use Rattle.upon_shape_check.proofs.RefusedPlaces.{refused_places}
use Rattle.upon_calls.proofs.Placing.{refused_at, shown_unless}
use Rattle.upon_calls.proofs.Unsure.{refused_unsure, unless_failed}
use Rattle.upon_calls.proofs.misfits.show_page.Goals as goal

pub returns-in-Err-clause-unsure : goal.returns-in-Err-clause-unsure
returns-in-Err-clause-unsure g c =
    unless_failed c.show_refusal.result (IsNoMemory c.in-Err.refusal) _ c.show_refusal.ensures.memory
    (λ no some. inr (refused_unsure (texts_of (λ f. (g.dyn-1.0.entry f.vtable).1.formats f.value) (λ f. (g.dyn-2.0.entry f.vtable).1.answers f.value) c.args.known.now.engine.now)
    (declared_view c.args.known.now.declared.now) c.args.name.now (shape_view c.args.shape.now) c.in-Err.refusal no c.in-Err.ensures.doubted c.in-Err.ensures.missing))

pub returns-in-Ok-clause-shows : goal.returns-in-Ok-clause-shows
returns-in-Ok-clause-shows g c = inl (c.in-Ok.ensures.unless_deep, refl)

pub returns-in-Err-clause-shows : goal.returns-in-Err-clause-shows
returns-in-Err-clause-shows g c =
    shown_unless c.show_refusal.result (IsNoMemory c.in-Err.refusal) _ _ c.show_refusal.ensures.memory c.show_refusal.ensures.pictures
    (λ no shows. inr (
      places_of c.in-Err.refusal,
      refused_at (texts_of (λ f. (g.dyn-1.0.entry f.vtable).1.formats f.value) (λ f. (g.dyn-2.0.entry f.vtable).1.answers f.value) c.args.known.now.engine.now)
          (declared_view c.args.known.now.declared.now) c.args.name.now (shape_view c.args.shape.now) c.in-Err.refusal no c.in-Err.ensures.doubted c.in-Err.ensures.missing,
      refused_places (λ f. (g.dyn-1.0.entry f.vtable).1.formats f.value) (λ f. (g.dyn-2.0.entry f.vtable).1.answers f.value) c.args.known.now.engine.now (declared_view c.args.known.now.declared.now) c.args.name.now (shape_view c.args.shape.now) c.in-Err.refusal c.in-Err.ensures.doubted,
      shows,
    ))

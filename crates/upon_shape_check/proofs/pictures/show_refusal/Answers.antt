use Rattle.upon_engine.specs.Texts.{texts_of}
use Rattle.upon_shape_check.specs.Pictures.{places_of, shown_view}
use Rattle.upon_shape_check.proofs.Showing.{why_shown}
use Rattle.upon_shape_check.proofs.pictures.show_refusal.Goals as goal

pub returns-clause-pictures : goal.returns-clause-pictures
returns-clause-pictures g c =
    why_shown c.say_somewhere.result (texts_of (λ f. (g.dyn-1.0.entry f.vtable).1.formats f.value) (λ f. (g.dyn-2.0.entry f.vtable).1.answers f.value) c.args.known.now.engine.now) (places_of c.args.refusal) (shown_view c.args.pictures.now) (shown_view c.show_places.new.pictures) _ c.in_ok-show_places.ensures.pictures c.say_somewhere.ensures.said

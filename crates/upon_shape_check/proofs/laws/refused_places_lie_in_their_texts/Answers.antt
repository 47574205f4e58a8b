use Rattle.upon_shape_check.proofs.RefusedPlaces.{refused_places}
use Rattle.upon_shape_check.proofs.laws.refused_places_lie_in_their_texts.Goals as goal

pub returns : goal.returns
returns g c = λ declared name s refusal doubted. refused_places (λ f. (g.dyn-1.0.entry f.vtable).1.formats f.value) (λ f. (g.dyn-2.0.entry f.vtable).1.answers f.value) c.args.engine.now declared name s refusal doubted

use Rattle.std.proofs.Common.{◌≡◌, map, ap, ◌∙◌}
use Rattle.upon_types.specs.Val.{Val}
use Rattle.upon_types.specs.View.{view, vals_view}
use Rattle.upon_meaning_spec.specs.MapOrder.{IsAmong}
use Rattle.upon_shape_spec.specs.Cut.{cut_to, AllRiseTo}
use Rattle.upon_shape_spec.specs.Fits.{Fits}
use Rattle.upon_shape_spec.specs.Join.{items_shape, samples_shape}
use Rattle.upon_shape.specs.View.{shape_view}
use Rattle.upon_shape.specs.declared.shape.Shape.{Shape}
use Rattle.upon_shape.proofs.Samples.{from_one, from_both, items_shape-samples, of_samples_fit}
use Rattle.upon_shape.proofs.shape.Shape.of_samples.Goals as goal

pub returns-clause-shape : goal.returns-clause-shape
returns-clause-shape c =
    let vs = map view c.args.samples.now in
    from_one c.joined_shape.result (λ (s : Shape). shape_view s ≡ cut_to 128 (items_shape (vals_view c.args.samples.now))) (λ (s : Shape). shape_view s ≡ cut_to 128 (samples_shape vs)) (λ s e. e ∙ ap (cut_to 128) (items_shape-samples vs)) c.joined_shape.ensures.shape

pub returns-clause-fits : goal.returns-clause-fits
returns-clause-fits c =
    let vs = map view c.args.samples.now in
    from_both c.joined_shape.result (λ (s : Shape). shape_view s ≡ cut_to 128 (items_shape (vals_view c.args.samples.now))) (λ (s : Shape). AllRiseTo 128 (vals_view c.args.samples.now)) (λ (s : Shape). (v : Val) → IsAmong v vs → Fits (shape_view s) v)
    (λ s. of_samples_fit 128 vs (shape_view s)) c.joined_shape.ensures.shape c.joined_shape.ensures.rises
